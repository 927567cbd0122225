use Rattle.std.proofs.Common.{[], All, map, ap, subst, ◌∙◌}
use Rattle.std.proofs.lemmas.List.Elements.{All-more}
use Rattle.nvm_text.proofs.Taking.{loop_front, loop_next, next_of_map}
use Rattle.nvm_file.specs.Fits.{DoneFits}
use Rattle.nvm_file.specs.WorkSpelling.{work_bytes}
use Rattle.nvm_file.proofs.writing.done_jobs.write_workers.Goals as goal

pub returns-in_err-write_work-clause-front : goal.returns-in_err-write_work-clause-front
returns-in_err-write_work-clause-front g c =
    let workers = c.args.workers.now in
    let i = c.loop-work.work-index in
    let next = next_of_map work_bytes (λ work. work.items) workers i _ (work_bytes c.deref.result.now) c.loop-work-test.true
    (ap work_bytes (c.deref.ensures.value ∙ ap (λ work. work.items) c.work-item.is)) in
    loop_front c.from_residual.result work_bytes (map (λ work. work.items) workers) i _ _ _ [] (work_bytes c.deref.result.now) next
    c.loop-work.invariant.written c.in_err-write_work.ensures.front

pub loop-work-preserved : goal.loop-work-preserved
loop-work-preserved g c =
    let workers = c.args.workers.now in
    let i = c.loop-work.work-index in
    let next = next_of_map work_bytes (λ work. work.items) workers i _ (work_bytes c.deref.result.now) c.loop-work-test.true
    (ap work_bytes (c.deref.ensures.value ∙ ap (λ work. work.items) c.work-item.is)) in
    record {
      written = loop_next work_bytes (map (λ work. work.items) workers) i _ _ _ [] (work_bytes c.deref.result.now) next
          c.loop-work.invariant.written c.in_ok-write_work.ensures.whole;
      fit = All-more (λ work. All DoneFits work.items) workers i c.work-item.result c.loop-work-test.true c.loop-work.invariant.fit
          (subst (All DoneFits) (c.deref.ensures.value ∙ ap (λ work. work.items) c.work-item.is) c.in_ok-write_work.ensures.fit);
    }
