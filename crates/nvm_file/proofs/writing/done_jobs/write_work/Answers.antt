use Rattle.std.proofs.Common.{◌≡◌, ◌+◌, ◌++◌, length, take, subst, arith}
use Rattle.std.specs.List.{flat_map}
use Rattle.std.proofs.lemmas.List.Elements.{All-more}
use Rattle.std.proofs.lemmas.Grind.{common_steps}
use Rattle.byteorder.specs.Endian.{little_bytes}
use Rattle.nvm_text.proofs.Taking.{within, loop_front, loop_next}
use Rattle.nvm_file.specs.Fits.{DoneFits}
use Rattle.nvm_file.specs.WorkSpelling.{done_bytes}
use Rattle.nvm_file.proofs.writing.done_jobs.write_work.Goals as goal

pub returns-in_err-hand_noting-clause-front : goal.returns-in_err-hand_noting-clause-front
returns-in_err-hand_noting-clause-front g c =
    let work = c.args.work.now in
    within c.from_residual.result _ _ _ (little_bytes 4 (length work)) (flat_map done_bytes work) c.count_bytes.ensures
    c.in_err-hand_noting.ensures.front

pub returns-in_err-write_done-clause-front : goal.returns-in_err-write_done-clause-front
returns-in_err-write_done-clause-front g c =
    let work = c.args.work.now in
    let i = c.loop-done.done-index in
    let item = done_bytes c.done-item.result in
    let next : flat_map done_bytes (take (i + 1) work) ≡ flat_map done_bytes (take i work) ++ item = grind (arith, common_steps) in
    loop_front c.from_residual-in_err-write_done.result done_bytes work i _ _ _ (little_bytes 4 (length work)) item next
    c.loop-done.invariant.written c.in_err-write_done.ensures.front

pub loop-done-preserved : goal.loop-done-preserved
loop-done-preserved g c =
    let work = c.args.work.now in
    let i = c.loop-done.done-index in
    let item = done_bytes c.done-item.result in
    let next : flat_map done_bytes (take (i + 1) work) ≡ flat_map done_bytes (take i work) ++ item = grind (arith, common_steps) in
    record {
      written = loop_next done_bytes work i _ _ _ (little_bytes 4 (length work)) item next c.loop-done.invariant.written c.in_ok-write_done.ensures.whole;
      fit = All-more DoneFits work i c.done-item.result c.loop-done-test.true c.loop-done.invariant.fit (subst DoneFits c.done-item.is c.in_ok-write_done.ensures.fits);
    }
