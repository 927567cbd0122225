use Rattle.std.proofs.Common.{◌≡◌, ◌∙◌, ℕ, length, refl, sym, subst, arith}
use Rattle.nvm_plan.specs.declared.job.Job.{Job}
use Rattle.nvm_space.specs.Spaces.{SpaceName}
use Rattle.nvm_space.specs.Trace.{DoesJob}
use Rattle.nvm_space.specs.UnderWay.{IsUnderWay}
use Rattle.nvm_c.specs.Engines.{seen_by}
use Rattle.nvm_c.specs.Logs.{HasDrawn, kept_by, with_kept}
use Rattle.nvm_c.specs.Told.{posted_length}
use Rattle.nvm_c.specs.declared.code.Code.TheVariants.{Done}
use Rattle.nvm_c.proofs.Steps.{if_held, of_held, progress_behind, submits_of}
use Rattle.nvm_c.proofs.engine.Engine.begin.Goals as goal

pub tell-requires-clause-fit : goal.tell-requires-clause-fit
tell-requires-clause-fit c = c.told_statuses_fit_their_entries.ensures.fit _ _ _ _ _ _ _ (c.in-Done.ensures (seen_by c.args.self.now))

pub tell-requires-clause-room : goal.tell-requires-clause-room
tell-requires-clause-room c =
    let here : length c.args.posted.now ≡ c.entries_length.result = omega (arith, c.if-posted-entries_length.false) in
    here ∙ (c.entries_length.ensures ∙ sym (c.told_statuses_fit_their_entries.ensures.each _ _ _ _ _ _ _ (c.in-Done.ensures (seen_by c.args.self.now))))

pub go_on-requires-clause-same : goal.go_on-requires-clause-same
go_on-requires-clause-same c = (c.in-Pending.ensures (seen_by c.args.self.now)).0

pub go_on-requires-clause-under_way : goal.go_on-requires-clause-under_way
go_on-requires-clause-under_way c = if_held _ c.in-Some.is (
    let views = seen_by c.args.self.now in
    (views, subst (λ (s : SpaceName). IsUnderWay s.namespace s.lists c.in-Some.job c.in-Pending.under_way views views) c.deref.ensures (c.in-Pending.ensures views).1))

pub go_on-requires-clause-room : goal.go_on-requires-clause-room
go_on-requires-clause-room c = if_held (λ (j : Job). length c.args.posted.now ≡ posted_length j.body) c.in-Some.is (
    let here : length c.args.posted.now ≡ c.entries_length.result = omega (arith, c.if-posted-entries_length.false) in
    here ∙ c.entries_length.ensures)

pub returns-in-Done-clause-submits : goal.returns-in-Done-clause-submits
returns-in-Done-clause-submits c = if_held _ c.in-Some.is (λ entries sent either asked.
    let e = c.args.self.now in
    let views = seen_by e in
    submits_of Done e _ entries _ _ c.requires.idle (record {
      job = c.in-Some.job;
      asked = asked;
      number = c.in-Ok.number;
      log = kept_by c.draw.new.log;
      drawn = c.in-Ok.ensures.drawn;
      progress = progress_behind _ _ _ _ _ _ _ _ sent _ _ _ _ (λ told does. c.told_statuses_fit_their_entries.ensures.each _ _ _ _ _ _ _ does) either Done (record {
        told = c.in-Done.done;
        does = subst (λ (s : SpaceName). DoesJob s.namespace s.lists c.in-Ok.number c.in-Some.job views views c.in-Done.done) c.deref.ensures (c.in-Done.ensures views);
        buffers = c.tell.ensures;
        idle = c.requires.idle;
        kept = of_held (λ (j : Job). kept_by c.keep.new.log ≡ with_kept (kept_by c.draw.new.log) c.in-Ok.number j c.in-Done.done) c.in-Some.is c.keep.ensures;
      });
      space = refl;
    }))

pub returns-in-Pending-clause-submits : goal.returns-in-Pending-clause-submits
returns-in-Pending-clause-submits c = if_held _ c.in-Some.is (λ entries sent either asked.
    let e = c.args.self.now in
    let views = seen_by e in
    submits_of c.go_on.result e c.go_on.new.self entries _ _ c.requires.idle (record {
      job = c.in-Some.job;
      asked = asked;
      number = c.in-Ok.number;
      log = kept_by c.draw.new.log;
      drawn = subst (λ (n : ℕ). HasDrawn e.number n (kept_by e.log) (kept_by c.draw.new.log) c.in-Ok.number) (sym c.go_on.ensures.number) c.in-Ok.ensures.drawn;
      progress = progress_behind _ _ _ _ _ _ _ _ sent _ _ _ _ (λ told does. c.told_statuses_fit_their_entries.ensures.each _ _ _ _ _ _ _ does) either c.go_on.result
          (of_held _ c.in-Some.is c.go_on.ensures.progress views
          (subst (λ (s : SpaceName). IsUnderWay s.namespace s.lists c.in-Some.job c.in-Pending.under_way views views) c.deref.ensures (c.in-Pending.ensures views).1));
      space = c.go_on.ensures.space;
    }))
