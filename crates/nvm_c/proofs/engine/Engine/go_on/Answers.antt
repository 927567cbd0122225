use Rattle.std.proofs.Common.{◌≡◌, ◌∙◌, ℕ, ◌<◌, List, length, refl, sym, subst}
use Rattle.std.proofs.lemmas.Option.{same_Some}
use Rattle.nvm_plan.specs.Fits.{FitsNamespace}
use Rattle.nvm_plan.specs.declared.job.Job.{Job}
use Rattle.nvm_space.specs.Ports.{IsPortOf}
use Rattle.nvm_space.specs.Spaces.{SpaceName}
use Rattle.nvm_space.specs.Trace.{DoesJob}
use Rattle.nvm_space.specs.UnderWay.{IsUnderWay}
use Rattle.nvm_space.specs.UnderWay.{UnderWay as Way}
use Rattle.nvm_unit.specs.Ends.{views_of}
use Rattle.nvm_unit.specs.declared.views.PassView.{PassView}
use Rattle.nvm_c.specs.Engines.{namespace_of, seen_by, space_of}
use Rattle.nvm_c.specs.Logs.{kept_by, with_kept}
use Rattle.nvm_c.specs.Told.{posted_length}
use Rattle.nvm_c.specs.declared.engine.Engine.{Engine}
use Rattle.nvm_c.specs.declared.engine.Pending.TheVariants.{UnderWay}
use Rattle.nvm_c.proofs.Steps.{if_held, of_held}
use Rattle.nvm_c.proofs.engine.Engine.go_on.Goals as goal

-- The job is under way since some state of the port.
abbrev Begun : Engine → Way → Job → Type 0
Begun e w job = (start : List PassView) × IsUnderWay (namespace_of e) (space_of e).lists job w start (seen_by e)

pub tell-requires-clause-fit : goal.tell-requires-clause-fit
tell-requires-clause-fit c =
    let job = c.in-Some.job in
    let under : Begun c.args.self.now c.args.under_way job = of_held (Begun c.args.self.now c.args.under_way) c.in-Some.is c.requires.under_way in
    c.told_statuses_fit_their_entries.ensures.fit _ _ _ _ _ _ _
    (c.in-Done.ensures.goes under.0 (subst (λ (s : SpaceName). IsUnderWay s.namespace s.lists job c.args.under_way under.0 (seen_by c.args.self.now)) (sym c.deref.ensures) under.1))

pub tell-requires-clause-room : goal.tell-requires-clause-room
tell-requires-clause-room c =
    let job = c.in-Some.job in
    let under : Begun c.args.self.now c.args.under_way job = of_held (Begun c.args.self.now c.args.under_way) c.in-Some.is c.requires.under_way in
    of_held (λ (job' : Job). length c.args.posted.now ≡ posted_length job'.body) c.in-Some.is c.requires.room
    ∙ sym (c.told_statuses_fit_their_entries.ensures.each _ _ _ _ _ _ _
    (c.in-Done.ensures.goes under.0 (subst (λ (s : SpaceName). IsUnderWay s.namespace s.lists job c.args.under_way under.0 (seen_by c.args.self.now)) (sym c.deref.ensures) under.1)))

pub returns-in-Some-take-clause-sound : goal.returns-in-Some-take-clause-sound
returns-in-Some-take-clause-sound c =
    let e = c.args.self.now in let job = c.in-Some.job in
    let under : Begun e c.args.under_way job = of_held (Begun e c.args.under_way) c.in-Some.is c.requires.under_way in
    let under' = subst (λ (s : SpaceName). IsUnderWay s.namespace s.lists job c.args.under_way under.0 (seen_by e)) (sym c.deref.ensures) under.1 in
    let goes = c.in-Pending.ensures.goes under.0 under' in
    let taken : job ≡ c.in-Some-take.job = sym (same_Some _ _ (c.in-Some-take.ensures.value ∙ c.in-Some.is)) in
    record {
      of = subst (λ (s : SpaceName). IsPortOf s c.poll_job.new.port) c.deref.ensures c.poll_job.ensures.of;
      few = subst (λ (n : ℕ). n < 64) (sym c.poll_job.ensures.number) c.requires.few;
      pending = record {
        fits = subst (FitsNamespace (namespace_of e)) taken (of_held (FitsNamespace (namespace_of e)) c.in-Some.is c.requires.fits);
        room = c.requires.log;
        unrecorded = tt;
        begun = (
          under.0,
          (
            goes.0 ∙ c.requires.same,
            subst (λ (j : Job). IsUnderWay (namespace_of e) (space_of e).lists j c.in-Pending.under_way under.0 (views_of c.poll_job.new.port.passes)) taken
                (subst (λ (s : SpaceName). IsUnderWay s.namespace s.lists job c.in-Pending.under_way under.0 (views_of c.poll_job.new.port.passes)) c.deref.ensures goes.1),
          ),
        );
      };
    }

pub returns-in-Done-clause-progress : goal.returns-in-Done-clause-progress
returns-in-Done-clause-progress c = if_held _ c.in-Some.is (λ start under.
    let e = c.args.self.now in let job = c.in-Some.job in
    let under' = subst (λ (s : SpaceName). IsUnderWay s.namespace s.lists job c.args.under_way start (seen_by e)) (sym c.deref.ensures) under in
    record {
      told = c.in-Done.done;
      does = subst (λ (n : ℕ). DoesJob (namespace_of e) (space_of e).lists n job start (views_of c.poll_job.new.port.passes) c.in-Done.done) c.requires.same
          (subst (λ (s : SpaceName). DoesJob s.namespace s.lists c.args.under_way.number job start (views_of c.poll_job.new.port.passes) c.in-Done.done) c.deref.ensures (c.in-Done.ensures.goes start under'));
      buffers = c.tell.ensures;
      idle = c.requires.idle;
      kept = of_held (λ (j : Job). kept_by c.keep.new.log ≡ with_kept (kept_by e.log) c.args.number j c.in-Done.done) c.in-Some.is c.keep.ensures;
    })

pub returns-in-Some-take-clause-progress : goal.returns-in-Some-take-clause-progress
returns-in-Some-take-clause-progress c = if_held _ c.in-Some.is (λ start under.
    let e = c.args.self.now in let job = c.in-Some.job in
    let under' = subst (λ (s : SpaceName). IsUnderWay s.namespace s.lists job c.args.under_way start (seen_by e)) (sym c.deref.ensures) under in
    let goes = c.in-Pending.ensures.goes start under' in
    let taken : c.in-Some-take.job ≡ job = same_Some _ _ (c.in-Some-take.ensures.value ∙ c.in-Some.is) in
    record {
      held = UnderWay c.args.number c.in-Some-take.job c.in-Pending.under_way;
      kept = refl;
      numbered = refl;
      of = taken;
      goes = (
        goes.0 ∙ c.requires.same,
        subst (λ (j : Job). IsUnderWay (namespace_of e) (space_of e).lists j c.in-Pending.under_way start (views_of c.poll_job.new.port.passes)) (sym taken)
            (subst (λ (s : SpaceName). IsUnderWay s.namespace s.lists job c.in-Pending.under_way start (views_of c.poll_job.new.port.passes)) c.deref.ensures goes.1),
      );
      log_kept = refl;
      buffers = refl;
    })
