use Rattle.std.proofs.Common.{◌≡◌, ◌∙◌, ◌++◌, ℕ, ◌<◌, List, refl, sym, ap, subst}
use Rattle.nvm_plan.specs.LentPart.{part_operation_of}
use Rattle.nvm_plan.specs.declared.job.Job.{Job}
use Rattle.nvm_space.specs.AtOnce.{IsWaiting}
use Rattle.nvm_space.specs.Ports.{IsPortOf}
use Rattle.nvm_space.specs.Spaces.{SpaceName}
use Rattle.nvm_space.specs.Trace.{DoesJob}
use Rattle.nvm_unit.specs.Ends.{views_of}
use Rattle.nvm_c.specs.Engines.{seen_by}
use Rattle.nvm_c.specs.Logs.{kept_by}
use Rattle.nvm_c.specs.Pending.{waiting_job}
use Rattle.nvm_c.specs.Submitted.{Buffers}
use Rattle.nvm_c.specs.declared.engine.Pending.TheVariants.{Waiting}
use Rattle.nvm_c.proofs.AtOnce.{front_told, lent_as, none_kept, waits_for_it}
use Rattle.nvm_c.proofs.engine.Engine.try_again.Goals as goal

pub returns-then-done_at_once-clause-progress : goal.returns-then-done_at_once-clause-progress
returns-then-done_at_once-clause-progress c = λ start begun.
    let e = c.args.self.now in
    let w = c.args.waiting in
    let job : Job = waiting_job w in
    let only = c.in-Some.ensures.part job (lent_as w.fields (c.of.ensures ∙ c.deref.ensures.value) (c.of-2.ensures ∙ c.deref-2.ensures.value)) in
    let here = subst (λ (s : SpaceName). IsWaiting s.namespace job start (seen_by e)) (sym c.deref-space.ensures) begun.1 in
    let did = c.if-done_at_once.ensures.goes _ _ start only (waits_for_it _ job c.in-Some.region (part_operation_of c.in-Some.part) start (seen_by e) only here) in
    record {
      told = did.0;
      does = subst (λ (s : SpaceName). DoesJob s.namespace s.lists w.number job start (views_of c.done_at_once.new.port.passes) did.0) c.deref-space.ensures did.1;
      buffers = record {
        entries = did.2;
        read = ap (λ (l : List ℕ). c.done_at_once.new.room ++ l) c.split_at_mut-room.ensures.back
            ∙ front_told did.0.completions c.args.data.now c.split_at_mut-room.result.0.now c.done_at_once.new.room c.args.len c.split_at_mut-room.ensures.front
            c.requires.len did.3 c.done_at_once.auto.room;
      };
      idle = c.requires.idle;
      kept = none_kept (kept_by e.log) w.number job did.0 c.requires.unrecorded;
    }

pub returns-clause-sound : goal.returns-clause-sound
returns-clause-sound c =
    let e = c.args.self.now in
    let w = c.args.waiting in
    let job : Job = waiting_job w in
    let only = c.in-Some.ensures.part job (lent_as w.fields (c.of.ensures ∙ c.deref.ensures.value) (c.of-2.ensures ∙ c.deref-2.ensures.value)) in
    let start = c.requires.begun.0 in
    let here = subst (λ (s : SpaceName). IsWaiting s.namespace job start (seen_by e)) (sym c.deref-space.ensures) c.requires.begun.1.1 in
    let goes = c.if-done_at_once.ensures.goes _ _ start only (waits_for_it _ job c.in-Some.region (part_operation_of c.in-Some.part) start (seen_by e) only here) in
    record {
      of = subst (λ (s : SpaceName). IsPortOf s c.done_at_once.new.port) c.deref-space.ensures c.done_at_once.ensures.of;
      few = subst (λ (n : ℕ). n < 64) (sym c.done_at_once.ensures.number) c.requires.few;
      pending = record {
        fits = c.requires.fits;
        room = c.requires.log;
        unrecorded = c.requires.unrecorded;
        begun = (
          start,
          (
            c.requires.begun.1.0,
            subst (λ (s : SpaceName). IsWaiting s.namespace job start (views_of c.done_at_once.new.port.passes)) c.deref-space.ensures
                (record { region = c.in-Some.region; part = part_operation_of c.in-Some.part; only = only; waited = goes.0 }),
          ),
        );
      };
    }

pub returns-clause-progress : goal.returns-clause-progress
returns-clause-progress c = λ start begun.
    let e = c.args.self.now in
    let w = c.args.waiting in
    let job : Job = waiting_job w in
    let only = c.in-Some.ensures.part job (lent_as w.fields (c.of.ensures ∙ c.deref.ensures.value) (c.of-2.ensures ∙ c.deref-2.ensures.value)) in
    let here = subst (λ (s : SpaceName). IsWaiting s.namespace job start (seen_by e)) (sym c.deref-space.ensures) begun.1 in
    let goes = c.if-done_at_once.ensures.goes _ _ start only (waits_for_it _ job c.in-Some.region (part_operation_of c.in-Some.part) start (seen_by e) only here) in
    let still : c.done_at_once.new.room ++ c.split_at_mut-room.result.1.now ≡ c.args.data.now =
    ap (λ (b : Buffers). b.bytes ++ c.split_at_mut-room.result.1.now) goes.1 ∙ sym c.split_at_mut-room.ensures.value in
    record {
      held = Waiting w;
      kept = refl;
      numbered = refl;
      of = refl;
      goes = (
        begun.0,
        subst (λ (s : SpaceName). IsWaiting s.namespace job start (views_of c.done_at_once.new.port.passes)) c.deref-space.ensures
            (record { region = c.in-Some.region; part = part_operation_of c.in-Some.part; only = only; waited = goes.0 }),
      );
      log_kept = refl;
      buffers = ap (λ (l : List ℕ). (let b : Buffers = record { bytes = l; posted = c.done_at_once.new.posted } in b)) still
          ∙ ap (λ (b : Buffers). (let b' : Buffers = record { bytes = c.args.data.now; posted = b.posted } in b')) goes.1;
    }
