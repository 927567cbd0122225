use Rattle.std.proofs.Common.{◌≡◌, ◌++◌, ℕ, ◌<◌, List, inl, refl, sym, ap, subst}
use Rattle.nvm_record.specs.PayloadRef.{lent_bytes}
use Rattle.nvm_plan.specs.Fits.{FitsNamespace}
use Rattle.nvm_plan.specs.LentPart.{part_operation_of}
use Rattle.nvm_plan.specs.OnlyPart.{body_lent}
use Rattle.nvm_plan.specs.declared.job.Job.{Job}
use Rattle.nvm_space.specs.AtOnce.{IsWaiting}
use Rattle.nvm_space.specs.Ports.{IsPortOf}
use Rattle.nvm_space.specs.Spaces.{SpaceName}
use Rattle.nvm_space.specs.Trace.{DoesJob}
use Rattle.nvm_unit.specs.Ends.{views_of}
use Rattle.nvm_c.specs.Engines.{namespace_of, seen_by}
use Rattle.nvm_c.specs.Logs.{kept_by}
use Rattle.nvm_c.specs.Submitted.{Buffers}
use Rattle.nvm_c.specs.declared.code.Code.TheVariants.{Done}
use Rattle.nvm_c.specs.declared.engine.Pending.TheVariants.{Waiting}
use Rattle.nvm_c.proofs.AtOnce.{body_fits, buffer_told, job_lent, lent_as, none_drawn, none_kept}
use Rattle.nvm_c.proofs.Steps.{submits_of}
use Rattle.nvm_c.proofs.engine.Engine.submit_fields.Goals as goal

pub done_at_once-requires-clause-only : goal.done_at_once-requires-clause-only
done_at_once-requires-clause-only c =
    let job : Job = record { host = c.args.host; body = body_lent c.args.fields (lent_bytes c.of.result) (lent_bytes c.of-2.result) } in
    (lent_bytes c.of.result, lent_bytes c.of-2.result, c.in-Some.ensures.part job refl)

pub returns-then-done_at_once-clause-submits : goal.returns-then-done_at_once-clause-submits
returns-then-done_at_once-clause-submits c = λ entries asked.
    let e = c.args.self.now in
    let bytes : List ℕ = c.args.payload.now in
    let also : List ℕ = c.args.compared.now in
    let job : Job = record { host = c.args.host; body = body_lent c.args.fields bytes also } in
    let did = c.if-done_at_once.ensures.goes bytes also (seen_by e) (c.in-Some.ensures.part job (lent_as c.args.fields c.of.ensures c.of-2.ensures)) (inl refl) in
    let after = none_drawn e.log (kept_by c.draw.new.log) e.number c.draw.new.next c.in-Ok.number c.requires.unrecorded c.in-Ok.ensures.drawn in
    submits_of Done e _ entries _ _ c.requires.idle (record {
      job = job;
      asked = asked;
      number = c.in-Ok.number;
      log = kept_by c.draw.new.log;
      drawn = c.in-Ok.ensures.drawn;
      progress = record {
        told = did.0;
        does = subst (λ (s : SpaceName). DoesJob s.namespace s.lists c.in-Ok.number job (seen_by e) (views_of c.done_at_once.new.port.passes) did.0) c.deref-space.ensures did.1;
        buffers = record {
          entries = did.2;
          read = buffer_told did.0.completions (also ++ bytes) c.args.room.now c.done_at_once.new.room c.requires.apart did.3 c.done_at_once.auto.room;
        };
        idle = c.requires.idle;
        kept = none_kept (kept_by c.draw.new.log) c.in-Ok.number job did.0 after;
      };
      space = refl;
    })

pub returns-clause-sound : goal.returns-clause-sound
returns-clause-sound c =
    let e = c.args.self.now in
    let bytes : List ℕ = c.args.payload.now in
    let also : List ℕ = c.args.compared.now in
    let job : Job = record { host = c.args.host; body = body_lent c.args.fields bytes also } in
    let only = c.in-Some.ensures.part job (lent_as c.args.fields c.of.ensures c.of-2.ensures) in
    let waited = (c.if-done_at_once.ensures.goes bytes also (seen_by e) only (inl refl)).0 in
    let is = job_lent c.args.host c.args.fields c.keep-data.ensures.payload c.keep-data.ensures.compared in
    record {
      of = subst (λ (s : SpaceName). IsPortOf s c.done_at_once.new.port) c.deref-space.ensures c.done_at_once.ensures.of;
      few = subst (λ (n : ℕ). n < 64) (sym c.done_at_once.ensures.number) c.requires.sound.few;
      pending = record {
        fits = subst (FitsNamespace (namespace_of e)) is (body_fits (namespace_of e) c.args.host job.body e.port.number c.requires.host c.requires.sound.few c.requires.whole);
        room = c.in-Ok.ensures.room;
        unrecorded = none_drawn e.log (kept_by c.draw.new.log) e.number c.draw.new.next c.in-Ok.number c.requires.unrecorded c.in-Ok.ensures.drawn;
        begun = (
          seen_by e,
          (
            c.requires.unlisted,
            subst (λ (j : Job). IsWaiting (namespace_of e) j (seen_by e) (views_of c.done_at_once.new.port.passes)) is
                (subst (λ (s : SpaceName). IsWaiting s.namespace job (seen_by e) (views_of c.done_at_once.new.port.passes)) c.deref-space.ensures
                (record { region = c.in-Some.region; part = part_operation_of c.in-Some.part; only = only; waited = waited })),
          ),
        );
      };
    }

pub returns-clause-submits : goal.returns-clause-submits
returns-clause-submits c = λ entries asked.
    let e = c.args.self.now in
    let bytes : List ℕ = c.args.payload.now in
    let also : List ℕ = c.args.compared.now in
    let job : Job = record { host = c.args.host; body = body_lent c.args.fields bytes also } in
    let only = c.in-Some.ensures.part job (lent_as c.args.fields c.of.ensures c.of-2.ensures) in
    let goes = c.if-done_at_once.ensures.goes bytes also (seen_by e) only (inl refl) in
    let is = job_lent c.args.host c.args.fields c.keep-data.ensures.payload c.keep-data.ensures.compared in (
      c.requires.idle,
      record {
        job = job;
        asked = asked;
        number = c.in-Ok.number;
        log = kept_by c.draw.new.log;
        drawn = c.in-Ok.ensures.drawn;
        progress = record {
          held = Waiting (record { number = c.in-Ok.number; host = c.args.host; fields = c.args.fields; «data» = c.keep-data.result });
          kept = refl;
          numbered = refl;
          of = sym is;
          goes = (
            c.requires.unlisted,
            subst (λ (j : Job). IsWaiting (namespace_of e) j (seen_by e) (views_of c.done_at_once.new.port.passes)) is
                (subst (λ (s : SpaceName). IsWaiting s.namespace job (seen_by e) (views_of c.done_at_once.new.port.passes)) c.deref-space.ensures
                (record { region = c.in-Some.region; part = part_operation_of c.in-Some.part; only = only; waited = goes.0 })),
          );
          log_kept = refl;
          buffers = ap (λ (b : Buffers). (let b' : Buffers = record { bytes = (also ++ bytes) ++ b.bytes; posted = b.posted } in b')) goes.1;
        };
        space = refl;
      },
    )
