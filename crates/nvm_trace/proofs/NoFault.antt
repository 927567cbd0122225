-- A record that explains a trace has no fault.
use Rattle.std.proofs.Common.{◌≡◌, ℕ, ◌<◌, List, refl, subst}
use Rattle.nvm_record.specs.Lists.{IsAt}
use Rattle.nvm_audit.specs.declared.audit_fault.AuditFault.{AuditFault}
use Rattle.nvm_audit.specs.LawfulRecord.{IsLawfulRecord}
use Rattle.nvm_audit.specs.RecordChecks.{IsFirstFault}
use Rattle.nvm_audit.specs.RecordView.{RecordView}
use Rattle.nvm_trace.specs.declared.step.Step.{Step}
use Rattle.nvm_trace.specs.declared.witness_fault.WitnessFault.{WitnessFault}
use Rattle.nvm_trace.specs.declared.witness_fault.WitnessFault.TheVariants.{NamespaceDiffers, JobDiffers, NoPreparation, Unlawful, ReplyDiffers, TimeBack, NoMemory}
use Rattle.nvm_trace.specs.declared.judging.Judging.{Judging}
use Rattle.nvm_trace.specs.ExplainedBy.{IsExplainedBy}
use Rattle.nvm_trace.specs.Pieces.{wholes}
use Rattle.nvm_trace.specs.FirstFault.{IsFirstBack, IsFirstWitnessFault}
use Rattle.nvm_trace.specs.Steps.{steps_of}
use Rattle.nvm_trace.specs.Timely.{IsLate, IsFirstLate}
use Rattle.nvm_trace.specs.TraceView.{TraceView}
use Rattle.nvm_trace.proofs.Places.{contained}

pub no_fault : ((r : RecordView) (fault : AuditFault) → IsLawfulRecord r → ¬ (IsFirstFault r fault))
    → (judging : Judging) (t : TraceView) (r : RecordView) (fault : WitnessFault) → IsExplainedBy judging t r
    → ¬ (IsFirstWitnessFault judging t r fault)
no_fault none judging t r NamespaceDiffers explained first = first explained.namespace
no_fault none judging t r (JobDiffers job) explained first = first.1.fails (explained.jobs job)
no_fault none judging t r (NoPreparation job) explained first = first.2.fails (explained.prepared job)
no_fault none judging t r (Unlawful fault) explained first = none r fault explained.lawful first.1
no_fault none judging t r (ReplyDiffers job) explained first = first.2.fails (explained.replies job)
no_fault none judging t r (TimeBack job spot) explained first =
    let late = first.3.first in
    explained.timely late.late (contained (steps_of (wholes judging t) r.done) first.3.place late.late late.there) late.is
no_fault none judging t r NoMemory explained first = first

-- The first of the record's steps that is late, by what was read of it.
pub first_back : (judging : Judging) (t : TraceView) (r : RecordView) (steps : List Step) (place : ℕ) (late : Step) → steps ≡ steps_of (wholes judging t) r.done
    → (first : IsFirstLate steps place) → first.late ≡ late
    → IsFirstBack judging t r late.job (record { unit = late.unit; place = late.point })
first_back judging t r steps place late are first same = record {
  place = place;
  first =
      record {
        late = late;
        there = subst (λ (ss : List Step). IsAt ss place late) are (subst (λ (s : Step). IsAt steps place s) same first.there);
        is = subst (λ (ss : List Step). IsLate ss late) are (subst (λ (s : Step). IsLate steps s) same first.is);
        before = subst (λ (ss : List Step). (k : ℕ) (s : Step) → k < place → IsAt ss k s → ¬ (IsLate ss s)) are first.before;
      };
  job_is = refl;
  unit_is = refl;
  point_is = refl;
}
