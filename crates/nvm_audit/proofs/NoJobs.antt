-- In a record without jobs nothing was done.
use Rattle.std.proofs.Common.{◌≡◌, ℕ, ◌<◌, List, [], length, arith, subst}
use Rattle.nvm_record.specs.Lists.{IsAt}
use Rattle.nvm_plan.specs.declared.job.Job.{Job}
use Rattle.nvm_store.specs.HistoryEntry.{HistoryEntry}
use Rattle.nvm_audit.specs.LawfulRecord.{IsLawfulRecord}
use Rattle.nvm_audit.specs.Recordable.{IsRecordable, IsRecordableDone, IsRecordableWork, IsRecordableEntry}
use Rattle.nvm_audit.specs.RecordedJob.{RecordedJob}
use Rattle.nvm_audit.specs.RecordedPart.{RecordedPart, parts_in_unit}
use Rattle.nvm_audit.specs.RecordView.{RecordView}
use Rattle.nvm_audit.proofs.Complete.{complete_where_held}
use Rattle.nvm_audit.proofs.PartsFrom.{comes_from}
use Rattle.nvm_audit.proofs.Standing.{none_stands, all_at}

no_done : (r : RecordView) → IsRecordable r → r.jobs ≡ [] → (worker : ℕ) (work : List RecordedJob) (k : ℕ) (d : RecordedJob)
    → IsAt r.done worker work → IsAt work k d → ⊥
no_done r held none worker work k d there here =
    let does = all_at (IsRecordableWork r) r.done held.done worker work there in
    let one = all_at (IsRecordableDone r) work does.each k d here in
    none_stands d.job one.job (subst (λ (l : List Job). IsAt l d.job one.job) none one.its)

no_entry : (r : RecordView) → IsRecordable r → r.jobs ≡ [] → (unit : ℕ) (history : List HistoryEntry) → IsAt r.units unit history
    → (i : ℕ) (entry : HistoryEntry) → IsAt history i entry → ⊥
no_entry r held none unit history there i entry here =
    let kept = held.units unit history there in
    let one = all_at (IsRecordableEntry r kept.place) history kept.each i entry here in
    let below : entry.job < length r.jobs = one.job in
    let nothing : entry.job < 0 = subst (λ (l : List Job). entry.job < length l) none below in
    absurd (omega arith)

no_part : (r : RecordView) → IsRecordable r → r.jobs ≡ [] → (unit i : ℕ) (p : RecordedPart) → IsAt (parts_in_unit unit r.done) i p → ⊥
no_part r held none unit i p there =
    let from = comes_from unit r.done i p there in
    no_done r held none p.worker from.0.work from.0.job.0 p.done from.0.worker from.0.job.1

pub no_jobs_are_lawful : (r : RecordView) → IsRecordable r → r.jobs ≡ [] → IsLawfulRecord r
no_jobs_are_lawful r held none =
    record {
      complete = complete_where_held r held;
      once = λ number lt. let nothing : number < 0 = subst (λ (l : List Job). number < length l) none lt in absurd (omega arith);
      shapes = λ worker work k d there here. absurd (no_done r held none worker work k d there here);
      units =
          λ unit history there.
          let kept = held.units unit history there in (
          record {
            place = kept.place;
            lies = kept.lies;
            lawful = λ i entry here. absurd (no_entry r held none unit history there i entry here);
            entries = λ i entry here. absurd (no_entry r held none unit history there i entry here);
            claimed = λ i entry here. absurd (no_entry r held none unit history there i entry here);
            made = λ k p here done. absurd (no_part r held none unit k p here);
            rests = λ k p here. absurd (no_part r held none unit k p here);
            order = λ i j earlier later here after lt same. absurd (no_part r held none unit i earlier here);
          }
          );
    }
