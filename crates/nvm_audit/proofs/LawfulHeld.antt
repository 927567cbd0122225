-- A lawful record of jobs that can be held can be held.
use Rattle.std.proofs.Common.{ℕ, ◌<◌, ◌≤◌, List, length, All, sym, subst, arith}
use Rattle.nvm_record.specs.Lists.{IsAt}
use Rattle.nvm_store.specs.HistoryEntry.{HistoryEntry}
use Rattle.nvm_audit.specs.LawfulRecord.{IsLawfulRecord}
use Rattle.nvm_audit.specs.Recordable.{most_jobs, HoldsBody, HoldsLimit, IsRecordable, IsRecordableJob, IsRecordableEntry, IsRecordableHistory, IsRecordableDone, IsRecordableWork}
use Rattle.nvm_audit.specs.RecordedJob.{RecordedJob}
use Rattle.nvm_audit.specs.RecordView.{RecordView}
use Rattle.nvm_audit.proofs.FewDone.{few_done}
use Rattle.nvm_audit.proofs.Held as held
use Rattle.nvm_audit.proofs.Held.{KnowsParts, KeepsDeallocates, IsReadyJob, KnowsUnits, FewUnits, HasPlace, OnePlace, HasStatuses, all_from}
use Rattle.nvm_audit.proofs.PartsFrom.{comes_from}
use Rattle.nvm_audit.proofs.RecordRuns.{CoversParts}
use Rattle.nvm_audit.proofs.Standing.{all_at, below}

module _ (known : KnowsParts) (keeps : KeepsDeallocates) (is_ready : IsReadyJob) (covers : CoversParts) (units : KnowsUnits) (few : FewUnits)
    (has_place : HasPlace) (one_place : OnePlace) (statuses : HasStatuses) (r : RecordView) (lawful : IsLawfulRecord r)
    (bodies : All (λ job. HoldsBody r.version job.body) r.jobs) where
  jobs : All (IsRecordableJob r) r.jobs
  jobs k d below = record { fits = lawful.complete.jobs k d below; known = bodies k d below }

  history_held : (unit : ℕ) (history : List HistoryEntry) → IsAt r.units unit history → IsRecordableHistory r unit history
  history_held unit history there =
      let its = lawful.units unit history there in
      record {
        few = lawful.complete.within unit history there;
        place = its.place;
        lies = its.lies;
        each =
            all_from (IsRecordableEntry r its.place) history
            (λ i entry at.
            let of = its.entries i entry at in
            let claimed = its.claimed i entry at in
            let worker = (comes_from unit r.done claimed.0 claimed.1 claimed.2).0.worker in
            let pass = subst (λ (n : ℕ). entry.pass < n) lawful.complete.all_workers (subst (λ (n : ℕ). n < length r.done) (sym claimed.3.worker) (below r.done claimed.1.worker _ worker)) in
            held.entries known keeps is_ready covers units has_place one_place r of.job unit its.place entry lawful.complete.namespace of.its
            (all_at (IsRecordableJob r) r.jobs jobs entry.job of.job of.its) of.part (its.lawful i entry at).act pass its.lies);
      }

  done_held : (worker : ℕ) (work : List RecordedJob) → IsAt r.done worker work → length work ≤ most_jobs
      → IsRecordableWork r work
  done_held worker work there most =
      record {
        few = most;
        each =
            all_from (IsRecordableDone r) work
            (λ k d at.
            let shown = lawful.shapes worker work k d there at in
            held.done units few statuses r shown.job d shown.its shown.shape
            (λ op bytes ready e. lawful.complete.reads worker work k d shown.job op bytes there at shown.its ready e));
      }

  pub held_whole : HoldsLimit r.version r.limit → length r.jobs ≤ most_jobs → IsRecordable r
  held_whole room few_jobs =
      record {
        namespace = lawful.complete.namespace;
        limit = room;
        some_worker = lawful.complete.some_worker;
        few_workers = lawful.complete.few_workers;
        few_jobs = few_jobs;
        jobs = jobs;
        all_units = lawful.complete.all_units;
        units = history_held;
        all_workers = lawful.complete.all_workers;
        done =
            all_from (IsRecordableWork r) r.done
            (λ worker work there. let fewer = few_done r worker work lawful there in done_held worker work there (omega (arith, fewer, few_jobs)));
      }
