-- The second version of a record that a file of its own version can hold.
use Rattle.std.proofs.Common.{◌≡◌, inl, inr, ℕ, List, get_or, sym, ap, subst, arith}
use Rattle.nvm_plan.specs.declared.job.Body.{Body}
use Rattle.nvm_plan.specs.declared.job.Body.TheVariants.{Single, Pair}
use Rattle.nvm_record.specs.Step.{Operation}
use Rattle.nvm_store.specs.declared.place.Place.{Place}
use Rattle.nvm_store.specs.HistoryEntry.{HistoryEntry}
use Rattle.nvm_store.specs.Limit.{IsLimit}
use Rattle.nvm_audit.specs.declared.version.Version.{Version}
use Rattle.nvm_audit.specs.declared.version.Version.TheVariants.{One, Two}
use Rattle.nvm_audit.specs.LawfulRecord.{IsComplete, IsLawfulRecord}
use Rattle.nvm_audit.specs.Recordable.{HoldsBody, HoldsKind, HoldsLimit, IsRecordable, IsRecordableDone, IsRecordableEntry, IsRecordableHistory, IsRecordableWork}
use Rattle.nvm_audit.specs.RecordedJob.{RecordedJob}
use Rattle.nvm_audit.specs.RecordView.{RecordView}
use Rattle.nvm_file.specs.Upgrade.{AreKnown, HasUnknown, second_version}
use Rattle.nvm_file.proofs.Places.{at_place, below_length, read_at}

second_limit : (version : Version) (limit : ℕ) → HoldsLimit version limit → IsLimit limit
second_limit One limit h = (h.0, omega (arith, h.1))
second_limit Two limit h = h

second_body : (body : Body) → ¬ (HasUnknown body) → HoldsBody Two body
second_body (Single c) known = known
second_body (Pair c d) known = (λ e. known (inl e), λ e. known (inr e))

second_kind : (version : Version) (place : Place) (op : Operation) → HoldsKind version place op → HoldsKind Two place op
second_kind One place op h = inl h
second_kind Two place op h = h

second_entry : (r : RecordView) (place : Place) (entry : HistoryEntry) → IsRecordableEntry r place entry
    → IsRecordableEntry (second_version r) place entry
second_entry r place entry h =
    record {
      pass = h.pass;
      job = h.job;
      act = h.act;
      covered = h.covered;
      kind = second_kind r.version place entry.operation h.kind;
    }

second_history : (r : RecordView) (unit : ℕ) (history : List HistoryEntry) → IsRecordableHistory r unit history
    → IsRecordableHistory (second_version r) unit history
second_history r unit history h =
    record {
      few = h.few;
      place = h.place;
      lies = h.lies;
      each = λ k d below. second_entry r h.place (get_or history k d) (h.each k d below);
    }

second_done : (r : RecordView) (done : RecordedJob) → IsRecordableDone r done → IsRecordableDone (second_version r) done
second_done r done h =
    record {
      job = h.job;
      its = h.its;
      few = h.few;
      units = h.units;
      statuses = h.statuses;
      payload = h.payload;
    }

second_work : (r : RecordView) (work : List RecordedJob) → IsRecordableWork r work → IsRecordableWork (second_version r) work
second_work r work h =
    record { few = h.few; each = λ k d below. second_done r (get_or work k d) (h.each k d below) }

pub second_can : (r : RecordView) → IsRecordable r → AreKnown r.jobs → IsRecordable (second_version r)
second_can r can known =
    record {
      namespace = can.namespace;
      limit = second_limit r.version r.limit can.limit;
      some_worker = can.some_worker;
      few_workers = can.few_workers;
      few_jobs = can.few_jobs;
      jobs = λ k d below.
          let job = get_or r.jobs k d in
          record { fits = (can.jobs k d below).fits; known = second_body job.body (known k job (at_place r.jobs k d below)) };
      all_units = can.all_units;
      units = λ unit history at. second_history r unit history (can.units unit history at);
      all_workers = can.all_workers;
      done = λ k d below. second_work r (get_or r.done k d) (can.done k d below);
    }

-- One of the second version has no unknown opcode 09h, by its type, and is its own second version.
known_body : (body : Body) → HoldsBody Two body → ¬ (HasUnknown body)
known_body (Single c) known e = known e
known_body (Pair c d) known (inl e) = known.0 e
known_body (Pair c d) known (inr e) = known.1 e

pub known_in_second : (r : RecordView) → IsRecordable r → r.version ≡ Two → AreKnown r.jobs
known_in_second r can is number job at =
    let held = (can.jobs number job (below_length r.jobs number job at)).known in
    let here : HoldsBody r.version job.body = subst (λ j. HoldsBody r.version j.body) (read_at r.jobs number job job at) held in
    known_body job.body (subst (λ v. HoldsBody v job.body) is here)

pub same_in_second : (r : RecordView) → r.version ≡ Two → second_version r ≡ r
same_in_second r is =
    ap (λ v. record {
      version = v;
      namespace = r.namespace;
      limit = r.limit;
      workers = r.workers;
      jobs = r.jobs;
      units = r.units;
      done = r.done;
    }) (sym is)

-- A record is lawful exactly where its second version is: the version isn't looked at.
second_complete : (r : RecordView) → IsComplete r → IsComplete (second_version r)
second_complete r h =
    record {
      namespace = h.namespace;
      limit = h.limit;
      some_worker = h.some_worker;
      few_workers = h.few_workers;
      jobs = h.jobs;
      all_units = h.all_units;
      within = h.within;
      all_workers = h.all_workers;
      reads = h.reads;
    }

first_complete : (r : RecordView) → IsComplete (second_version r) → IsComplete r
first_complete r h =
    record {
      namespace = h.namespace;
      limit = h.limit;
      some_worker = h.some_worker;
      few_workers = h.few_workers;
      jobs = h.jobs;
      all_units = h.all_units;
      within = h.within;
      all_workers = h.all_workers;
      reads = h.reads;
    }

pub second_lawful : (r : RecordView) → IsLawfulRecord r → IsLawfulRecord (second_version r)
second_lawful r h = record { complete = second_complete r h.complete; once = h.once; shapes = h.shapes; units = h.units }

pub first_lawful : (r : RecordView) → IsLawfulRecord (second_version r) → IsLawfulRecord r
first_lawful r h = record { complete = first_complete r h.complete; once = h.once; shapes = h.shapes; units = h.units }
