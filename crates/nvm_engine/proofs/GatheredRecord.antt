-- A gathered record is lawful.
use Rattle.std.proofs.Common.{◌≡◌, ℕ, ◌<◌, ◌≤◌, List, All, length, subst, sym, ap, ◌∙◌, arith}
use Rattle.nvm_record.specs.Lists.{IsAt}
use Rattle.nvm_geometry.specs.Boundaries.{units_of}
use Rattle.nvm_geometry.specs.Faults.{IsValid}
use Rattle.nvm_geometry.specs.Large.{regions_of}
use Rattle.nvm_geometry.specs.Namespace.{Namespace}
use Rattle.nvm_plan.specs.Fits.{FitsNamespace}
use Rattle.nvm_store.specs.HistoryEntry.{HistoryEntry}
use Rattle.nvm_store.specs.Limit.{IsLimit}
use Rattle.nvm_unit.specs.declared.views.PassView.{PassView}
use Rattle.nvm_unit.specs.Ends.{views_of}
use Rattle.nvm_space.specs.Ports.{PortState, new_port}
use Rattle.nvm_space.specs.Spaces.{SpaceName}
use Rattle.nvm_audit.specs.LawfulRecord.{IsComplete, IsLawfulRecord, HasItsShape}
use Rattle.nvm_audit.specs.LawfulUnit.{IsLawfulUnit}
use Rattle.nvm_audit.specs.Recordable.{most_workers, HoldsWholeReads}
use Rattle.nvm_audit.specs.RecordedJob.{RecordedJob}
use Rattle.nvm_audit.specs.RecordedPart.{parts_in_unit}
use Rattle.nvm_audit.specs.RecordView.{RecordView}
use Rattle.nvm_engine.specs.DoneJobs.{HasDoneJob}
use Rattle.nvm_engine.specs.Gathered.{IsGathered}
use Rattle.nvm_engine.proofs.GatheredUnit.{port_of, unit_lawful}
use Rattle.nvm_engine.proofs.InLists.{some_there}
use Rattle.nvm_engine.proofs.KnownLaws.{AnswerLaws, MarkLaws, HistoryLaws}
use Rattle.nvm_engine.proofs.Places.{at_below}
use Rattle.nvm_engine.proofs.PortParts.{JobsAreShown, job_was_done}

module _ (answers : AnswerLaws) (marks : MarkLaws) (histories : HistoryLaws) (s : SpaceName) (ports : List PortState)
    (r : RecordView) (shown : JobsAreShown s.namespace r.jobs)
    (shaped : (d : RecordedJob) (old new : List PassView) → HasDoneJob s.namespace r.jobs d old new
    → HasItsShape s.namespace r.jobs d)
    (gathered : IsGathered s ports r) (alike : regions_of s.namespace ≡ s.namespace) where
  job_shaped : (worker : ℕ) (work : List RecordedJob) (i : ℕ) (d : RecordedJob) → IsAt r.done worker work → IsAt work i d
      → HasItsShape r.namespace r.jobs d
  job_shaped worker work i d there at =
      let port = port_of s ports r gathered worker work there in
      let done = job_was_done s.namespace r.jobs work (views_of (new_port s.units worker).passes) (views_of port.0.passes)
      (gathered.done worker work port.0 there port.1) i d at in
      subst (λ (ns : Namespace). HasItsShape ns r.jobs d) (sym gathered.namespace) (shaped d done.0 done.1 done.2)

  unit_so : (k : ℕ) (history : List HistoryEntry) → IsAt r.units k history
      → IsLawfulUnit r.namespace r.limit r.jobs k history (parts_in_unit k r.done)
  unit_so k history at =
      let below : k < length r.units = at_below r.units k history at in
      let count : length r.units ≡ length s.units = gathered.units in
      let unit = some_there s.units k (omega arith) in
      subst (λ (ns : Namespace). IsLawfulUnit ns r.limit r.jobs k history (parts_in_unit k r.done)) (sym gathered.namespace)
      (subst (λ (n : ℕ). IsLawfulUnit s.namespace n r.jobs k history (parts_in_unit k r.done)) (sym gathered.limit)
      (unit_lawful answers marks histories s ports r shown gathered alike k unit.0 history unit.1 at))

  within : (unit : ℕ) (history : List HistoryEntry) → IsAt r.units unit history → length history ≤ r.limit
  within unit history at =
      let below : unit < length r.units = at_below r.units unit history at in
      let name = some_there s.units unit (omega (arith, gathered.units)) in
      let few : length history ≤ name.0.bounds.limit = (gathered.ends unit name.0 history name.1 at).whole.lawful.within in
      let same : name.0.bounds.limit ≡ r.limit = (gathered.laid.each unit name.0 name.1).limit ∙ sym gathered.limit in
      omega (arith, few, same)

  complete : HoldsWholeReads r → IsComplete r
  complete whole =
      record {
        namespace = subst IsValid (sym gathered.namespace) gathered.valid;
        limit = subst IsLimit (sym gathered.limit) gathered.sound;
        some_worker = let some : 0 < s.ports = gathered.count.0 in omega (arith, gathered.each_port);
        few_workers = subst (λ (n : ℕ). n ≤ most_workers) (sym gathered.each_port) gathered.count.1;
        jobs = subst (λ (ns : Namespace). All (FitsNamespace ns) r.jobs) (sym gathered.namespace) gathered.fit;
        all_units = gathered.units ∙ gathered.laid.count ∙ ap units_of (alike ∙ sym gathered.namespace);
        within = within;
        all_workers = gathered.workers ∙ sym gathered.each_port;
        reads = whole;
      }

  pub record_lawful : HoldsWholeReads r → IsLawfulRecord r
  record_lawful whole = record { complete = complete whole; once = gathered.once; shapes = job_shaped; units = unit_so }
