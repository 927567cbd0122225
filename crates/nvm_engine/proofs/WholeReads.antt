-- In a gathered record the data of each Read is as long as its blocks.
use Rattle.std.proofs.Common.{◌≡◌, ℕ, zero, suc, ◌*◌, ◌<◌, ◌≤◌, List, [], ◌∷◌, length, Some, sym, ap, subst, ◌∙◌, inl, inr, arith}
use Rattle.std.proofs.lemmas.Option.{none-some, same_Some}
use mathlib.Core.Option.{some-injective, some-ne-none}
use Rattle.nvm_record.specs.Lists.{IsAt}
use Rattle.nvm_record.specs.Step.{Operation}
use Rattle.nvm_geometry.specs.Boundaries.{units_of}
use Rattle.nvm_geometry.specs.Faults.{most_units}
use Rattle.nvm_geometry.specs.Large.{regions_of}
use Rattle.nvm_geometry.specs.Namespace.{Namespace}
use Rattle.nvm_plan.specs.declared.job.Job.{Job}
use Rattle.nvm_plan.specs.Checks.{refusal_of}
use Rattle.nvm_plan.specs.JobPart.{ready_operation}
use Rattle.nvm_plan.specs.Operation.{job_operation_of}
use Rattle.nvm_unit.specs.declared.views.PassView.{PassView}
use Rattle.nvm_unit.specs.Ends.{views_of}
use Rattle.nvm_space.specs.Ports.{PortState, new_port}
use Rattle.nvm_space.specs.Spaces.{SpaceName}
use Rattle.nvm_audit.specs.Recordable.{HoldsWholeReads}
use Rattle.nvm_audit.specs.RecordedJob.{RecordedJob}
use Rattle.nvm_audit.specs.RecordView.{RecordView}
use Rattle.nvm_engine.specs.DoneJobs.{HasDoneJob, HaveDone}
use Rattle.nvm_engine.specs.Gathered.{IsGathered}
use Rattle.nvm_engine.proofs.DoneReads.{LiesInside, MeetsItsUnits, replies_to, data_is_cut}
use Rattle.nvm_engine.proofs.InLists.{some_there}
use Rattle.nvm_engine.proofs.JobReplies.{PairMeetsOne, IsRepliedTo, ready_is, replied_to}
use Rattle.nvm_engine.proofs.PassPlaces.{AreInTheirUnits, new_port_lies, places_stay}
use Rattle.nvm_engine.proofs.PassReads.{KeepSizes, ReadsAreWhole}
use Rattle.nvm_engine.proofs.Places.{at_below}
use Rattle.nvm_engine.proofs.ReadCut.{StandInLine}

module _ (in_line : StandInLine) (inside : LiesInside) (meets_units : MeetsItsUnits) (keep : KeepSizes)
    (whole : ReadsAreWhole) (one : PairMeetsOne) where
  pub done_is_whole : (ns : Namespace) (jobs : List Job) (d : RecordedJob) (old new : List PassView) (job : Job) (op : Operation) (bytes : List ℕ)
      → HasDoneJob ns jobs d old new → AreInTheirUnits ns old → IsAt jobs d.job job → ready_operation ns job ≡ Some op
      → d.payload ≡ Some bytes
      → length bytes ≡ op.blocks * ns.block_size
  done_is_whole ns jobs d old new job op bytes done places its ready e =
      by (replied_to one ns done.job (replies_to done.parts) d.statuses d.payload done.outcome)
    where
      by : IsRepliedTo ns (refusal_of ns done.job) (job_operation_of ns done.job) (replies_to done.parts) d.statuses d.payload
          → length bytes ≡ op.blocks * ns.block_size
      by (inl none) = absurd (none-some bytes (sym none.1 ∙ e))
      by (inr served) =
          let same_job : done.job ≡ job = some-injective done.job job (sym done.its ∙ its) in
          let is = ready_is (refusal_of ns done.job) (job_operation_of ns done.job) served.0 served.1 served.2 in
          let same : served.0 ≡ op =
          same_Some served.0 op (sym is ∙ ap (ready_operation ns) same_job ∙ ready) in
          (data_is_cut in_line inside meets_units keep whole ns d.job done.job served.0 done.parts old new d.statuses d.payload bytes served.1
          served.2 done.does places done.each served.3 e).1
          ∙ ap (λ (o : Operation). o.blocks * ns.block_size) same

  work_is_whole : (ns : Namespace) (jobs : List Job) (work : List RecordedJob) (old new : List PassView) (k : ℕ) (d : RecordedJob) (job : Job)
      (op : Operation) (bytes : List ℕ) → HaveDone ns jobs work old new → AreInTheirUnits ns old → IsAt work k d → IsAt jobs d.job job
      → ready_operation ns job ≡ Some op → d.payload ≡ Some bytes → length bytes ≡ op.blocks * ns.block_size
  work_is_whole ns jobs [] old new k d job op bytes done places at its ready e = absurd (some-ne-none d (sym at))
  work_is_whole ns jobs (first ∷ work) old new zero d job op bytes done places at its ready e =
      done_is_whole ns jobs d old done.0 job op bytes
      (subst (λ (x : RecordedJob). HasDoneJob ns jobs x old done.0) (some-injective first d at) done.1) places its ready e
  work_is_whole ns jobs (first ∷ work) old new (suc k) d job op bytes done places at its ready e =
      work_is_whole ns jobs work done.0 new k d job op bytes done.2 (places_stay ns jobs first old done.0 done.1 places) at its ready e

  pub gathered_are_whole : ((ns : Namespace) → 0 < ns.nsze → units_of ns ≤ most_units → regions_of ns ≡ ns)
      → (s : SpaceName) (ports : List PortState) (r : RecordView) → IsGathered s ports r → HoldsWholeReads r
  gathered_are_whole few_alike s ports r gathered worker work k d job op bytes at_worker at_job its ready e =
      let below : worker < length ports =
      omega (arith, at_below r.done worker work at_worker, gathered.workers, gathered.all.count) in
      let port = some_there ports worker below in
      work_is_whole s.namespace r.jobs work (views_of (new_port s.units worker).passes) (views_of port.0.passes) k d job op bytes
      (gathered.done worker work port.0 at_worker port.1) (new_port_lies s worker (few_alike s.namespace gathered.valid.some gathered.valid.units) gathered.laid) at_job its
      (subst (λ (ns : Namespace). ready_operation ns job ≡ Some op) gathered.namespace ready) e
      ∙ ap (λ (ns : Namespace). op.blocks * ns.block_size) (sym gathered.namespace)
