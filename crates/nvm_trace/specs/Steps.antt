-- The steps that a record shows, with the times that a trace has of their jobs (own). A part that found no memory, or the
-- history at its limit, is no step.
use Rattle.std.specs.Prelude.{ℕ, Bool, true, false, List, [], ◌∷◌, Option, Some, None, slice_get}
use Rattle.std.specs.List.{flat_map}
use Rattle.nvm_plan.specs.declared.part.Part.{Part}
use Rattle.nvm_plan.specs.declared.part.PartResult.{PartResult}
use Rattle.nvm_plan.specs.declared.part.PartResult.TheVariants.{Done, Failed, Looked, NoMemory, Full}
use Rattle.nvm_audit.specs.RecordedJob.{RecordedJob}
use Rattle.nvm_trace.specs.declared.step.Step.{Step}
use Rattle.nvm_trace.specs.declared.step.Times.{Times}
use Rattle.nvm_trace.specs.declared.traced_job.Ending.{Ending}
use Rattle.nvm_trace.specs.declared.traced_job.TracedJob.{TracedJob}

abbrev pub end_of : Option Ending → Option ℕ
end_of None = None
end_of (Some e) = Some e.time

-- A job that isn't the trace's is a preparation: it began and ended at time 0.
abbrev pub times_in : Option TracedJob → Times
times_in None = record { began = 0; ended = Some 0 }
times_in (Some j) = record { began = j.began; ended = end_of j.ended }

-- when the job of this number began and ended
abbrev pub times_of : List TracedJob → ℕ → Times
times_of jobs number = times_in (slice_get jobs number)

abbrev pub step_of : Times → ℕ → Part → Bool → Step
step_of times job part made =
    record { job = job; unit = part.unit; point = part.point; made = made; began = times.began; ended = times.ended }

-- what a part is that ended so: one step or none
abbrev pub steps_by : Times → ℕ → Part → PartResult → List Step
steps_by times job part Done = step_of times job part true ∷ []
steps_by times job part Failed = step_of times job part false ∷ []
steps_by times job part Looked = step_of times job part false ∷ []
steps_by times job part NoMemory = []
steps_by times job part Full = []

abbrev pub steps_of_part : Times → ℕ → Part → List Step
steps_of_part times job part = steps_by times job part part.result

abbrev pub steps_of_job : List TracedJob → RecordedJob → List Step
steps_of_job jobs d = flat_map (steps_of_part (times_of jobs d.job) d.job) d.parts

abbrev pub steps_of_work : List TracedJob → List RecordedJob → List Step
steps_of_work jobs work = flat_map (steps_of_job jobs) work

-- the steps of all workers: the first one's in its order, then the next one's
abbrev pub steps_of : List TracedJob → List (List RecordedJob) → List Step
steps_of jobs done = flat_map (steps_of_work jobs) done
