-- The points of all commands of a trace, in the order of their numbers, and which replies are wrong by themselves
-- (docs/STANDARD.md, "What a command does").
use Rattle.std.specs.Prelude.{◌≡◌, ℕ, ◌+◌, Bool, false, not, ◌&&◌, ◌||◌, List, [], ◌∷◌, ◌++◌, if◌then◌else◌, Option, Some, None, position}
use Rattle.nvm_record.specs.declared.command.Command.{Command}
use Rattle.nvm_record.specs.declared.status.Status.{Status}
use Rattle.nvm_geometry.specs.Namespace.{Namespace}
use Rattle.nvm_plan.specs.declared.job.Body.{Body}
use Rattle.nvm_plan.specs.declared.job.Body.TheVariants.{Single, Pair}
use Rattle.nvm_trace.specs.TraceView.{TraceView}
use Rattle.nvm_trace.specs.declared.traced_job.Ending.{Ending}
use Rattle.nvm_trace.specs.declared.traced_job.TracedJob.{TracedJob}
use Rattle.nvm_standard.specs.Commands.{single_points, pair_points, is_pair}
use Rattle.nvm_standard.specs.PointView.{PointView, TableView}
use Rattle.nvm_standard.specs.Statuses.{told_of, ended_as, first_status, second_status, is_done, is_host}
use Rattle.nvm_standard.specs.declared.doer.Doer.{Doer}
use Rattle.nvm_standard.specs.declared.points_fault.PointsFault.{PointsFault}
use Rattle.nvm_standard.specs.declared.points_fault.PointsFault.TheVariants.{Wrong, NoMemory}
use Rattle.nvm_standard.specs.declared.profile.Held.{Held}
use Rattle.nvm_standard.specs.declared.profile.Profile.{Profile}

abbrev pub time_of : Option Ending → Option ℕ
time_of None = None
time_of (Some e) = Some e.time

abbrev pub data_told : Option Ending → Option (List ℕ)
data_told None = None
data_told (Some e) = e.payload

abbrev pub doer_of : ℕ → TracedJob → Doer
doer_of number j = record { command = number; began = j.began; ended = time_of j.ended }

-- Two that are no pair are two commands by themselves.
unfoldable pub body_points : Namespace → Held → Doer → Option Ending → Body → List PointView
body_points ns held d ended (Single c) = single_points ns held d c (first_status ended) (data_told ended)
body_points ns held d ended (Pair c e) =
    if is_pair c e then pair_points ns d c e (first_status ended) (second_status ended) else
    single_points ns held d c (first_status ended) None ++ single_points ns held d e (second_status ended) None

-- the points of the command of this number
abbrev pub points_of_command : Namespace → Held → ℕ → TracedJob → List PointView
points_of_command ns held number j = body_points ns held (doer_of number j) j.ended j.job.body

-- the points of these commands, of which the first has this number
abbrev pub points_from : Namespace → Held → ℕ → List TracedJob → List PointView
points_from ns held number [] = []
points_from ns held number (j ∷ js) = points_of_command ns held number j ++ points_from ns held (number + 1) js

-- No device may end a pair so: one status says that the comparison held, and the other that it didn't.
abbrev pub are_wrong : Option Status → Option Status → Bool
are_wrong s t =
    not (is_done (told_of s)) && not (is_host (told_of s)) && is_done (told_of t) || is_done (told_of s) && ended_as t 0 0x09

abbrev pub is_wrong_pair : Option Ending → Command → Command → Bool
is_wrong_pair ended c e = is_pair c e && are_wrong (first_status ended) (second_status ended)

abbrev pub is_wrong_body : Option Ending → Body → Bool
is_wrong_body ended (Single c) = false
is_wrong_body ended (Pair c e) = is_wrong_pair ended c e

-- The reply is wrong by itself: nothing explains it.
unfoldable pub is_wrong : TracedJob → Bool
is_wrong j = is_wrong_body j.ended j.job.body

-- the number of the first command whose reply is wrong by itself
abbrev pub first_wrong : List TracedJob → Option ℕ
first_wrong jobs = position is_wrong jobs

-- why the trace has no table
abbrev pub IsFaultOf : TraceView → PointsFault → Type 0
IsFaultOf t (Wrong command) = first_wrong t.jobs ≡ Some command
IsFaultOf t NoMemory = Unit {0}

-- the table of a trace
abbrev pub table_of : TraceView → Profile → TableView
table_of t profile =
    record {
      nsze = t.namespace.nsze;
      block_size = t.namespace.block_size;
      start = t.start;
      deallocated = profile.deallocated;
      points = points_from t.namespace profile.held 0 t.jobs;
    }
