-- What the reply to a job says of it: Base Specification, "Status Field". Which statuses leave open what was done is this
-- project's own.
use Rattle.std.specs.Prelude.{nat_eq, not, Bool, true, false, ◌&&◌, ◌||◌, Option, Some, None}
use Rattle.nvm_record.specs.declared.op.Op.{Op}
use Rattle.nvm_record.specs.declared.op.Op.TheVariants.{Read, Compare}
use Rattle.nvm_record.specs.declared.status.Status.{Status}
use Rattle.nvm_record.specs.declared.status.Statuses.{Statuses}
use Rattle.nvm_record.specs.declared.status.Statuses.TheVariants.{One, Two}
use Rattle.nvm_record.specs.Status.{successful_completion, invalid_command_opcode, invalid_field_in_command, aborted_due_to_failed_fused_command, aborted_due_to_missing_fused_command, invalid_namespace_or_format, atomic_write_unit_exceeded, lba_out_of_range, unrecovered_read_error, compare_failure}
use Rattle.nvm_geometry.specs.Namespace.{Namespace}
use Rattle.nvm_plan.specs.declared.job.Body.{Body}
use Rattle.nvm_plan.specs.declared.job.Body.TheVariants.{Single, Pair}
use Rattle.nvm_plan.specs.declared.job.Job.{Job}
use Rattle.nvm_plan.specs.Checks.{refusal_of}
use Rattle.nvm_plan.specs.Profile.{is_in_profile}
use Rattle.nvm_trace.specs.declared.traced_job.Ending.{Ending}
use Rattle.nvm_trace.specs.declared.traced_job.TracedJob.{TracedJob}

abbrev pub is_status : Status → Status → Bool
is_status s t = nat_eq s.sct t.sct && nat_eq s.sc t.sc

abbrev pub are_statuses : Statuses → Statuses → Bool
are_statuses (One s) (One t) = is_status s t
are_statuses (One s) (Two t t2) = false
are_statuses (Two s s2) (One t) = false
are_statuses (Two s s2) (Two t t2) = is_status s t && is_status s2 t2

-- how a comparison ends that doesn't hold: a block is marked, or a byte differs
abbrev pub is_failed_comparison : Status → Bool
is_failed_comparison s = is_status s unrecovered_read_error || is_status s compare_failure

-- the errors that the step gives a command by itself
abbrev pub is_error_of : Op → Status → Bool
is_error_of Read s = is_status s unrecovered_read_error
is_error_of Compare s = is_failed_comparison s
is_error_of _ s = false

-- statuses that the step gives a job, on some blocks
abbrev pub can_be_of : Body → Statuses → Bool
can_be_of (Single c) (One s) = is_status s successful_completion || is_error_of c.op s
can_be_of (Single c) (Two s t) = false
can_be_of (Pair c d) (One s) = false
can_be_of (Pair c d) (Two s t) =
    is_status s successful_completion && is_status t successful_completion
    || is_failed_comparison s && is_status t aborted_due_to_failed_fused_command

-- whether the job is of the profile: what another opcode does isn't known here
abbrev pub is_served : Body → Bool
is_served (Single c) = is_in_profile c.op
is_served (Pair c d) = true

abbrev pub is_success : Statuses → Bool
is_success (One s) = is_status s successful_completion
is_success (Two s t) = is_status s successful_completion && is_status t successful_completion

-- One status of a pair says that the comparison held, and the other that it didn't. The Write's success says that it did, so the
-- Compare's status has to be success, too; and 0/09 says that it didn't. No step ends so, and no error leaves open what was done.
-- An error of the Write alone leaves it open, as (0/00, 0/06) does.
abbrev pub contradicts_itself : Statuses → Bool
contradicts_itself (One s) = false
contradicts_itself (Two s t) =
    not (is_status s successful_completion) && is_status t successful_completion
    || is_status s successful_completion && is_status t aborted_due_to_failed_fused_command

-- Of a job that a check refuses, the refusal says that it was refused, and success that it wasn't. Of another job a status of
-- the step says what the step did. Statuses that contradict one another say what no record has.
abbrev pub says_of : Option Statuses → Body → Statuses → Bool
says_of (Some refusal) body statuses =
    is_served body && (are_statuses statuses refusal || is_success statuses || contradicts_itself statuses)
says_of None body statuses = can_be_of body statuses || contradicts_itself statuses

abbrev pub says_at : Namespace → Job → Option Ending → Bool
says_at ns job None = false
says_at ns job (Some e) = says_of (refusal_of ns job) job.body e.statuses

-- The reply says what was done. It doesn't where the job never ended, where it ended in an error that isn't the step's, and
-- where the opcode isn't of the profile.
abbrev pub says_what_was_done : Namespace → TracedJob → Bool
says_what_was_done ns j = says_at ns j.job j.ended

-- The errors that are found before a command is executed.
abbrev pub is_found_before : Status → Bool
is_found_before s =
    is_status s invalid_command_opcode || is_status s invalid_field_in_command
    || is_status s aborted_due_to_failed_fused_command || is_status s aborted_due_to_missing_fused_command
    || is_status s invalid_namespace_or_format || is_status s atomic_write_unit_exceeded || is_status s lba_out_of_range

abbrev pub are_found_before : Statuses → Bool
are_found_before (One s) = is_found_before s
are_found_before (Two s t) = is_failed_comparison s || is_found_before t

abbrev pub found_before_at : Option Ending → Bool
found_before_at None = false
found_before_at (Some e) = are_found_before e.statuses

-- The reply says that nothing was written: the command, or the Write of a pair, was aborted before it was executed, or the Compare
-- of a pair failed.
abbrev pub says_nothing_was_written : TracedJob → Bool
says_nothing_was_written j = found_before_at j.ended

-- The reply, if there is one, leaves open what was done.
abbrev pub leaves_open : Namespace → TracedJob → Bool
leaves_open ns j = not (says_what_was_done ns j) && not (says_nothing_was_written j)
