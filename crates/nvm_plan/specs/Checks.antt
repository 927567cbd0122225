-- The checks of a job before anything is done: NVM Command Set Specification, "Compare and Write"; Base
-- Specification, "Status Field". Their order, that the first that applies decides, and which status each
-- gives are this project's own.
use Rattle.std.specs.Prelude.{ℕ, ◌+◌, ◌-◌, ◌==◌, nat_lt, if◌then◌else◌, List, [], ◌∷◌, Option, Some, None, Bool, true, false, not, ◌&&◌, ◌||◌}
use Rattle.nvm_record.specs.declared.op.Op.{Op}
use Rattle.nvm_record.specs.declared.op.Op.TheVariants.{Write, Compare}
use Rattle.nvm_record.specs.declared.op.Fuse.{Fuse}
use Rattle.nvm_record.specs.declared.op.Fuse.TheVariants.{Normal, First, Second, Reserved}
use Rattle.nvm_record.specs.declared.command.Command.{Command}
use Rattle.nvm_record.specs.declared.lba_range.LbaRange.{LbaRange}
use Rattle.nvm_record.specs.Op.{carries_ranges}
use Rattle.nvm_record.specs.Ranges.{ranges_of}
use Rattle.nvm_record.specs.declared.status.Statuses.{Statuses}
use Rattle.nvm_record.specs.declared.status.Statuses.TheVariants.{One, Two}
use Rattle.nvm_record.specs.Status.{invalid_command_opcode, invalid_field_in_command, aborted_due_to_failed_fused_command, aborted_due_to_missing_fused_command, invalid_namespace_or_format, atomic_write_unit_exceeded, lba_out_of_range}
use Rattle.nvm_geometry.specs.Namespace.{Namespace}
use Rattle.nvm_geometry.specs.Boundaries.{unit_number}
use Rattle.nvm_plan.specs.declared.job.Body.{Body}
use Rattle.nvm_plan.specs.declared.job.Body.TheVariants.{Single, Pair}
use Rattle.nvm_plan.specs.declared.job.Job.{Job}
use Rattle.nvm_plan.specs.Profile.{is_in_profile}

-- a row of the table: whether the check applies, and the statuses that it gives
pub record Check : Type 0 where
  pub applies : Bool
  pub answer : Statuses

abbrev pub check : Bool → Statuses → Check
check applies answer = record { applies = applies; answer = answer }

-- FUSE is 11b
abbrev pub is_reserved : Fuse → Bool
is_reserved Normal = false
is_reserved First = false
is_reserved Second = false
is_reserved Reserved = true

-- FUSE is 01b or 10b
abbrev pub is_fused : Fuse → Bool
is_fused Normal = false
is_fused First = true
is_fused Second = true
is_fused Reserved = false

-- the opcodes are those of Compare and Write, in this order
abbrev pub are_compare_and_write : Op → Op → Bool
are_compare_and_write Compare Write = true
are_compare_and_write _ _ = false

-- the identifier of the one namespace that there is
abbrev pub namespace_identifier : ℕ
namespace_identifier = 1

-- some range ends above NSZE; one without a block ends where it begins
abbrev pub some_ends_above : Namespace → List LbaRange → Bool
some_ends_above ns [] = false
some_ends_above ns (r ∷ rs) = nat_lt ns.nsze (r.first + r.blocks) || some_ends_above ns rs

-- the command's range ends above NSZE, or one of its ranges does
abbrev pub ends_above : Namespace → Command → Bool
ends_above ns c =
    if carries_ranges c.op then some_ends_above ns (ranges_of c.payload) else nat_lt ns.nsze (c.slba + c.nlb + 1)

-- A boundary is crossed by a range that has a block: its first and its last LBA are in different units.
abbrev pub crosses_boundary : Namespace → ℕ → ℕ → Bool
crosses_boundary ns slba blocks = not (unit_number ns slba == unit_number ns (slba + blocks - 1))

-- a pair has more than NACWU + 1 blocks, or crosses a boundary
abbrev pub exceeds_pair_limit : Namespace → ℕ → ℕ → Bool
exceeds_pair_limit ns slba blocks = nat_lt (ns.nacwu + 1) blocks || crosses_boundary ns slba blocks

-- the checks of a command by itself
abbrev pub single_checks : Namespace → Command → List Check
single_checks ns c =
    check (not (is_in_profile c.op)) (One invalid_command_opcode) ∷
    check (is_reserved c.fuse) (One invalid_field_in_command) ∷
    check (is_fused c.fuse) (One aborted_due_to_missing_fused_command) ∷
    check (not (c.nsid == namespace_identifier)) (One invalid_namespace_or_format) ∷
    check (ends_above ns c) (One lba_out_of_range) ∷
    []

-- the checks of a fused pair
abbrev pub pair_checks : Namespace → Command → Command → List Check
pair_checks ns c d =
    check (not (are_compare_and_write c.op d.op)) (Two invalid_field_in_command invalid_field_in_command) ∷
    check (not (c.nsid == namespace_identifier && d.nsid == namespace_identifier)) (Two invalid_namespace_or_format aborted_due_to_failed_fused_command) ∷
    check (not (c.slba == d.slba && c.nlb == d.nlb)) (Two invalid_field_in_command invalid_field_in_command) ∷
    check (ends_above ns c) (Two lba_out_of_range aborted_due_to_failed_fused_command) ∷
    check (exceeds_pair_limit ns c.slba (c.nlb + 1)) (Two atomic_write_unit_exceeded aborted_due_to_failed_fused_command) ∷
    []

abbrev pub checks : Namespace → Body → List Check
checks ns (Single c) = single_checks ns c
checks ns (Pair c d) = pair_checks ns c d

-- the answer of the first that applies
abbrev pub first_answer : List Check → Option Statuses
first_answer [] = None
first_answer (row ∷ rows) = if row.applies then Some row.answer else first_answer rows

-- the statuses with which a job is refused, if it is
unfoldable pub refusal_of : Namespace → Job → Option Statuses
refusal_of ns job = first_answer (checks ns job.body)
