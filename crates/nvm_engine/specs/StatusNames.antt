-- The names of the statuses that are answered (Base Specification, "Status Field"; NVM Command Set, "Status Codes"), and the
-- number that tools print of a status: type * 256 + code, in lower-case hexadecimal digits without leading zeroes.
use Rattle.std.specs.Prelude.{◌≡◌, ◌⊎◌, ℕ, ◌==◌, ◌+◌, ◌*◌, ◌&&◌, Bool, false, if◌then◌else◌, List, [], ◌∷◌, codes}
use Rattle.std.specs.Fmt.{digits}
use Rattle.nvm_record.specs.declared.status.Status.{Status}
use Rattle.nvm_record.specs.declared.status.Statuses.{Statuses}
use Rattle.nvm_record.specs.declared.status.Statuses.TheVariants.{One, Two}
use Rattle.nvm_record.specs.Status.{successful_completion, invalid_command_opcode, invalid_field_in_command, internal_error}
use Rattle.nvm_record.specs.Status.{aborted_due_to_failed_fused_command, aborted_due_to_missing_fused_command}
use Rattle.nvm_record.specs.Status.{invalid_namespace_or_format, atomic_write_unit_exceeded, lba_out_of_range}
use Rattle.nvm_record.specs.Status.{unrecovered_read_error, compare_failure}

-- a status, and its name in the standard
pub record NamedStatus : Type 0 where
  pub status : Status
  pub name : List ℕ

abbrev pub named : Status → List ℕ → NamedStatus
named status name = record { status = status; name = name }

-- the statuses that are answered
abbrev pub status_table : List NamedStatus
status_table =
    named successful_completion (codes "Successful Completion") ∷
    named invalid_command_opcode (codes "Invalid Command Opcode") ∷
    named invalid_field_in_command (codes "Invalid Field in Command") ∷
    named internal_error (codes "Internal Error") ∷
    named aborted_due_to_failed_fused_command (codes "Command Aborted due to Failed Fused Command") ∷
    named aborted_due_to_missing_fused_command (codes "Command Aborted due to Missing Fused Command") ∷
    named invalid_namespace_or_format (codes "Invalid Namespace or Format") ∷
    named atomic_write_unit_exceeded (codes "Atomic Write Unit Exceeded") ∷
    named lba_out_of_range (codes "LBA Out of Range") ∷
    named unrecovered_read_error (codes "Unrecovered Read Error") ∷
    named compare_failure (codes "Compare Failure") ∷
    []

-- what is printed of a status that the table doesn't have
abbrev pub unknown_status : List ℕ
unknown_status = codes "Unknown status"

abbrev pub is_same : Status → Status → Bool
is_same s t = s.sct == t.sct && s.sc == t.sc

-- the name that rows have for a status
abbrev pub name_in : List NamedStatus → Status → List ℕ
name_in [] status = unknown_status
name_in (row ∷ rows) status = if is_same status row.status then row.name else name_in rows status

-- the name of a status
unfoldable pub status_name : Status → List ℕ
status_name status = name_in status_table status

-- The status is that of one of the rows.
abbrev pub StandsIn : List NamedStatus → Status → Type 0
StandsIn [] status = ⊥
StandsIn (row ∷ rows) status = (status ≡ row.status) ⊎ StandsIn rows status

-- The status has a name.
abbrev pub HasName : Status → Type 0
HasName status = StandsIn status_table status

-- Each of the statuses has a name.
abbrev pub HaveNames : Statuses → Type 0
HaveNames (One s) = HasName s
HaveNames (Two s t) = HasName s × HasName t

-- the digits of the number
unfoldable pub status_digits : Status → List ℕ
status_digits status = digits 16 false (status.sct * 256 + status.sc)
