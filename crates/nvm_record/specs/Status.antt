-- The statuses that are answered, by their names: Base Specification, "Status Field", generic command
-- status values, and media and data integrity errors. The type comes first, then the code.
use Rattle.std.specs.Prelude.{◌≡◌, ℕ}
use Rattle.nvm_record.specs.declared.status.Status.{Status}
use Rattle.nvm_record.specs.declared.status.Statuses.{Statuses}
use Rattle.nvm_record.specs.declared.status.Statuses.TheVariants.{One, Two}

abbrev pub status : ℕ → ℕ → Status
status sct sc = record { sct = sct; sc = sc }

abbrev pub successful_completion : Status
successful_completion = status 0 0x00

abbrev pub invalid_command_opcode : Status
invalid_command_opcode = status 0 0x01

abbrev pub invalid_field_in_command : Status
invalid_field_in_command = status 0 0x02

abbrev pub internal_error : Status
internal_error = status 0 0x06

abbrev pub aborted_due_to_failed_fused_command : Status
aborted_due_to_failed_fused_command = status 0 0x09

abbrev pub aborted_due_to_missing_fused_command : Status
aborted_due_to_missing_fused_command = status 0 0x0a

abbrev pub invalid_namespace_or_format : Status
invalid_namespace_or_format = status 0 0x0b

abbrev pub atomic_write_unit_exceeded : Status
atomic_write_unit_exceeded = status 0 0x14

abbrev pub lba_out_of_range : Status
lba_out_of_range = status 0 0x80

abbrev pub unrecovered_read_error : Status
unrecovered_read_error = status 2 0x81

abbrev pub compare_failure : Status
compare_failure = status 2 0x85

-- each command ended with success
abbrev pub IsSuccess : Statuses → Type 0
IsSuccess (One s) = s ≡ successful_completion
IsSuccess (Two s t) = (s ≡ successful_completion) × (t ≡ successful_completion)
