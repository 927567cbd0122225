-- The numbers by which C knows what an audit answers. 0 and 4 are codes of other calls, too.
use Rattle.std.specs.Prelude.{ℤ, pos}
use Rattle.nvm_c.specs.declared.audit_code.AuditCode.{AuditCode}
use Rattle.nvm_c.specs.declared.audit_code.AuditCode.TheVariants.{Lawful, Unlawful, BadRecord, NoMemory, ShortRoom}

abbrev pub audit_number : AuditCode → ℤ
audit_number Lawful = pos 0
audit_number NoMemory = pos 4
audit_number Unlawful = pos 16
audit_number BadRecord = pos 17
audit_number ShortRoom = pos 18
