-- The bytes that are lent, of a payload or of none.
use Rattle.std.specs.Prelude.{ℕ, List}
use Rattle.nvm_record.specs.declared.payload_ref.PayloadRef.{PayloadRef}

unfoldable pub lent_bytes : PayloadRef → List ℕ
lent_bytes lent = lent.bytes.now
