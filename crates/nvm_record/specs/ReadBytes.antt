-- The bytes that a Read is answered.
use Rattle.std.specs.Prelude.{ℕ, List}
use Rattle.nvm_record.specs.declared.read_data.Held.{Held}
use Rattle.nvm_record.specs.declared.read_data.Held.TheVariants.{Own, Shared}

-- the bytes, whether they are shared or not
abbrev pub read_bytes : Held → List ℕ
read_bytes (Own bytes) = bytes.items
read_bytes (Shared payload) = payload
