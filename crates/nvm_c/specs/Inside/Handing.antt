-- The bytes that were handed over.
use Rattle.std.specs.Prelude.{ℕ, List, [], ◌++◌}
use Rattle.nvm_c.specs.declared.handed.Handing.{Handing}
use Rattle.nvm_c.specs.declared.handed.Handing.TheVariants.{Nothing, More}

abbrev pub bytes_handed : Handing → List ℕ
bytes_handed Nothing = []
bytes_handed (More before bytes) = before.now.bytes ++ bytes.now
