-- Words on lists that definitions of all crates share.
use Rattle.std.specs.Prelude.{◌≡◌, ℕ, List}
use mathlib.Core.Option.{some}
use lib.ListN.{get_elem?}

-- It is at place i of the list, counted from 0.
abbrev pub IsAt : {A : Type 0} → List A → ℕ → A → Type 0
IsAt xs i x = get_elem? xs i ≡ some x
