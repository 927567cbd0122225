-- Bytes that several owners share.
use Rattle.std.specs.Prelude.{ℕ, List, [], Option, None, Some, Vec}
use Rattle.std.specs.Arc.{arc_value}
use Rattle.std.specs.declared.sync.Arc.{Arc}

module _ {A Y Z : Type 0} where
  -- all bytes that are shared: of no `Vec` there are none
  abbrev pub shared_bytes : Option (Arc (Arc (Vec ℕ A) Y) Z) → List ℕ
  shared_bytes None = []
  shared_bytes (Some whole) = (arc_value (arc_value whole)).items
