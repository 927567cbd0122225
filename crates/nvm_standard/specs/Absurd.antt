-- When facts contradict each other: then no order of the table's points is an explanation, which is `contradicted` of `contradicts` (own).
use Rattle.std.specs.Prelude.{◌≡◌, ℕ, List, length, Some, slice_get}
use Rattle.nvm_standard.specs.PointView.{PointView, TableView}
use Rattle.nvm_standard.specs.declared.point.Presence.TheVariants.{OneOf}
use Rattle.nvm_standard.specs.Places.{IsOf}
use Rattle.nvm_standard.specs.declared.contradiction.Conclusion.{Conclusion}
use Rattle.nvm_standard.specs.declared.contradiction.Conclusion.TheVariants.{Loop, Nobody, Nowhere}
use Rattle.nvm_standard.specs.declared.fact.Fact.{Fact}
use Rattle.nvm_standard.specs.Knowledge.{Knowledge}
use Rattle.nvm_standard.specs.Nodes.{node_at}
use Rattle.nvm_standard.specs.Readings.{IsSource}
use Rattle.nvm_standard.specs.Rules.{IsGiven}
use Rattle.nvm_standard.specs.Standing.{HasLoop, known_by}

-- Nobody can have left in the block what the reader found there.
abbrev pub IsNobody : TableView → Knowledge → ℕ → ℕ → Type 0
IsNobody t K reader x = IsSource t K reader reader x

-- So it is of each block of a point that is done in one of them.
pub record IsNowhere (t : TableView) (K : Knowledge) (reader : ℕ) : Type 0 where
  pub point : PointView
  pub its : slice_get t.points reader ≡ Some point
  pub one : point.presence ≡ OneOf
  pub each : (x : ℕ) → IsOf point x → IsNobody t K reader x

-- The conclusion is absurd.
abbrev pub IsAbsurd : TableView → Knowledge → Conclusion → Type 0
IsAbsurd t K Loop = HasLoop K
IsAbsurd t K (Nobody reader x) = K.there (node_at t reader x) × IsNobody t K reader x
IsAbsurd t K (Nowhere reader) = IsNowhere t K reader

-- Each fact is given by its rule and the facts before it, and then the conclusion follows.
pub record IsContradiction (t : TableView) (facts : List Fact) (conclusion : Conclusion) : Type 0 where
  pub given : (n : ℕ) (fact : Fact) → slice_get facts n ≡ Some fact → IsGiven t (known_by t facts n) fact
  pub absurd_then : IsAbsurd t (known_by t facts (length facts)) conclusion
