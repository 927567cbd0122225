-- Which commands a contradiction names: those whose points its facts and its conclusion do.
use Rattle.std.specs.Prelude.{◌≡◌, ◌↔◌, ℕ, ◌-◌, List, [], ◌∷◌, ◌++◌, length, Contains, Option, Some, None, slice_get}
use Rattle.std.specs.List.{flat_map}
use Rattle.std.specs.List.Sorted.{IsStrictlyIncreasing}
use Rattle.nvm_standard.specs.declared.contradiction.Conclusion.{Conclusion}
use Rattle.nvm_standard.specs.declared.contradiction.Conclusion.TheVariants.{Loop, Nobody, Nowhere}
use Rattle.nvm_standard.specs.declared.contradiction.Contradiction.{Contradiction}
use Rattle.nvm_standard.specs.declared.fact.Fact.{Fact}
use Rattle.nvm_standard.specs.declared.fact.Fact.TheVariants.{Time, Deallocate, Own, Source, Over, Under, First, AtFirst, TiedBefore, TiedAfter}
use Rattle.nvm_standard.specs.PointView.{PointView, TableView}

-- the numbers of the points that the fact names
abbrev pub fact_points : Fact → List ℕ
fact_points (Time earlier later) = earlier.point ∷ later.point ∷ []
fact_points (Deallocate deallocate writer x) = deallocate ∷ writer ∷ []
fact_points (Own later x) = (later - 1) ∷ later ∷ []
fact_points (Source writer reader x) = writer ∷ reader ∷ []
fact_points (Over reader writer x source) = reader ∷ writer ∷ source ∷ []
fact_points (Under writer source x reader) = reader ∷ writer ∷ source ∷ []
fact_points (First reader writer x) = writer ∷ reader ∷ []
fact_points (AtFirst reader x) = reader ∷ []
fact_points (TiedBefore reader x entry y) = reader ∷ entry ∷ []
fact_points (TiedAfter entry reader x y) = reader ∷ entry ∷ []

-- those that the conclusion names
abbrev pub conclusion_points : Conclusion → List ℕ
conclusion_points Loop = []
conclusion_points (Nobody reader x) = reader ∷ []
conclusion_points (Nowhere reader) = reader ∷ []

-- those that the contradiction names
abbrev pub points_named : Contradiction → List ℕ
points_named c = flat_map fact_points c.facts.items ++ conclusion_points c.conclusion

abbrev pub command_of : Option PointView → List ℕ
command_of None = []
command_of (Some q) = q.command ∷ []

-- the command of the point of this number, where the table has it
abbrev pub command_at : TableView → ℕ → List ℕ
command_at t number = command_of (slice_get t.points number)

-- the commands of the points of these numbers
abbrev pub commands_at : TableView → List ℕ → List ℕ
commands_at t numbers = flat_map (command_at t) numbers

-- The second are the numbers of the first, rising, each once.
pub record AreRising (all once : List ℕ) : Type 0 where
  pub rising : IsStrictlyIncreasing once
  pub exactly : (n : ℕ) → Contains once n ↔ Contains all n

-- The contradiction names these commands.
abbrev pub AreNamed : TableView → Contradiction → List ℕ → Type 0
AreNamed t c commands = AreRising (commands_at t (points_named c)) commands

-- The contradiction names so many commands.
pub record IsCountNamed (t : TableView) (c : Contradiction) (count : ℕ) : Type 0 where
  pub commands : List ℕ
  pub named : AreNamed t c commands
  pub count_is : count ≡ length commands
