-- What the shape of an outcome says of each of its parts.
use Rattle.std.proofs.Common.{ℕ, zero, suc, List, [], ◌∷◌, ◌++◌, map, Option, IsTrue, Contains, ap, subst, inl, inr}
use mathlib.Core.Option.{some, some-injective}
use Rattle.nvm_record.specs.Lists.{IsAt}
use Rattle.nvm_record.specs.declared.status.Statuses.{Statuses}
use Rattle.nvm_record.specs.Step.{Operation}
use Rattle.nvm_geometry.specs.Namespace.{Namespace}
use Rattle.nvm_geometry.specs.Parts.{units_met}
use Rattle.nvm_plan.specs.declared.part.Part.{Part}
use Rattle.nvm_plan.specs.Reply.{can_have}
use Rattle.nvm_plan.specs.Shape.{HasShapeOf}
use Rattle.nvm_audit.proofs.EachPasses.{all_here}
use Rattle.nvm_audit.proofs.Standing.{none_stands, contained}

-- A part of an operation: in a unit that it meets, with a result that it can have.
pub record IsPartOf (ns : Namespace) (op : Operation) (part : Part) : Type 0 where
  pub met : Contains (units_met ns op) part.unit
  pub result : IsTrue (can_have op.deed part.result)

unit_there : (parts : List Part) (left : List ℕ) (i : ℕ) (part : Part) → IsAt parts i part
    → IsAt (map (λ p. p.unit) parts ++ left) i part.unit
unit_there [] left i part e = absurd (none_stands i part e)
unit_there (p ∷ ps) left zero part e = ap some (ap (λ (q : Part). q.unit) (some-injective p part e))
unit_there (p ∷ ps) left (suc i) part e = unit_there ps left i part e

pub part_of_shape : (ns : Namespace) (op : Operation) (parts : List Part) (told : Statuses) (read : Option (List ℕ))
    → HasShapeOf ns op parts told read → (i : ℕ) (part : Part) → IsAt parts i part → IsPartOf ns op part
part_of_shape ns op parts told read shape i part at = elim shape.ending [
  | inl unmet ↦ absurd (none_stands i part (subst (λ (l : List Part). IsAt l i part) unmet.none_done at))
  | inr rest ↦ elim rest [
    | inl unstarted ↦ absurd (none_stands i part (subst (λ (l : List Part). IsAt l i part) unstarted.none_done at))
    | inr ended ↦ record {
      met =
          contained (units_met ns op) i part.unit
          (subst (λ (l : List ℕ). IsAt l i part.unit) ended.units (unit_there parts ended.left i part at));
      result = all_here (λ p. IsTrue (can_have op.deed p.result)) parts ended.results i part at;
    }
  ]
]
