-- A write is cut exactly where it isn't within the advertised limits.
use Rattle.std.proofs.Common.{◌≡◌, ℕ, ◌+◌, ◌-◌, ◌↔◌, Bool, true, false, not, IsTrue, refl, sym, inl, inr}
use Rattle.std.proofs.lemmas.Bool.{cases_Bool, not-false, or_parts, or_from, not_from_true, ltb-false, le-ltb, eqb-true, eq-eqb}
use Rattle.nvm_geometry.specs.Namespace.{Namespace}
use Rattle.nvm_geometry.specs.Boundaries.{SharesUnit, unit_number}
use Rattle.nvm_geometry.specs.Limits.{IsWithinWriteLimit}
use Rattle.nvm_trace.specs.Pieces.{exceeds_write_limit}

-- LBAs whose units have one number share a unit.
abbrev pub SharesByNumber : Type 0
SharesByNumber = (ns : Namespace) (a b : ℕ) → unit_number ns a ≡ unit_number ns b → SharesUnit ns a b

-- LBAs that share a unit have one number.
abbrev pub NumberByUnit : Type 0
NumberByUnit = (ns : Namespace) (a b : ℕ) → SharesUnit ns a b → unit_number ns a ≡ unit_number ns b

kept : NumberByUnit → (ns : Namespace) (slba blocks : ℕ) → IsWithinWriteLimit ns slba blocks → exceeds_write_limit ns slba blocks ≡ false
kept number ns slba blocks within =
    or_from _ _ (le-ltb (ns.nawun + 1) blocks within.few)
    (not_from_true _ (eq-eqb _ _ (number ns slba (slba + blocks - 1) within.one_unit)))

within_limit : SharesByNumber → (ns : Namespace) (slba blocks : ℕ) → exceeds_write_limit ns slba blocks ≡ false → IsWithinWriteLimit ns slba blocks
within_limit shares ns slba blocks h =
    let parts = or_parts _ _ h in
    record { one_unit = shares ns _ _ (eqb-true _ _ (not-false _ parts.1)); few = ltb-false _ _ parts.0 }

exceeded : SharesByNumber → (ns : Namespace) (slba blocks : ℕ) → (IsWithinWriteLimit ns slba blocks → ⊥) → true ≡ exceeds_write_limit ns slba blocks
exceeded shares ns slba blocks h =
    elim (cases_Bool (exceeds_write_limit ns slba blocks)) [ inl e ↦ sym e | inr e ↦ absurd (h (within_limit shares ns slba blocks e)) ]

-- The test for the limit is right.
pub limit_tested : NumberByUnit → SharesByNumber → (within : Bool) (ns : Namespace) (slba blocks : ℕ)
    → (IsTrue within ↔ IsWithinWriteLimit ns slba blocks) → not within ≡ exceeds_write_limit ns slba blocks
limit_tested number shares true ns slba blocks h = sym (kept number ns slba blocks (h.0 refl))
limit_tested number shares false ns slba blocks h = exceeded shares ns slba blocks (λ within. cc (h.1 within))
