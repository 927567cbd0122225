-- A port's pass of one of its space's units: of what it is, and what becomes of the port when it looks.
use Rattle.std.proofs.Common.{◌≡◌, ℕ, ◌+◌, ◌-◌, ◌<◌, ◌≤◌, List, map, Result, get_or, set, sym, ap, ◌∙◌, subst, arith}
use Rattle.std.proofs.Math.Seq.{map-set_same}
use Rattle.nvm_record.specs.Lists.{IsAt}
use Rattle.nvm_record.specs.Step.{Operation}
use Rattle.nvm_geometry.specs.Boundaries.{unit_number, units_of}
use Rattle.nvm_geometry.specs.Large.{regions_of}
use Rattle.nvm_geometry.specs.Namespace.{Namespace}
use Rattle.nvm_plan.specs.UnitPlace.{IsUnitPlace}
use Rattle.nvm_store.specs.Operation.{read_operation}
use Rattle.nvm_store.specs.Place.{IsCovered}
use Rattle.nvm_store.specs.declared.place.Place.{Place}
use Rattle.nvm_unit.specs.Ends.{views_of}
use Rattle.nvm_unit.specs.Passes.{UnitName, PassState, IsPassOf, IsProperPass}
use Rattle.nvm_unit.specs.Replies.{Looks}
use Rattle.nvm_unit.specs.declared.replies.LookFault.{LookFault}
use Rattle.nvm_unit.specs.declared.replies.Observed.{Observed}
use Rattle.nvm_unit.specs.declared.views.PassView.{PassView}
use Rattle.nvm_space.specs.Ports.{PortState, ArePassesOfAll, IsPortOf}
use Rattle.nvm_space.specs.ReadNow.{LooksIn}
use Rattle.nvm_space.specs.Spaces.{SpaceName, IsLaidOut, IsUnitOf}
use Rattle.nvm_space.specs.Visits.{BecomesAt}
use Rattle.nvm_space.proofs.Meetings.{unit_there, pass_there, of_unit, still_all, becomes}

module _ (s : SpaceName) (units : List UnitName) (port state : PortState) (k place : ℕ) (unit : UnitName) (pass : PassState)
    (laid : IsLaidOut s) (its_units : units ≡ s.units) (is : state ≡ port) (of : IsPortOf s port) (known : k < units_of (regions_of s.namespace))
    (same : place ≡ k) (unit_is : unit ≡ get_or units place unit) (pass_is : pass ≡ get_or state.passes place pass) where
  all : ArePassesOfAll s.units state.number state.passes
  all = subst (IsPortOf s) (sym is) of

  pub unit_of_space : IsUnitOf s place unit
  unit_of_space =
      laid.each place unit (unit_there (regions_of s.namespace) s.units units state.number k place state.passes unit pass laid.count its_units all known same unit_is pass_is)

  pub pass_of_unit : IsPassOf unit pass
  pass_of_unit = of_unit (regions_of s.namespace) s.units units state.number k place state.passes unit pass laid.count its_units all known same unit_is pass_is

  pub port_of_space : (after : PassState) → IsPassOf unit after → after.view.number ≡ pass.view.number
      → ArePassesOfAll s.units state.number (set state.passes place after)
  port_of_space =
      still_all (regions_of s.namespace) s.units units state.number k place state.passes unit pass laid.count its_units all known same unit_is pass_is

  pub becomes_in : (So : PassView → PassView → Type 0) (after : PassState) → So pass.view after.view → IsProperPass after.view
      → BecomesAt k So (views_of port.passes) (views_of (set state.passes place after))
  becomes_in So after so proper =
      becomes (regions_of s.namespace) s.units units state.number k place state.passes unit pass laid.count its_units all known same unit_is pass_is
      So port.passes after (ap (λ (p : PortState). p.passes) is) so proper

  pub looks_in : (op : Operation) (answer : Result Observed LookFault) (after : PassState) → Looks answer pass.keeps pass.view op after.view
      → IsProperPass after.view → after.keeps ≡ pass.keeps → LooksIn k op answer port.passes (set state.passes place after)
  looks_in op answer after looks proper keeps =
      let So : PassView → PassView → Type 0 = λ p q. Looks answer pass.keeps p op q in
      let passes = ap (λ (p : PortState). p.passes) is in
      let there = pass_there (regions_of s.namespace) s.units units state.number k place state.passes unit pass laid.count its_units all known same unit_is pass_is in
      record {
        pass = pass;
        its = subst (λ (ps : List PassState). IsAt ps k pass) passes (subst (λ (i : ℕ). IsAt state.passes i pass) same there);
        becomes = becomes_in So after looks proper;
        kept = map-set_same (λ (p : PassState). p.keeps) state.passes place after pass (keeps ∙ ap (λ (p : PassState). p.keeps) pass_is)
            ∙ ap (map (λ (p : PassState). p.keeps)) passes;
      }

-- Blocks that lie in the namespace, and whose first and last one lie in the unit, are covered by its place.
pub read_is_covered : (ns : Namespace) (unit : ℕ) (place : Place) (slba blocks : ℕ) → IsUnitPlace ns unit place → 0 < blocks
    → slba + blocks ≤ ns.nsze → unit_number ns slba ≡ unit → unit_number ns (slba + blocks - 1) ≡ unit
    → IsCovered place (read_operation slba blocks)
read_is_covered ns unit place slba blocks its some inside first last =
    let begins = its.lbas.whole slba (omega arith) first in
    let ends = its.lbas.whole (slba + blocks - 1) (omega arith) last in
    let end : slba + blocks - 1 < place.first + place.blocks = ends.1 in
    record { range = record { some = some; above = begins.0; below = omega (arith, end, some) }; payload = tt; ranges = tt }
