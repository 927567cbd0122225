use Rattle.std.proofs.Common.{ℕ, zero, suc, List, All, refl, sym, subst}
use Rattle.std.proofs.lemmas.List.Elements.{All-nil, All-cons, All-map}
use Rattle.nvm_unit.specs.Ends.{pass_at}
use Rattle.nvm_unit.specs.Machine.{newcomers_from}
use Rattle.nvm_unit.specs.Passes.{PassState, UnitName, IsPassOf}
use Rattle.nvm_unit.specs.declared.views.PassView.{PassView}
use Rattle.nvm_thread_tests.proofs.threads.units.opened.Goals as goal

-- The new passes of a unit are its passes.
of_each : (unit : UnitName) (from n : ℕ) → All (λ (p : PassView). IsPassOf unit (pass_at unit.table unit.versions p)) (newcomers_from unit.bounds from n)
of_each unit from zero = All-nil (λ (p : PassView). IsPassOf unit (pass_at unit.table unit.versions p))
of_each unit from (suc n) =
    All-cons (λ (p : PassView). IsPassOf unit (pass_at unit.table unit.versions p)) _ _ (record { table = refl; bounds = refl; kept = λ keeps. keeps })
    (of_each unit (suc from) n)

pub returns-in-Ok-clause-of : goal.returns-in-Ok-clause-of
returns-in-Ok-clause-of c =
    let unit = c.in-Ok.opened.0 in
    subst (λ (passes : List PassState). All (IsPassOf unit) passes) (sym c.in-Ok.ensures.passes)
    (All-map (IsPassOf unit) (pass_at unit.table unit.versions) (newcomers_from unit.bounds 0 unit.bounds.passes) (of_each unit 0 unit.bounds.passes))
