use Rattle.std.proofs.Common.{◌≡◌, ℕ, List, [], ◌∷◌, ◌++◌, length, length-append, map, sym, ap, ◌∙◌, arith}
use Rattle.nvm_unit.specs.Ends.{pass_at, new_passes}
use Rattle.nvm_unit.specs.Machine.{newcomers_from}
use Rattle.nvm_unit.specs.Passes.{PassState, UnitName}
use Rattle.nvm_unit.specs.Views.{newcomer}
use Rattle.nvm_rows.proofs.units.ground.dealt.Goals as goal

-- What is popped from a list of two, the last first.
popped : (a b x y : PassState) (rest : List PassState) → a ∷ b ∷ [] ≡ (rest ++ x ∷ []) ++ y ∷ [] → (x ≡ a) × (y ≡ b)
popped a b x y [] is = (cc, cc)
popped a b x y (r ∷ []) is = let n = ap length is in absurd (omega arith)
popped a b x y (r ∷ s ∷ rest) is =
    let n = ap length is in
    absurd (omega (arith, length-append (rest ++ x ∷ []) (y ∷ []), length-append rest (x ∷ [])))

-- The two passes of a new unit.
two_new : (unit : UnitName) (passes middle rest : List PassState) (first second : PassState) → unit.bounds.passes ≡ 2 → passes ≡ new_passes unit
    → passes ≡ middle ++ second ∷ [] → middle ≡ rest ++ first ∷ []
    → (first ≡ pass_at unit.table unit.versions (newcomer unit.bounds 0)) × (second ≡ pass_at unit.table unit.versions (newcomer unit.bounds 1))
two_new unit passes middle rest first second count new last before =
    let two : new_passes unit ≡ pass_at unit.table unit.versions (newcomer unit.bounds 0) ∷ pass_at unit.table unit.versions (newcomer unit.bounds 1) ∷ [] =
    ap (λ (n : ℕ). map (pass_at unit.table unit.versions) (newcomers_from unit.bounds 0 n)) count in
    popped _ _ first second rest (sym two ∙ (sym new ∙ (last ∙ ap (λ (xs : List PassState). xs ++ second ∷ []) before)))

pub returns-clause-of : goal.returns-clause-of
returns-clause-of c =
    let two = two_new c.args.unit _ _ _ c.in-Some-pop.first c.in-Some.second c.requires.count c.requires.passes c.in-Some.ensures.items c.in-Some-pop.ensures.items in (
      record { table = ap (λ (x : PassState). x.table) two.0; bounds = ap (λ (x : PassState). x.view.bounds) two.0; kept = λ keeps. sym (ap (λ (x : PassState). x.keeps) two.0) ∙ keeps },
      record { table = ap (λ (x : PassState). x.table) two.1; bounds = ap (λ (x : PassState). x.view.bounds) two.1; kept = λ keeps. sym (ap (λ (x : PassState). x.keeps) two.1) ∙ keeps },
    )

pub returns-clause-numbers : goal.returns-clause-numbers
returns-clause-numbers c =
    let two = two_new c.args.unit _ _ _ c.in-Some-pop.first c.in-Some.second c.requires.count c.requires.passes c.in-Some.ensures.items c.in-Some-pop.ensures.items in
    (ap (λ (x : PassState). x.view.number) two.0, ap (λ (x : PassState). x.view.number) two.1)
