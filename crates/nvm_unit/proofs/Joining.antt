-- Seats that rest can be joined and split.
use Rattle.std.proofs.Common.{◌≡◌, ◌≢◌, ℕ, List, [], ◌∷◌, ◌++◌, take, drop, set, subst, refl, sym, ◌∙◌, Option}
use mathlib.Core.Option.{some}
use lib.ListN.{get_elem?}
use Rattle.atomic_table.specs.Table.{State, Joins, Splits}
use Rattle.atomic_table.proofs.Lists.{set_else}
use Rattle.nvm_unit.specs.declared.bounds.Bounds.{Bounds}
use Rattle.nvm_unit.specs.declared.views.PassView.{PassView}
use Rattle.nvm_unit.specs.declared.views.Group.{Group}
use Rattle.nvm_unit.specs.Events.{joins, splits, idle, after_join, after_split}
use Rattle.nvm_unit.specs.Inside.Book.{Recorded}
use Rattle.nvm_unit.specs.Inside.Rule.{table_of, IsRuled}
use Rattle.nvm_unit.proofs.Reaching.{ruled_after}
use Rattle.nvm_unit.proofs.Regrouping.{keeps_join, keeps_split}

abbrev Slot : Type 0
Slot = Option Recorded

-- Two seats that rest can be joined.
pub join_allowed : (b : Bounds) (id other : ℕ) (ps qs : List PassView)
    → Joins (IsRuled b) id (idle ps) other (idle qs) (idle (ps ++ qs)) (idle [])
join_allowed b id other ps qs t ruled at apart other_at =
    let P : State Slot Group → Type 0 =
    λ x. get_elem? x.views id ≡ some (idle ps) → get_elem? (set x.views id (idle (ps ++ qs))) other ≡ some (idle qs)
    → IsRuled b (record { words = x.words; homes = x.homes; views = set (set x.views id (idle (ps ++ qs))) other (idle []) }) in
    let go : P (table_of b ruled.0) =
    λ at' other_at'.
    let other_here = sym (set_else ruled.0.groups id other (idle (ps ++ qs)) apart) ∙ other_at' in
    let not_same : id ≢ other = λ e. apart (sym e) in
    ruled_after b ruled.0 (after_join ruled.0 id other ps qs) (joins id other) _ ruled.3 (ps, qs, at', other_here, not_same, refl) refl
    (keeps_join b ruled.0 ruled.2 id other ps qs at' other_here not_same)
    in
    subst P (sym ruled.1) go at other_at

-- A seat that rests can be split.
pub split_allowed : (b : Bounds) (id : ℕ) (ps : List PassView) → Splits (IsRuled b) id (idle ps) (idle (take 1 ps)) (idle (drop 1 ps))
split_allowed b id ps t ruled at =
    let P : State Slot Group → Type 0 =
    λ x. get_elem? x.views id ≡ some (idle ps)
    → IsRuled b (record { words = x.words; homes = x.homes; views = set x.views id (idle (take 1 ps)) ++ idle (drop 1 ps) ∷ [] }) in
    let go : P (table_of b ruled.0) = λ at'.
    ruled_after b ruled.0 (after_split ruled.0 id 1 ps) (splits id 1) _ ruled.3 (ps, at', refl) refl (keeps_split b ruled.0 ruled.2 id 1 ps at') in
    subst P (sym ruled.1) go at
