-- Seats that are dealt out, and gathered.
use Rattle.std.proofs.Common.{get_or, ◌≡◌, ℕ, suc, ◌+◌, ◌-◌, ◌<◌, Bool, Option, Some, None, IfSome, List, [], ◌∷◌, ◌++◌, length, subst, refl, sym, ap, ◌∙◌, arith, append_assoc}
use mathlib.Core.Option.{some-ne-none}
use Rattle.atomic_table.specs.Seated.{TableId}
use Rattle.atomic_table.proofs.Lists.{at_index, at_longer, at_last}
use Rattle.nvm_unit.specs.declared.bounds.Bounds.{Bounds}
use Rattle.nvm_unit.specs.declared.views.PassView.{PassView}
use Rattle.nvm_store.specs.Contents.{Contents}
use Rattle.nvm_unit.specs.declared.snapshot.Snapshot.{Snapshot}
use Rattle.nvm_unit.specs.Inside.Book.{recorded}
use Rattle.nvm_unit.specs.Inside.Snapshot.{IsSnapshotOf, IsVersionOf}
use Rattle.nvm_unit.specs.Ends.{pass_at, new_passes, views_of, AreAllPassesOf}
use Rattle.nvm_unit.specs.Inside.Seats.{AreAllViews}
use Rattle.nvm_unit.specs.Machine.{newcomers, newcomers_from}
use Rattle.nvm_record.specs.Lists.{IsAt}
use Rattle.nvm_unit.specs.Passes.{IsPassOf, PassState, UnitName, IsProperPass}
use Rattle.nvm_unit.specs.Views.{newcomer}
use Rattle.nvm_unit.proofs.EventsKept.{newcomer_back}
use Rattle.nvm_unit.proofs.Lists.{at_map_back}

-- The first of the passes that are left.
pub next_left : (b : Bounds) (number count : ℕ) → number < count → newcomers_from b number (count - number) ≡ newcomer b number ∷ newcomers_from b (number + 1) (count - (number + 1))
next_left b number count lt =
    let left : count - number ≡ suc (count - (number + 1)) = omega arith in
    let next : suc number ≡ number + 1 = omega arith in
    ap (newcomers_from b number) left ∙ ap (λ (k : ℕ). newcomer b number ∷ newcomers_from b k (count - (number + 1))) next

-- A new pass has seen and done nothing.
pub newcomer_proper : (b : Bounds) (number : ℕ) → IsProperPass (newcomer b number)
newcomer_proper b number = record {
  seen = record { lawful = λ i entry at. absurd (some-ne-none entry (sym at)); within = (omega arith); bears = λ k entry at. absurd (some-ne-none entry (sym at)) };
  own = refl;
  marks = (omega arith);
}

-- What completes the rest completes the whole.
pub dealt_more : (items items' : List PassState) (p : PassState) (left rest whole : List PassState) → items' ≡ items ++ p ∷ [] → left ≡ p ∷ rest → items ++ left ≡ whole → items' ++ rest ≡ whole
dealt_more items items' p left rest whole is first all =
    ap (λ (xs : List PassState). xs ++ rest) is ∙ (append_assoc items (p ∷ []) rest ∙ (ap (λ (xs : List PassState). items ++ xs) (sym first) ∙ all))

views_more : (passes : List PassState) (p : PassState) → views_of (passes ++ p ∷ []) ≡ views_of passes ++ p.view ∷ []
views_more [] p = refl
views_more (x ∷ xs) p = ap (λ (vs : List PassView). x.view ∷ vs) (views_more xs p)

length_views : (passes : List PassState) → length (views_of passes) ≡ length passes
length_views [] = refl
length_views (x ∷ xs) = ap suc (length_views xs)

pub gathered_more : (old new : List PassState) (p : PassState) (views views' whole : List PassView) → old ≡ new ++ p ∷ [] → views' ≡ p.view ∷ views → views_of old ++ views ≡ whole → views_of new ++ views' ≡ whole
gathered_more old new p views views' whole is first all =
    ap (λ (xs : List PassView). views_of new ++ xs) first
    ∙ (sym (append_assoc (views_of new) (p.view ∷ []) views)
    ∙ (ap (λ (xs : List PassView). xs ++ views) (sym (views_more new p) ∙ ap views_of (sym is)) ∙ all))

pub first_gathered : (old new : List PassState) (p : PassState) → old ≡ new ++ p ∷ [] → views_of new ++ p.view ∷ [] ≡ views_of old
first_gathered old new p is = sym (views_more new p) ∙ ap views_of (sym is)

-- Those that are left were there before.
pub left_before : (old new : List PassState) (p q : PassState) (i : ℕ) → old ≡ new ++ p ∷ [] → IsAt new i q → IsAt old i q
left_before old new p q i is at = subst (λ (xs : List PassState). IsAt xs i q) (sym is) (at_longer new (p ∷ []) i q at)

pub last_before : (old new : List PassState) (p : PassState) → old ≡ new ++ p ∷ [] → IsAt old (length new) p
last_before old new p is = subst (λ (xs : List PassState). IsAt xs (length new) p) (sym is) (at_last new p (length new) refl)

-- The views of all passes are those of all numbers.
pub all_views : (unit : UnitName) (passes : List PassState) → AreAllPassesOf unit passes → AreAllViews unit.bounds.passes (views_of passes)
all_views unit passes all =
    record {
      count = length_views passes ∙ all.count;
      each = λ i view at.
          let pass = at_map_back (λ (x : PassState). x.view) passes i view at in
          ap (λ (x : PassView). x.number) pass.2 ∙ (all.each i pass.0 pass.1).1;
    }

pub same_pass : (t t' : TableId) (v v' : PassView) (keeps keeps' : Bool) → t ≡ t' → v ≡ v' → keeps ≡ keeps' → (let pass : PassState = record { table = t; view = v; keeps = keeps } in pass) ≡ pass_at t' keeps' v'
same_pass t t' v v' keeps keeps' p q r = λ i. record { table = p i; view = q i; keeps = r i }

-- A new unit's blocks are what its empty history leads to.
pub opening_snapshot : (b : Bounds) (snapshot : Snapshot) (u : Contents) → snapshot.entries ≡ 0 → IfSome snapshot.version (λ v. v ≡ u) → IsVersionOf (recorded b []) u
    → IsSnapshotOf snapshot (recorded b [])
opening_snapshot b snapshot u none is version = (none, kept snapshot.version is) where
  kept : (v : Option Contents) → IfSome v (λ x. x ≡ u) → IfSome v (IsVersionOf (recorded b []))
  kept None tt = tt
  kept (Some x) same = subst (IsVersionOf (recorded b [])) (sym same) version

-- A new pass is one of its unit.
pub new_is_of : (unit : UnitName) (i : ℕ) (pass : PassState) → IsAt (new_passes unit) i pass → IsPassOf unit pass
new_is_of unit i pass at =
    let p = at_map_back (pass_at unit.table unit.versions) (newcomers unit.bounds) i pass at in
    let new = newcomer_back unit.bounds 0 unit.bounds.passes i p.0 p.1 in
    record {
      table = ap (λ (x : PassState). x.table) p.2;
      bounds = ap (λ (x : PassState). x.view.bounds) p.2 ∙ ap (λ (x : PassView). x.bounds) new.0;
      kept = λ keeps. sym (ap (λ (x : PassState). x.keeps) p.2) ∙ keeps;
    }

-- So are those that are left of them when one was taken.
pub left_is_of : (unit : UnitName) (all left : List PassState) (last : PassState) → all ≡ new_passes unit → all ≡ left ++ last ∷ []
    → (i : ℕ) (pass : PassState) → i < length left → pass ≡ get_or left i pass → IsPassOf unit pass
left_is_of unit all left last new is i pass lt at =
    new_is_of unit i pass (subst (λ (xs : List PassState). IsAt xs i pass) new (left_before all left last pass i is (at_index left i pass lt at)))
