-- What stands at a position.
use Rattle.std.proofs.Common.{◌≡◌, ℕ, Bool, false, IsTrue, ◌+◌, ◌<◌, ◌≤◌, ◌⊎◌, inl, inr, List, Option, Some, None, IfNone, IfSome, length, map, option_map, slice_get, get_or, All, ap, refl, subst, sym, ◌∙◌, arith}
use Rattle.std.proofs.lemmas.Bool.{cases_order}
use Rattle.std.proofs.lemmas.Option.{slice_get_within, slice_get-map, slice_get_read, get_or_from_slice_get}
use Rattle.nvm_standard.specs.PointView.{PointView, TableView}
use Rattle.nvm_standard.specs.Explanation.{IsPlacedRight}
use Rattle.nvm_standard.specs.Fits.{FitsPoint}
use Rattle.nvm_standard.specs.OrderView.{OrderView, PlacedView}
use Rattle.nvm_standard.specs.Places.{StandsAt}

pub same_placed : (t : TableView) (o : OrderView) (i : ℕ) (p p' : PlacedView) (q q' : PointView)
    → StandsAt t o i p q → StandsAt t o i p' q' → p ≡ p'
same_placed t o i p p' q q' a b = cc

pub same_point : (t : TableView) (o : OrderView) (i : ℕ) (p p' : PlacedView) (q q' : PointView)
    → StandsAt t o i p q → StandsAt t o i p' q' → q ≡ q'
same_point t o i p p' q q' a b = let e : p ≡ p' = same_placed t o i p p' q q' a b in cc

-- A position is one of the order's.
pub within : (t : TableView) (o : OrderView) (i : ℕ) (p : PlacedView) (q : PointView) → StandsAt t o i p q → i < length o.placed
within t o i p q a = slice_get_within o.placed i p a.placed

pub earlier_or_last : (i k : ℕ) → i < k + 1 → (i < k) ⊎ (i ≡ k)
earlier_or_last i k h =
    elim (cases_order i k) [ inl same ↦ inr same | inr r ↦ elim r [ inl less ↦ inl less | inr more ↦ absurd (omega arith) ] ]

pub below_or_past : (a b : ℕ) → (a < b) ⊎ (b ≤ a)
below_or_past a b =
    elim (cases_order a b) [ inl same ↦ inr (omega arith) | inr r ↦ elim r [ inl less ↦ inl less | inr more ↦ inr (omega arith) ] ]

pub not_both : (b : Bool) → IsTrue b → b ≡ false → ⊥
not_both b holds fails = cc

pub if_none : {A : Type 0} (r : Option A) (P Q : Type 0) → (P → Q) → IfNone r P → IfNone r Q
if_none None P Q f h = f h
if_none (Some x) P Q f h = tt

pub in_time : (until : Option ℕ) (a b : ℕ) → a ≤ b → IfSome until (λ w. b ≤ w) → IfSome until (λ w. a ≤ w)
in_time None a b h g = g
in_time (Some w) a b h g = omega arith

pub some_same : {A : Type 0} (x y : A) → Some x ≡ Some y → x ≡ y
some_same x y e = cc

-- what a list has at a place, as contracts see it
pub read_seen : {A B : Type 0} (f : A → B) (xs : List A) (k : ℕ) (x : A) → k < length xs → x ≡ get_or xs k x → slice_get (map f xs) k ≡ Some (f x)
read_seen f xs k x h e = slice_get-map f xs k ∙ ap (option_map f) (slice_get_read xs (length xs) k x refl h e)

pub placed_right : (t : TableView) (o : OrderView) (k : ℕ) (p : PlacedView) → All (IsPlacedRight t) o.placed → slice_get o.placed k ≡ Some p
    → IsPlacedRight t p
placed_right t o k p fits e =
    subst (IsPlacedRight t) (get_or_from_slice_get o.placed k p p e) (fits k p (slice_get_within o.placed k p e))

pub fits_its : (t : TableView) (p : PlacedView) (q : PointView) → IsPlacedRight t p → slice_get t.points p.point ≡ Some q → FitsPoint t p q
fits_its t p q right e =
    let same : right.point ≡ q = some_same right.point q (sym right.its ∙ e) in subst (FitsPoint t p) same right.fits

pub if_some : {A : Type 0} (r : Option A) (P Q : Type 0) → (Q → P) → IfSome r (λ _. P → ⊥) → IfSome r (λ _. Q → ⊥)
if_some None P Q f h = tt
if_some (Some x) P Q f h = λ q. h (f q)
