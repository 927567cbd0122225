-- The entries of a record's unit lie in it.
use Rattle.std.proofs.Common.{◌≡◌, ℕ, ◌<◌, List, length, map, get_or, take, Some, None, sym, ap, subst, refl, arith, [], ◌∷◌, zero, suc, ◌≤◌, ◌∙◌}
use Rattle.std.specs.Prelude.{slice_get}
use Rattle.std.proofs.lemmas.List.Elements.{All-take}
use mathlib.Core.Option.{some}
use Rattle.nvm_record.specs.Lists.{IsAt}
use Rattle.nvm_geometry.specs.Namespace.{Namespace}
use Rattle.nvm_geometry.specs.Place.{IsPlaceOf}
use Rattle.nvm_plan.specs.UnitPlace.{IsUnitPlace}
use Rattle.nvm_store.specs.declared.place.Place.{Place}
use Rattle.nvm_store.specs.HistoryEntry.{HistoryEntry}
use Rattle.nvm_store.specs.Place.{IsCovered, place_at}
use Rattle.nvm_audit.specs.Recordable.{IsRecordableHistory}
use Rattle.nvm_audit.specs.RecordView.{RecordView}
use Rattle.nvm_explain.specs.UnitAt.{AreCovered, AreCoveredIn}

-- a unit has one place
abbrev pub OnePlace : Type 0
OnePlace = (ns : Namespace) (unit first blocks start count : ℕ) → IsPlaceOf ns unit first blocks → IsPlaceOf ns unit start count
    → (first ≡ start) × (blocks ≡ count)

-- places of the same three numbers are one
same_place : (p q : Place) → p.first ≡ q.first → p.blocks ≡ q.blocks → p.size ≡ q.size → p ≡ q
same_place p q a b c =
    ap (λ n. place_at n p.blocks p.size) a ∙ (ap (λ n. place_at q.first n p.size) b ∙ ap (λ n. place_at q.first q.blocks n) c)

one_unit_place : OnePlace → (ns : Namespace) (unit : ℕ) (p q : Place) → IsUnitPlace ns unit p → IsUnitPlace ns unit q → p ≡ q
one_unit_place one ns unit p q a b =
    let same = one ns unit p.first p.blocks q.first q.blocks a.lbas b.lbas in
    same_place p q same.0 same.1 (a.size ∙ sym b.size)

-- What was read of a list is in the list of what is shown.
pub stands_shown : {A B : Type 0} (f : A → B) (xs : List A) (i : ℕ) (x : A) → i < length xs → x ≡ get_or xs i x
    → IsAt (map f xs) i (f x)
stands_shown f [] i x low is = absurd (omega (arith, low))
stands_shown f (y ∷ ys) zero x low is = ap (λ z. some (f z)) (sym is)
stands_shown f (y ∷ ys) (suc i) x low is = stands_shown f ys i x (omega (arith, low)) is

-- After the end nothing is found.
pub none_shown : {A B : Type 0} (f : A → B) (xs : List A) (i : ℕ) → length xs ≤ i → None ≡ slice_get (map f xs) i
none_shown f [] i past = refl
none_shown f (y ∷ ys) zero past = absurd (omega (arith, past))
none_shown f (y ∷ ys) (suc i) past = none_shown f ys i (omega (arith, past))

-- what was found is there
got_below : {A : Type 0} (xs : List A) (i : ℕ) (x : A) → slice_get xs i ≡ Some x → i < length xs
got_below [] i x got = absurd cc
got_below (y ∷ ys) zero x got = omega arith
got_below (y ∷ ys) (suc i) x got = omega (arith, got_below ys i x got)

got_read : {A : Type 0} (xs : List A) (i : ℕ) (x : A) → slice_get xs i ≡ Some x → get_or xs i x ≡ x
got_read [] i x got = absurd cc
got_read (y ∷ ys) zero x got = cc
got_read (y ∷ ys) (suc i) x got = got_read ys i x got

pub held_entries : OnePlace → (r : RecordView) (unit : ℕ) (history : List HistoryEntry) → IsRecordableHistory r unit history
    → AreCoveredIn r.namespace unit history
held_entries one r unit history held =
    record {
      covered = λ place lies. record {
        each = λ k d low.
            subst (λ (p : Place). IsCovered p (get_or history k d).operation)
            (one_unit_place one r.namespace unit held.place place held.lies lies) (held.each k d low).covered;
      };
    }

pub covered_front : (ns : Namespace) (unit n : ℕ) (place : Place) (history : List HistoryEntry) → AreCoveredIn ns unit history
    → IsUnitPlace ns unit place → AreCovered place (take n history)
covered_front ns unit n place history held lies =
    record { each = All-take (λ entry. IsCovered place entry.operation) n history (held.covered place lies).each }

pub covered_got : (ns : Namespace) (unit i : ℕ) (history : List HistoryEntry) (entry : HistoryEntry) → AreCoveredIn ns unit history
    → slice_get history i ≡ Some entry → (place : Place) → IsUnitPlace ns unit place → IsCovered place entry.operation
covered_got ns unit i history entry held got place lies =
    subst (λ (e : HistoryEntry). IsCovered place e.operation) (got_read history i entry got)
    ((held.covered place lies).each i entry (got_below history i entry got))
