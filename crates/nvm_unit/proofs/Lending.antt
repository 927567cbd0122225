-- A seat that has the unit: its book, in the slot, is lent and comes back.
use Rattle.std.proofs.Common.{◌≡◌, ℕ, List, [], ◌∷◌, sym, ap, ◌∙◌, Option, Some, unwrap_or}
use Rattle.atomic_table.specs.Table.{rest}
use Rattle.nvm_store.specs.HistoryEntry.{HistoryEntry}
use Rattle.nvm_unit.specs.declared.views.PassView.{PassView}
use Rattle.nvm_unit.specs.Inside.Book.{Recorded}
use Rattle.nvm_unit.specs.Inside.Plays.{Sits, holding}

-- the seat, with this book back in the slot
abbrev pub lent : Sits → Recorded → Sits
lent m book = (m.0, (0, Some book) ∷ rest m.1)

abbrev found_or : Recorded → List (ℕ × Option Recorded) → Recorded
found_or book [] = book
found_or book (x ∷ xs) = unwrap_or x.1 book

-- A list of one is that one before the rest of it.
pub one_and_rest : (xs : List (ℕ × Option Recorded)) (x : ℕ × Option Recorded) → xs ≡ x ∷ [] → xs ≡ x ∷ rest xs
one_and_rest xs x is = is ∙ ap (λ (ys : List (ℕ × Option Recorded)). x ∷ ys) (sym (ap rest is))

-- A book that nobody changed leaves the seat as it was.
pub lent_same : (m : Sits) (book : Recorded) → m.1 ≡ (0, Some book) ∷ [] → lent m book ≡ m
lent_same m book there = ap (λ (xs : List (ℕ × Option Recorded)). let x : Sits = (m.0, xs) in x) (sym (one_and_rest m.1 (0, Some book) there))

module _ (m : Sits) (ps : List PassView) (h : List HistoryEntry) (old : Recorded) (at : m ≡ holding ps h old) where
  pub lent_at : (book : Recorded) → lent m book ≡ holding ps h book
  lent_at book = ap (λ (x : Sits). lent x book) at

  -- What is found in the slot is what it has.
  pub found_is_old : (book : Recorded) → m.1 ≡ (0, Some book) ∷ [] → book ≡ old
  found_is_old book there = ap (found_or book) (sym there ∙ ap (λ (x : Sits). x.1) at)
