-- The units' histories one after the other.
use Rattle.std.proofs.Common.{◌≡◌, ◌≢◌, ℕ, zero, suc, ◌+◌, ◌<◌, ◌≤◌, true, nat_eq, List, [], ◌∷◌, ◌++◌, length, All, refl, ap, ap₂, sym, ◌∙◌, arith, inl, inr}
use Rattle.std.specs.List.{flat_map}
use Rattle.std.proofs.lemmas.Bool.{cases_Bool, eq-eqb, eqb-true}
use Rattle.std.proofs.lemmas.List.{append-nil}
use Rattle.std.proofs.lemmas.List.Elements.{All-nil, All-append, All-head, All-tail, All-weaker, filter-append}
use mathlib.Core.Option.{some-injective, some-ne-none}
use Rattle.nvm_geometry.specs.Namespace.{Namespace}
use Rattle.nvm_record.specs.Lists.{IsAt}
use Rattle.nvm_store.specs.HistoryEntry.{HistoryEntry}
use Rattle.nvm_space.specs.Shuffle.{AreLawfulHistories, IsShuffle, entries_of_unit, unit_of_entry}
use Rattle.nvm_space.proofs.Lists.{at_below}
use Rattle.nvm_space.proofs.Shuffles.{all_from_at}

abbrev pub joined : List (List HistoryEntry) → List HistoryEntry
joined histories = flat_map (λ history. history) histories

-- All entries are of the unit.
abbrev AreOf : Namespace → ℕ → List HistoryEntry → Type 0
AreOf ns unit entries = All (λ entry. unit_of_entry ns entry ≡ unit) entries

-- A lawful history's entries are of its unit.
are_own : (ns : Namespace) (histories : List (List HistoryEntry)) (unit : ℕ) (history : List HistoryEntry)
    → AreLawfulHistories ns histories → IsAt histories unit history → AreOf ns unit history
are_own ns histories unit history lawful at =
    let law = lawful.each unit history at in
    all_from_at (λ entry. unit_of_entry ns entry ≡ unit) history
    (λ i entry here.
    let range = (law.2 i entry here).covered.range in
    let some : 0 < entry.operation.blocks = range.some in
    let above : law.0.first ≤ entry.operation.first = range.above in
    let below : entry.operation.first + entry.operation.blocks ≤ law.0.first + law.0.blocks = range.below in
    law.1.lbas.lies entry.operation.first above (omega arith))

own_stay : (ns : Namespace) (unit : ℕ) (entries : List HistoryEntry) → AreOf ns unit entries
    → entries_of_unit ns unit entries ≡ entries
own_stay ns unit [] own = refl
own_stay ns unit (entry ∷ entries) own =
    let here : nat_eq (unit_of_entry ns entry) unit ≡ true =
    eq-eqb (unit_of_entry ns entry) unit (All-head (λ e. unit_of_entry ns e ≡ unit) entry entries own) in
    let rest : AreOf ns unit entries = All-tail (λ e. unit_of_entry ns e ≡ unit) entry entries own in
    rw here (ap (λ (es : List HistoryEntry). entry ∷ es) (own_stay ns unit entries rest))

others_go : (ns : Namespace) (unit other : ℕ) (entries : List HistoryEntry) → AreOf ns other entries → other ≢ unit
    → entries_of_unit ns unit entries ≡ []
others_go ns unit other [] own differs = refl
others_go ns unit other (entry ∷ entries) own differs =
    let rest = others_go ns unit other entries (All-tail (λ e. unit_of_entry ns e ≡ other) entry entries own) differs in
    elim (cases_Bool (nat_eq (unit_of_entry ns entry) unit)) [
      | inl same ↦
          let here : unit_of_entry ns entry ≡ other = All-head (λ e. unit_of_entry ns e ≡ other) entry entries own in
          absurd (differs (sym here ∙ eqb-true (unit_of_entry ns entry) unit same))
      | inr left ↦ rw left rest
    ]

-- Histories of units by number, the one at place i of the unit `number i`.
module _ (ns : Namespace) where
  abbrev AreByNumber : (ℕ → ℕ) → List (List HistoryEntry) → Type 0
  AreByNumber number histories =
      (i : ℕ) (history : List HistoryEntry) → IsAt histories i history → AreOf ns (number i) history

  apart : (unit : ℕ) (history : List HistoryEntry) (histories : List (List HistoryEntry))
      → entries_of_unit ns unit (joined (history ∷ histories))
      ≡ entries_of_unit ns unit history ++ entries_of_unit ns unit (joined histories)
  apart unit history histories = filter-append (λ e. nat_eq (unit_of_entry ns e) unit) history (joined histories)

  none_joined : (number : ℕ → ℕ) (histories : List (List HistoryEntry)) (unit : ℕ) → AreByNumber number histories
      → ((i : ℕ) → number i ≢ unit) → entries_of_unit ns unit (joined histories) ≡ []
  none_joined number [] unit by differs = refl
  none_joined number (history ∷ histories) unit by differs =
      apart unit history histories
      ∙ ap₂ (λ (xs ys : List HistoryEntry). xs ++ ys)
      (others_go ns unit (number 0) history (by 0 history refl) (differs 0))
      (none_joined (λ i. number (suc i)) histories unit (λ i h at. by (suc i) h at) (λ i. differs (suc i)))

  one_joined : (number : ℕ → ℕ) (histories : List (List HistoryEntry)) → AreByNumber number histories
      → ((i j : ℕ) → number i ≡ number j → i ≡ j) → (i : ℕ) (history : List HistoryEntry) → IsAt histories i history
      → entries_of_unit ns (number i) (joined histories) ≡ history
  one_joined number [] by apart_by i history at = absurd (some-ne-none history (sym at))
  one_joined number (h ∷ hs) by apart_by zero history at =
      apart (number 0) h hs
      ∙ ap₂ (λ (xs ys : List HistoryEntry). xs ++ ys) (own_stay ns (number 0) h (by 0 h refl))
      (none_joined (λ i. number (suc i)) hs (number 0) (λ i g there. by (suc i) g there)
      (λ i same. let e : suc i ≡ 0 = apart_by (suc i) 0 same in omega arith))
      ∙ append-nil h
      ∙ some-injective h history at
  one_joined number (h ∷ hs) by apart_by (suc i) history at =
      apart (number (suc i)) h hs
      ∙ ap₂ (λ (xs ys : List HistoryEntry). xs ++ ys)
      (others_go ns (number (suc i)) (number 0) h (by 0 h refl)
      (λ same. let e : 0 ≡ suc i = apart_by 0 (suc i) same in omega arith))
      (one_joined (λ j. number (suc j)) hs (λ j g there. by (suc j) g there)
      (λ j k same. let e : suc j ≡ suc k = apart_by (suc j) (suc k) same in omega arith) i history at)

all_joined : (P : HistoryEntry → Type 0) (histories : List (List HistoryEntry))
    → ((i : ℕ) (history : List HistoryEntry) → IsAt histories i history → All P history) → All P (joined histories)
all_joined P [] each = All-nil P
all_joined P (history ∷ histories) each =
    All-append P history (joined histories) (each 0 history refl) (all_joined P histories (λ i h at. each (suc i) h at))

pub joined_is_shuffle : (ns : Namespace) (histories : List (List HistoryEntry)) → AreLawfulHistories ns histories
    → IsShuffle ns histories (joined histories)
joined_is_shuffle ns histories lawful = record {
  each = λ unit history at.
      one_joined ns (λ i. i) histories (λ i h there. are_own ns histories i h lawful there) (λ i j same. same)
      unit history at;
  known = all_joined (λ entry. unit_of_entry ns entry < length histories) histories
      (λ i history at.
      let below : i < length histories = at_below histories i history at in
      let own = are_own ns histories i history lawful at in
      All-weaker (λ entry. unit_of_entry ns entry ≡ i) (λ entry. unit_of_entry ns entry < length histories)
      (λ entry is. let same : unit_of_entry ns entry ≡ i = is in omega arith) history own);
}
