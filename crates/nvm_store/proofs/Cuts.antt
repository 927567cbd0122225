-- What is left of ranges that are cut to some LBAs, and a medium of which what is left is cleared from the front.
use Rattle.std.proofs.Common.{◌≡◌, ◌≢◌, ◌⊎◌, ◌↔◌, ℕ, ◌+◌, ◌<◌, ◌≤◌, ltb, leb, List, [], ◌∷◌, ◌++◌, length, get_or, drop, replicate, Bool, true, false, cond, ◌&&◌, ◌||◌, All, sym, ap, subst, ◌∙◌, arith, inl, inr}
use Rattle.std.specs.Prelude.{Option, Some, None, MatchOption}
use Rattle.std.proofs.lemmas.Bool.Decides.{nat_tests}
use Rattle.std.proofs.lemmas.List.{drop_more}
use Rattle.std.proofs.lemmas.List.Elements.{All-head, All-tail}
use Rattle.nvm_record.specs.declared.block.Block.TheVariants.{Bytes}
use Rattle.nvm_record.specs.declared.lba_range.LbaRange.{LbaRange}
use Rattle.nvm_record.specs.Medium.{Medium}
use Rattle.nvm_record.specs.Ranges.{range_has, ranges_have, cut_range, cut_ranges, range_at, range_count, ranges_of, AreRangesWithin}
use Rattle.nvm_record.specs.Step.{medium_after}
use Rattle.nvm_store.specs.Operation.{zeroes_operation, deallocate_operation}

-- From each place on, the ranges that the data holds are the one there, and those after it.
pub ranges_from : (payload : List ℕ) (i : ℕ) → length (ranges_of payload) ≡ range_count payload
    → ((d : LbaRange) → i < range_count payload → get_or (ranges_of payload) i d ≡ range_at payload i) → i < range_count payload
    → drop i (ranges_of payload) ≡ range_at payload i ∷ drop (i + 1) (ranges_of payload)
ranges_from payload i count place below =
    let d : LbaRange = range_at payload i in
    let inside : i < length (ranges_of payload) = rw count below in
    drop_more (ranges_of payload) i d inside ∙ ap (λ (r : LbaRange). r ∷ drop (i + 1) (ranges_of payload)) (place d below)

-- A range of which a block is left is first in what is left.
pub cut_kept : (first blocks : ℕ) (r : LbaRange) (rs : List LbaRange) → 0 < (cut_range first blocks r).blocks
    → cut_ranges first blocks (r ∷ rs) ≡ cut_range first blocks r ∷ cut_ranges first blocks rs
cut_kept first blocks r rs some = grind (arith, nat_tests)

-- One of which no block is left falls out.
pub cut_dropped : (first blocks : ℕ) (r : LbaRange) (rs : List LbaRange) → (cut_range first blocks r).blocks ≡ 0
    → cut_ranges first blocks (r ∷ rs) ≡ cut_ranges first blocks rs
cut_dropped first blocks r rs empty = grind (arith, nat_tests)

-- The LBA is one of the `blocks` from `first`.
abbrev pub is_among : ℕ → ℕ → ℕ → Bool
is_among first blocks lba = leb first lba && ltb lba (first + blocks)

-- What is left has those of the LBAs that the ranges have.
abbrev pub CutsHave : Type 0
CutsHave =
    (first blocks : ℕ) (rs : List LbaRange) (lba : ℕ)
    → ranges_have (cut_ranges first blocks rs) lba ≡ (is_among first blocks lba && ranges_have rs lba)

-- The range has a block, and lies among the `blocks` LBAs from `first`.
abbrev pub IsAmong : ℕ → ℕ → LbaRange → Type 0
IsAmong first blocks r = (0 < r.blocks) × (first ≤ r.first) × (r.first + r.blocks ≤ first + blocks)

have_append : (rs ss : List LbaRange) (lba : ℕ) → ranges_have (rs ++ ss) lba ≡ (ranges_have rs lba || ranges_have ss lba)
have_append [] ss lba = grind arith
have_append (x ∷ rs) ss lba = let rest = have_append rs ss lba in grind arith

all_behind : (P : LbaRange → Type 0) (rs : List LbaRange) (r : LbaRange) (ss : List LbaRange) → All P (rs ++ r ∷ ss) → P r
all_behind P [] r ss all = All-head P r ss all
all_behind P (x ∷ rs) r ss all = all_behind P rs r ss (All-tail P x (rs ++ r ∷ ss) all)

-- Of all ranges, this one begins no later than those that were seen.
pub record IsLowest (first blocks : ℕ) (all seen : List LbaRange) (r : LbaRange) : Type 0 where
  pub among : IsAmong first blocks r
  pub had : (lba : ℕ) → range_has r lba ≡ true → ranges_have all lba ≡ true
  pub lowest : (lba : ℕ) → lba < r.first → ranges_have seen lba ≡ false

not_empty : (seen : List LbaRange) (x : LbaRange) (rest : List LbaRange) → seen ++ x ∷ rest ≢ []
not_empty [] x rest e = cc
not_empty (y ∷ seen) x rest e = cc

-- One that is among them lies among the LBAs, and they have what it has.
module _ (first blocks : ℕ) (all seen : List LbaRange) (x : LbaRange) (rest : List LbaRange) (split : seen ++ x ∷ rest ≡ all)
    (within : all ≢ [] → AreRangesWithin first blocks all) where
  stands_among : IsAmong first blocks x
  stands_among =
      let some : all ≢ [] = subst (λ (l : List LbaRange). l ≢ []) split (not_empty seen x rest) in
      all_behind (IsAmong first blocks) seen x rest (subst (λ (l : List LbaRange). All (IsAmong first blocks) l) (sym split) (within some).each)

  had_by : (lba : ℕ) → range_has x lba ≡ true → ranges_have all lba ≡ true
  had_by lba has =
      let joined : ranges_have (seen ++ x ∷ rest) lba ≡ (ranges_have seen lba || ranges_have (x ∷ rest) lba) = have_append seen (x ∷ rest) lba in
      subst (λ (l : List LbaRange). ranges_have l lba ≡ true) split (grind arith)

  -- The first that is seen begins no later than itself.
  pub lowest_first : seen ≡ [] → IsLowest first blocks all (x ∷ []) x
  lowest_first none = record {
    among = stands_among;
    had = had_by;
    lowest = λ lba below. grind (arith, nat_tests);
  }

  -- Of the lowest so far and the next, that which begins no later than either is the lowest.
  pub lowest_more : (r y : LbaRange) → IsLowest first blocks all seen r → (y ≡ r) ⊎ (y ≡ x) → y.first ≤ r.first → y.first ≤ x.first
      → IsLowest first blocks all (seen ++ x ∷ []) y
  lowest_more r y is either one other =
      let lowest : (lba : ℕ) → lba < y.first → ranges_have (seen ++ x ∷ []) lba ≡ false =
      λ lba below.
      let before : ranges_have seen lba ≡ false = is.lowest lba (omega arith) in
      let joined : ranges_have (seen ++ x ∷ []) lba ≡ (ranges_have seen lba || ranges_have (x ∷ []) lba) = have_append seen (x ∷ []) lba in
      grind (arith, nat_tests)
      in
      elim either [
        | inl old ↦ record {
          among = subst (λ (z : LbaRange). IsAmong first blocks z) (sym old) is.among;
          had = subst (λ (z : LbaRange). (lba : ℕ) → range_has z lba ≡ true → ranges_have all lba ≡ true) (sym old) is.had;
          lowest = lowest;
        }
        | inr new ↦ record {
          among = subst (λ (z : LbaRange). IsAmong first blocks z) (sym new) stands_among;
          had = subst (λ (z : LbaRange). (lba : ℕ) → range_has z lba ≡ true → ranges_have all lba ≡ true) (sym new) had_by;
          lowest = lowest;
        }
      ]

-- zeroes where one of the ranges has an LBA from `first` on and below `from`
abbrev pub swept : ℕ → List LbaRange → ℕ → ℕ → Medium → Medium
swept size rs first from m lba =
    cond ((leb first lba && ltb lba from) && ranges_have rs lba) (Bytes (replicate size 0)) (m lba)

-- Nothing is swept where the sweep begins.
pub swept_none : (size : ℕ) (rs : List LbaRange) (first : ℕ) (m : Medium) (lba : ℕ) → swept size rs first first m lba ≡ m lba
swept_none size rs first m lba = grind (arith, nat_tests)

-- With zeroes on the lowest range of what is left, the medium is swept to its end.
pub swept_more : CutsHave → (size first from left : ℕ) (rs : List LbaRange) (r : LbaRange) (m : Medium) (lba : ℕ) → first ≤ from
    → IsLowest from left (cut_ranges from left rs) (cut_ranges from left rs) r
    → medium_after size (zeroes_operation r.first r.blocks) (swept size rs first from m) lba ≡ swept size rs first (r.first + r.blocks) m lba
swept_more law size first from left rs r m lba high is =
    let has : ranges_have (cut_ranges from left rs) lba ≡ (is_among from left lba && ranges_have rs lba) = law from left rs lba in
    let had = is.had lba in
    let lowest = is.lowest lba in
    let some : 0 < r.blocks = is.among.0 in
    let above : from ≤ r.first = is.among.1 in
    let below : r.first + r.blocks ≤ from + left = is.among.2 in
    grind (arith, nat_tests)

-- Where nothing is left, the medium is that after the Deallocate.
pub swept_all : CutsHave → (size first blocks from left : ℕ) (rs : List LbaRange) (m : Medium) (lba : ℕ)
    → first ≤ from → from + left ≡ first + blocks → cut_ranges from left rs ≡ []
    → swept size rs first from m lba ≡ medium_after size (deallocate_operation first blocks rs) m lba
swept_all law size first blocks from left rs m lba high end none =
    let has : ranges_have (cut_ranges first blocks rs) lba ≡ (is_among first blocks lba && ranges_have rs lba) = law first blocks rs lba in
    let behind : false ≡ (is_among from left lba && ranges_have rs lba) = rw none at (law from left rs lba) in
    grind (arith, nat_tests)

-- An iterator whose next is r has what begins with r exactly where the rest is the same.
pub turn_same : (old new : List LbaRange) (o : Option LbaRange) (r : LbaRange) (ks : List LbaRange)
    → MatchOption o ((old ≡ []) × (new ≡ [])) (λ x. old ≡ x ∷ new) → o ≡ Some r → (old ≡ r ∷ ks) ↔ (new ≡ ks)
turn_same old new o r ks steps is =
    let step : old ≡ r ∷ new = rw is at steps in (
      λ e.
          let both : r ∷ new ≡ r ∷ ks = sym step ∙ e in
          cc,
      λ e. step ∙ ap (λ (l : List LbaRange). r ∷ l) e,
    )

-- One whose next isn't r has nothing that begins with it.
pub turn_differs : (old new : List LbaRange) (o : Option LbaRange) (r : LbaRange) (ks : List LbaRange)
    → MatchOption o ((old ≡ []) × (new ≡ [])) (λ x. old ≡ x ∷ new) → o ≢ Some r → old ≢ r ∷ ks
turn_differs old new None r ks steps differs e =
    let both : [] ≡ r ∷ ks = sym steps.0 ∙ e in
    cc
turn_differs old new (Some x) r ks steps differs e =
    let both : x ∷ new ≡ r ∷ ks = sym steps ∙ e in
    let same : x ≡ r = cc in
    differs (ap Some same)
