-- Ranges cut to LBAs.
use Rattle.std.proofs.Common.{◌^◌, map, ◌≡◌, ◌≢◌, ◌↔◌, ℕ, ◌+◌, ◌-◌, ◌<◌, ◌≤◌, min, max, cond, leb, ltb, ◌&&◌, ◌||◌, Bool, true, false, inl, inr, List, [], ◌∷◌, length, refl, sym, ap, ap₂, ◌∙◌, arith}
use Rattle.std.specs.List.{All}
use Rattle.std.proofs.lemmas.Bool.{cases_Bool, ltb-true, ltb-false, lt-ltb, le-ltb, le-leb, and_from, or_left, or_right, false≢true}
use Rattle.std.proofs.lemmas.Bool.Decides.{nat_tests}
use Rattle.std.proofs.lemmas.List.Elements.{All-filter, All-map, All-nil, All-cons, All-head, All-tail, All-weaker}
use Rattle.nvm_record.specs.Ranges.{FitsItsBytes, range_has, ranges_have, cut_range, cut_ranges, AreRangesWithin}
use Rattle.nvm_record.specs.declared.lba_range.LbaRange.{LbaRange}

-- The range has a block and lies among the LBAs.
abbrev LiesWithin : ℕ → ℕ → LbaRange → Type 0
LiesWithin first blocks r = (0 < r.blocks) × (first ≤ r.first) × (r.first + r.blocks ≤ first + blocks)

-- the LBA is among the blocks
abbrev is_among : ℕ → ℕ → ℕ → Bool
is_among first blocks lba = leb first lba && ltb lba (first + blocks)

cut_has : (first blocks : ℕ) (r : LbaRange) (lba : ℕ)
    → range_has (cut_range first blocks r) lba ≡ (is_among first blocks lba && range_has r lba)
cut_has first blocks r lba = grind (arith, nat_tests)

empty_has : (r : LbaRange) (lba : ℕ) → r.blocks ≤ 0 → range_has r lba ≡ false
empty_has r lba none = grind (arith, nat_tests)

cut_within : (first blocks : ℕ) (r : LbaRange) → 0 < (cut_range first blocks r).blocks
    → LiesWithin first blocks (cut_range first blocks r)
cut_within first blocks r some = (some, omega arith, omega arith)

cut_itself : (first blocks : ℕ) (r : LbaRange) → LiesWithin first blocks r → cut_range first blocks r ≡ r
cut_itself first blocks r within =
    let at : max first r.first ≡ r.first = omega (arith, within.1) in
    let long : min (first + blocks) (r.first + r.blocks) - max first r.first ≡ r.blocks =
    omega (arith, within.0, within.1, within.2) in
    ap₂ (λ (f b : ℕ). record { first = f; blocks = b }) at long

-- a cut within a cut of which something is left
cut_again : (first blocks low n : ℕ) (r : LbaRange) → first ≤ low → low + n ≤ first + blocks
    → 0 < (cut_range first blocks r).blocks → cut_range low n (cut_range first blocks r) ≡ cut_range low n r
cut_again first blocks low n r above below some =
    let at : max low (max first r.first) ≡ max low r.first = omega arith in
    let left : ℕ = min (first + blocks) (r.first + r.blocks) - max first r.first in
    let end : max first r.first + left ≡ min (first + blocks) (r.first + r.blocks) = omega arith in
    let long : min (low + n) (max first r.first + left) - max low (max first r.first)
    ≡ min (low + n) (r.first + r.blocks) - max low r.first = omega arith in
    ap₂ (λ (f b : ℕ). record { first = f; blocks = b }) at long

-- a cut within a cut of which nothing is left
cut_nothing : (first blocks low n : ℕ) (r : LbaRange) → first ≤ low → low + n ≤ first + blocks
    → (cut_range first blocks r).blocks ≤ 0 → (cut_range low n r).blocks ≤ 0
cut_nothing first blocks low n r above below none = omega arith

-- the two ways that a range takes in a cut
kept : (first blocks : ℕ) (r : LbaRange) (rs : List LbaRange) → ltb 0 (cut_range first blocks r).blocks ≡ true
    → cut_ranges first blocks (r ∷ rs) ≡ cut_range first blocks r ∷ cut_ranges first blocks rs
kept first blocks r rs some = rw some refl

left_out : (first blocks : ℕ) (r : LbaRange) (rs : List LbaRange) → ltb 0 (cut_range first blocks r).blocks ≡ false
    → cut_ranges first blocks (r ∷ rs) ≡ cut_ranges first blocks rs
left_out first blocks r rs none = rw none refl

cons_has : (first blocks : ℕ) (r : LbaRange) (rs : List LbaRange) (lba : ℕ)
    → ranges_have (cut_ranges first blocks (r ∷ rs)) lba
    ≡ (range_has (cut_range first blocks r) lba || ranges_have (cut_ranges first blocks rs) lba)
cons_has first blocks r rs lba =
    elim (cases_Bool (ltb 0 (cut_range first blocks r).blocks)) [
      | inl t ↦ rw t refl
      | inr f ↦ rw (f, empty_has (cut_range first blocks r) lba (ltb-false _ _ f)) refl
    ]

or_within_and : (a x y : Bool) → ((a && x) || (a && y)) ≡ (a && (x || y))
or_within_and true x y = refl
or_within_and false x y = refl

nothing_within : (a : Bool) → false ≡ (a && false)
nothing_within true = refl
nothing_within false = refl

pub cuts_have : (first blocks : ℕ) (rs : List LbaRange) (lba : ℕ)
    → ranges_have (cut_ranges first blocks rs) lba ≡ (is_among first blocks lba && ranges_have rs lba)
cuts_have first blocks [] lba = nothing_within (is_among first blocks lba)
cuts_have first blocks (r ∷ rs) lba =
    cons_has first blocks r rs lba
    ∙ ap₂ (λ (x y : Bool). x || y) (cut_has first blocks r lba) (cuts_have first blocks rs lba)
    ∙ or_within_and (is_among first blocks lba) (range_has r lba) (ranges_have rs lba)

cuts_within : (first blocks : ℕ) (rs : List LbaRange) → All (LiesWithin first blocks) (cut_ranges first blocks rs)
cuts_within first blocks [] = All-nil (LiesWithin first blocks)
cuts_within first blocks (r ∷ rs) =
    elim (cases_Bool (ltb 0 (cut_range first blocks r).blocks)) [
      | inl t ↦
          rw (kept first blocks r rs t)
          (All-cons (LiesWithin first blocks) _ _ (cut_within first blocks r (ltb-true _ _ t))
          (cuts_within first blocks rs))
      | inr f ↦ rw (left_out first blocks r rs f) (cuts_within first blocks rs)
    ]

pub cuts_lie_within : (first blocks : ℕ) (rs : List LbaRange) → cut_ranges first blocks rs ≢ []
    → AreRangesWithin first blocks (cut_ranges first blocks rs)
cuts_lie_within first blocks rs some = record { some = some; each = cuts_within first blocks rs }

-- Some range has one of the LBAs.
abbrev IsMet : ℕ → ℕ → List LbaRange → Type 0
IsMet first blocks rs = (lba : ℕ) × (first ≤ lba) × (lba < first + blocks) × (ranges_have rs lba ≡ true)

first_met : (first blocks : ℕ) (r : LbaRange) → 0 < (cut_range first blocks r).blocks
    → range_has r (max first r.first) ≡ true
first_met first blocks r some = grind (arith, nat_tests)

met_from : (first blocks : ℕ) (rs : List LbaRange) → cut_ranges first blocks rs ≢ [] → IsMet first blocks rs
met_from first blocks [] some = absurd (some refl)
met_from first blocks (r ∷ rs) some =
    elim (cases_Bool (ltb 0 (cut_range first blocks r).blocks)) [
      | inl t ↦
          let left : 0 < (cut_range first blocks r).blocks = ltb-true _ _ t in
          let lba : ℕ = max first r.first in
          let has : ranges_have (r ∷ rs) lba ≡ true =
          or_left (range_has r lba) (ranges_have rs lba) (first_met first blocks r left) in
          (lba, omega arith, omega arith, has)
      | inr f ↦
          let rest : IsMet first blocks rs = met_from first blocks rs (λ e. some (left_out first blocks r rs f ∙ e)) in
          (rest.0, rest.1, rest.2, or_right (range_has r rest.0) (ranges_have rs rest.0) rest.3)
    ]

from_met : (first blocks : ℕ) (rs : List LbaRange) → IsMet first blocks rs → cut_ranges first blocks rs ≢ []
from_met first blocks rs met e =
    let among : is_among first blocks met.0 ≡ true = and_from _ _ (le-leb _ _ met.1) (lt-ltb _ _ met.2) in
    let has : (is_among first blocks met.0 && ranges_have rs met.0) ≡ true = and_from _ _ among met.3 in
    false≢true (sym (ap (λ (xs : List LbaRange). ranges_have xs met.0) e) ∙ cuts_have first blocks rs met.0 ∙ has)

pub cuts_are_met : (first blocks : ℕ) (rs : List LbaRange) → (cut_ranges first blocks rs ≢ []) ↔ IsMet first blocks rs
cuts_are_met first blocks rs = (met_from first blocks rs, from_met first blocks rs)

pub cuts_are_few : (first blocks : ℕ) (rs : List LbaRange) → length (cut_ranges first blocks rs) ≤ length rs
cuts_are_few first blocks [] = omega arith
cuts_are_few first blocks (r ∷ rs) =
    let rest = cuts_are_few first blocks rs in
    elim (cases_Bool (ltb 0 (cut_range first blocks r).blocks)) [
      | inl t ↦ rw (kept first blocks r rs t) (omega arith)
      | inr f ↦ rw (left_out first blocks r rs f) (omega arith)
    ]

all_stay : (first blocks : ℕ) (rs : List LbaRange) → All (LiesWithin first blocks) rs → cut_ranges first blocks rs ≡ rs
all_stay first blocks [] within = refl
all_stay first blocks (r ∷ rs) within =
    let here : LiesWithin first blocks r = All-head (LiesWithin first blocks) r rs within in
    let same : cut_range first blocks r ≡ r = cut_itself first blocks r here in
    kept first blocks r rs (ap (λ (x : LbaRange). ltb 0 x.blocks) same ∙ lt-ltb 0 r.blocks here.0)
    ∙ ap₂ (λ (x : LbaRange) (xs : List LbaRange). x ∷ xs) same
    (all_stay first blocks rs (All-tail (LiesWithin first blocks) r rs within))

cut_fits : (first blocks : ℕ) (r : LbaRange) → first < 2 ^ 64 → FitsItsBytes r → FitsItsBytes (cut_range first blocks r)
cut_fits first blocks r low fits = (omega (arith, fits.0), omega (arith, fits.1))

pub cuts_fit : (first blocks : ℕ) (rs : List LbaRange) → first < 2 ^ 64 → All FitsItsBytes rs
    → All FitsItsBytes (cut_ranges first blocks rs)
cuts_fit first blocks rs low fits =
    let cut : LbaRange → LbaRange = cut_range first blocks in
    let each : All (λ r. FitsItsBytes (cut r)) rs =
    All-weaker FitsItsBytes (λ r. FitsItsBytes (cut r)) (λ r f. cut_fits first blocks r low f) rs fits in
    All-filter (λ r. ltb 0 r.blocks) FitsItsBytes (map cut rs) (All-map FitsItsBytes cut rs each)

pub ranges_stay : (first blocks : ℕ) (rs : List LbaRange) → AreRangesWithin first blocks rs
    → cut_ranges first blocks rs ≡ rs
ranges_stay first blocks rs within = all_stay first blocks rs within.each

pub inner_cut : (first blocks low n : ℕ) (rs : List LbaRange) → first ≤ low → low + n ≤ first + blocks
    → cut_ranges low n (cut_ranges first blocks rs) ≡ cut_ranges low n rs
inner_cut first blocks low n [] above below = refl
inner_cut first blocks low n (r ∷ rs) above below =
    let rest = inner_cut first blocks low n rs above below in
    elim (cases_Bool (ltb 0 (cut_range first blocks r).blocks)) [
      | inl t ↦
          let same = cut_again first blocks low n r above below (ltb-true _ _ t) in
          ap (cut_ranges low n) (kept first blocks r rs t)
          ∙ ap₂ (λ (x : LbaRange) (xs : List LbaRange). cond (ltb 0 x.blocks) (x ∷ xs) xs) same rest
      | inr f ↦
          let none = cut_nothing first blocks low n r above below (ltb-false _ _ f) in
          ap (cut_ranges low n) (left_out first blocks r rs f) ∙ rest ∙ sym (left_out low n r rs (le-ltb 0 _ none))
    ]

pub outer_cut : (first blocks low n : ℕ) (rs : List LbaRange) → low ≤ first → first + blocks ≤ low + n
    → cut_ranges low n (cut_ranges first blocks rs) ≡ cut_ranges first blocks rs
outer_cut first blocks low n rs below above =
    let cut : List LbaRange = cut_ranges first blocks rs in
    all_stay low n cut
    (All-weaker (LiesWithin first blocks) (LiesWithin low n) (λ r w. (w.0, omega (arith, w.1), omega (arith, w.2))) cut
    (cuts_within first blocks rs))
