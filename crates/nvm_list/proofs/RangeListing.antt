-- Ranges that are listed are read again.
use Rattle.std.proofs.Common.{◌≡◌, ℕ, ◌+◌, ◌^◌, ◌<◌, ◌≤◌, nat_le, false, List, [], ◌∷◌, ◌++◌, map, length, codes, decimal, All, Option, Some, Ok, Err, refl, ap, ◌∙◌, arith}
use Rattle.std.specs.List.{before_first, after_first, AllByRecursion}
use Rattle.std.proofs.lemmas.Bool.{le-leb, cond-true}
use Rattle.std.proofs.lemmas.Fmt.{decimal_nonempty}
use Rattle.std.proofs.lemmas.List.{length-append}
use Rattle.std.proofs.lemmas.List.Elements.{All-from_recursion}
use Rattle.nvm_record.specs.Ranges.{FitsItsBytes}
use Rattle.nvm_record.specs.declared.lba_range.LbaRange.{LbaRange}
use Rattle.nvm_list.specs.Words.{is}
use Rattle.nvm_list.specs.Numbers.{number}
use Rattle.nvm_list.specs.Commas.{behind_commas}
use Rattle.nvm_list.specs.Ranges.{range_from, read_range, few_ranges, ranges}
use Rattle.nvm_list.specs.Listing.{range_text, ranges_text}
use Rattle.nvm_list.specs.declared.expected.Expected.TheVariants as expecting
use Rattle.nvm_list.proofs.PlainText.{IsPlain, IsPlainWord, both}
use Rattle.nvm_list.proofs.NumberListing.{decimal_high, high_plain, number_again}
use Rattle.nvm_list.proofs.PartListing.{HasNoComma, before_at, after_at, high_none, parts_again}

range_again : (r : LbaRange) → FitsItsBytes r → read_range (range_text r) ≡ Some r
range_again r h =
    let first : r.first < 2 ^ 64 = h.0 in
    let blocks : r.blocks < 2 ^ 32 = h.1 in
    let none : All (λ b. is 43 b ≡ false) (decimal r.first) = All-from_recursion (λ b. is 43 b ≡ false) (decimal r.first) (high_none 43 (decimal r.first) (omega arith) (decimal_high r.first first)) in
    let front : number 18446744073709551615 (before_first (is 43) (range_text r)) ≡ Some r.first = ap (number 18446744073709551615) (before_at 43 (decimal r.first) (decimal r.blocks) none) ∙ number_again 18446744073709551615 r.first first (omega arith) in
    let back : number 4294967295 (after_first (is 43) (range_text r)) ≡ Some r.blocks = ap (number 4294967295) (after_at 43 (decimal r.first) (decimal r.blocks) none) ∙ number_again 4294967295 r.blocks (omega arith) (omega arith) in
    ap (λ (n : Option ℕ). range_from n (number 4294967295 (after_first (is 43) (range_text r)))) front ∙ ap (λ (n : Option ℕ). range_from (Some r.first) n) back

each_again : (rs : List LbaRange) → AllByRecursion FitsItsBytes rs → AllByRecursion (λ r. read_range (range_text r) ≡ Some r) rs
each_again [] h = tt
each_again (r ∷ rs) h = (range_again r h.0, each_again rs h.1)

no_commas : (rs : List LbaRange) → AllByRecursion FitsItsBytes rs → AllByRecursion HasNoComma (map range_text rs)
no_commas [] h = tt
no_commas (r ∷ rs) h =
    let first : r.first < 2 ^ 64 = h.0.0 in
    let blocks : r.blocks < 2 ^ 32 = h.0.1 in (
      both (λ b. is 44 b ≡ false) (decimal r.first) (codes "+" ++ decimal r.blocks) (high_none 44 (decimal r.first) (omega arith) (decimal_high r.first first)) (refl, high_none 44 (decimal r.blocks) (omega arith) (decimal_high r.blocks (omega arith))),
      no_commas rs h.1,
    )

-- ---- the word

range_plain : (r : LbaRange) → FitsItsBytes r → AllByRecursion IsPlain (range_text r)
range_plain r h =
    let first : r.first < 2 ^ 64 = h.0 in
    let blocks : r.blocks < 2 ^ 32 = h.1 in
    both IsPlain (decimal r.first) (codes "+" ++ decimal r.blocks) (high_plain (decimal r.first) (decimal_high r.first first)) (omega arith, high_plain (decimal r.blocks) (decimal_high r.blocks (omega arith)))

more_plain : (rs : List LbaRange) → AllByRecursion FitsItsBytes rs → AllByRecursion IsPlain (behind_commas (map range_text rs))
more_plain [] h = tt
more_plain (r ∷ rs) h = (omega arith, both IsPlain (range_text r) (behind_commas (map range_text rs)) (range_plain r h.0) (more_plain rs h.1))

-- what holds of ranges that are listed
pub record AreRangesListed (rs : List LbaRange) : Type 0 where
  pub word : IsPlainWord (ranges_text rs)
  pub again : ranges (ranges_text rs) ≡ Ok rs

pub ranges_listed : (rs : List LbaRange) → 1 ≤ length rs → length rs ≤ 256 → AllByRecursion FitsItsBytes rs → AreRangesListed rs
ranges_listed [] some few h = absurd (omega arith)
ranges_listed (r ∷ rs) some few h =
    let front : 0 < length (decimal r.first) = decimal_nonempty r.first h.0.0 in
    let one : length (range_text r) ≡ length (decimal r.first) + length (codes "+" ++ decimal r.blocks) = length-append (decimal r.first) (codes "+" ++ decimal r.blocks) in
    let all : length (ranges_text (r ∷ rs)) ≡ length (range_text r) + length (behind_commas (map range_text rs)) = length-append (range_text r) (behind_commas (map range_text rs)) in
    record {
      word = record { some = omega arith; plain = both IsPlain (range_text r) (behind_commas (map range_text rs)) (range_plain r h.0) (more_plain rs h.1) };
      again = ap few_ranges (parts_again range_text read_range r rs (no_commas (r ∷ rs) h) (each_again (r ∷ rs) h)) ∙ cond-true (nat_le (length (r ∷ rs)) 256) (Ok (r ∷ rs)) (Err (expecting.RangeCount (length (r ∷ rs)))) (le-leb (length (r ∷ rs)) 256 few);
    }
