-- A part of a part.
use Rattle.std.proofs.Common.{rules, arith, ap, sym, ◌∙◌, ◌≡◌, ℕ, ◌+◌, ◌≤◌, List, length, slice_range}
use Rattle.std.proofs.lemmas.List.{same_lists, places}

-- the places count from the part's first element
pub part_of_part : (xs : List ℕ) (first last from to : ℕ) → first ≤ last → last ≤ length xs → from ≤ to → to ≤ length (slice_range xs first last)
    → slice_range xs (first + from) (first + to) ≡ slice_range (slice_range xs first last) from to
part_of_part xs first last from to ordered within range here = same_lists _ _ (search (rules, places)) (λ k d h. grind (arith, places))

-- the same of bytes that are a part of a payload's
pub part_of_lent : (whole bytes : List ℕ) (at from to : ℕ) → at + length bytes ≤ length whole → bytes ≡ slice_range whole at (at + length bytes)
    → from ≤ to → to ≤ length bytes → slice_range whole (at + from) (at + to) ≡ slice_range bytes from to
part_of_lent whole bytes at from to within is ordered here =
    part_of_part whole at (at + length bytes) from to (omega arith) within ordered (rw is at here) ∙ ap (λ xs. slice_range xs from to) (sym is)
