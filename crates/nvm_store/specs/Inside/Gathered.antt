-- Rows of one width that lie in any order, gathered by their numbers.
use Rattle.std.specs.Prelude.{◌≡◌, ◌⊎◌, ℕ, zero, suc, ◌+◌, ◌-◌, ◌*◌, ◌/◌, ◌^◌, ◌<◌, ◌≤◌, List, [], ◌∷◌, ◌++◌, length, map, take, drop, replicate}
use Rattle.nvm_record.specs.Lists.{IsAt}

-- the row of a number
abbrev pub row_of : {A : Type 0} → ℕ → List A → ℕ → List A
row_of width rows n = take width (drop (n * width) rows)

-- the rows of some numbers, one after the other
abbrev pub gathered : {A : Type 0} → ℕ → List A → List ℕ → List A
gathered width rows [] = []
gathered width rows (n ∷ numbers) = row_of width rows n ++ gathered width rows numbers

-- how many of the numbers aren't 0
abbrev pub named : List ℕ → ℕ
named [] = 0
named (zero ∷ numbers) = named numbers
named (suc n ∷ numbers) = suc (named numbers)

-- There is a row for each number that isn't 0, at one place each, and row 0 is this thing alone.
pub record IsGathered {A : Type 0} (width : ℕ) (thing : A) (rows : List A) (numbers : List ℕ) : Type 0 where
  pub some : 0 < width
  pub first : row_of width rows 0 ≡ replicate width thing
  pub count : length rows ≡ suc (named numbers) * width
  pub within : (i n : ℕ) → IsAt numbers i n → n ≤ named numbers
  pub once : (i j n : ℕ) → IsAt numbers i n → IsAt numbers j n → (n ≡ 0) ⊎ (i ≡ j)

-- the numbers of the rows of 64 that start where the first `top` of a table say, row 0 right behind these
abbrev pub row_numbers : ℕ → List ℕ → List ℕ
row_numbers top table = map (λ (offset : ℕ). (offset - top) / 64) (take top table)

-- what a table of numbers has: the numbers in those rows
abbrev pub numbers_in : ℕ → List ℕ → List ℕ
numbers_in top table = gathered 64 (drop top table) (row_numbers top table)

-- Its rows are sound, and what it says of where they start fits in 32 bits.
pub record AreNumbers (top : ℕ) (table : List ℕ) : Type 0 where
  pub gathered : IsGathered 64 0 (drop top table) (row_numbers top table)
  pub long : top ≤ length table
  pub few : top * 65 < 2 ^ 32
  pub whole : (i offset : ℕ) → IsAt (take top table) i offset → offset ≡ top + (offset - top) / 64 * 64
