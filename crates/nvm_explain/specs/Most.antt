-- What is counted for each unit: in how many units there is more than a least count, the most, and the first unit that has it.
use Rattle.std.specs.Prelude.{ℕ, ◌==◌, nat_lt, List, count_by, fold, max}
use Rattle.std.specs.List.{position_or_len}

-- how many units have more than that
abbrev pub units_above : ℕ → List ℕ → ℕ
units_above least counts = count_by (λ count. nat_lt least count) counts

-- the most in a unit
abbrev pub most_of : List ℕ → ℕ
most_of counts = fold max 0 counts

-- the first unit that has exactly this count
abbrev pub first_with : ℕ → List ℕ → ℕ
first_with count counts = position_or_len (λ other. other == count) counts
