-- An operation done part by part: one unit after the other, in any order of the units that it meets.
use Rattle.std.specs.Prelude.{◌==◌, ℕ, List, [], ◌∷◌, ◌++◌, IsPermutation, Option, Some, None, if◌then◌else◌}
use Rattle.nvm_record.specs.Status.{IsSuccess}
use Rattle.nvm_record.specs.Medium.{Medium}
use Rattle.nvm_record.specs.Step.{Operation, medium_after, statuses_of, data_of}
use Rattle.nvm_geometry.specs.Namespace.{Namespace}
use Rattle.nvm_geometry.specs.Parts.{units_met, part_in}

-- The units are those that the operation meets, each once, in any order.
abbrev pub IsOrderOf : Namespace → Operation → List ℕ → Type 0
IsOrderOf ns op units = IsPermutation (units_met ns op) units

-- the medium after the parts in these units, in turn
abbrev pub medium_after_parts : Namespace → Operation → List ℕ → Medium → Medium
medium_after_parts ns op [] m = m
medium_after_parts ns op (unit ∷ units) m =
    medium_after_parts ns op units (medium_after ns.block_size (part_in ns op unit) m)

-- each of the parts in these units succeeds in its turn
abbrev pub EachSucceeds : Namespace → Operation → List ℕ → Medium → Type 0
EachSucceeds ns op [] m = Unit {0}
EachSucceeds ns op (unit ∷ units) m =
    IsSuccess (statuses_of (part_in ns op unit) m)
    × EachSucceeds ns op units (medium_after ns.block_size (part_in ns op unit) m)

-- the data that the part in `asked` answers in its turn
abbrev pub data_of_part : Namespace → Operation → List ℕ → Medium → ℕ → Option (List ℕ)
data_of_part ns op [] m asked = None
data_of_part ns op (unit ∷ units) m asked =
    if unit == asked then data_of (part_in ns op unit) m
    else data_of_part ns op units (medium_after ns.block_size (part_in ns op unit) m) asked

-- both data, one after the other, where both are there
abbrev pub both_data : Option (List ℕ) → Option (List ℕ) → Option (List ℕ)
both_data (Some a) (Some b) = Some (a ++ b)
both_data (Some a) None = None
both_data None b = None

-- the data of these units, joined
abbrev pub joined_data : (ℕ → Option (List ℕ)) → List ℕ → Option (List ℕ)
joined_data answer [] = Some []
joined_data answer (unit ∷ units) = both_data (answer unit) (joined_data answer units)
