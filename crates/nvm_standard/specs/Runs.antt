-- The blocks that a command has to do with. Of a range that goes past the end of the namespace only the blocks that exist count
-- (docs/STANDARD.md, "What is seen").
use Rattle.std.specs.Prelude.{ℕ, ◌+◌, ◌-◌, ◌*◌, nat_eq, nat_le, nat_lt, min, Bool, ◌&&◌, List, take, if◌then◌else◌}
use Rattle.nvm_geometry.specs.Boundaries.{unit_number}
use Rattle.nvm_geometry.specs.Namespace.{Namespace}
use Rattle.nvm_standard.specs.declared.run.Run.{Run}

abbrev pub run : ℕ → ℕ → Run
run first blocks = record { first = first; blocks = blocks }

-- those of the blocks from `first` that exist
unfoldable pub run_in : Namespace → ℕ → ℕ → Run
run_in ns first blocks = if nat_lt first ns.nsze then run first (min blocks (ns.nsze - first)) else run 0 0

-- all blocks of the range exist
abbrev pub is_inside : Namespace → ℕ → ℕ → Bool
is_inside ns first blocks = nat_le (first + blocks) ns.nsze

-- The range is within its limit, which is zeroes-based: it has no more blocks, all of one unit and all of the namespace
-- (NVM Command Set Specification, "Atomic Operation").
unfoldable pub is_within : Namespace → ℕ → ℕ → ℕ → Bool
is_within ns limit first blocks =
    is_inside ns first blocks && nat_le blocks (limit + 1) && nat_eq (unit_number ns first) (unit_number ns (first + blocks - 1))

-- the data of the first blocks
abbrev pub front : ℕ → ℕ → List ℕ → List ℕ
front size blocks payload = take (blocks * size) payload
