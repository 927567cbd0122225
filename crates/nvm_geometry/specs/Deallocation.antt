-- A Deallocate of ranges that may lie anywhere in the namespace: NVM Command Set Specification, "Dataset Management
-- command". The units are this project's own words for what lies between two boundaries.
use Rattle.std.specs.Prelude.{ℕ, ◌+◌, ◌≤◌, nat_le, List, All, filter}
use Rattle.nvm_record.specs.declared.lba_range.LbaRange.{LbaRange}
use Rattle.nvm_record.specs.Step.{Operation, deallocates}
use Rattle.nvm_geometry.specs.Namespace.{Namespace}
use Rattle.nvm_geometry.specs.Parts.{units_met}

-- the Deallocate of these ranges, on all LBAs of the namespace
abbrev pub deallocation : Namespace → List LbaRange → Operation
deallocation ns ranges = record { first = 0; blocks = ns.nsze; deed = deallocates ranges }

-- No range ends above NSZE. One without a block ends where it begins.
abbrev pub EndInNamespace : Namespace → List LbaRange → Type 0
EndInNamespace ns ranges = All (λ r. r.first + r.blocks ≤ ns.nsze) ranges

-- the units from this one on that an operation meets, ascending
abbrev pub units_met_from : Namespace → Operation → ℕ → List ℕ
units_met_from ns op from = filter (λ unit. nat_le from unit) (units_met ns op)
