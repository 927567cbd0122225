-- Which units are named by parts: a mark for each unit, at the place of its number.
use Rattle.std.specs.Prelude.{ℕ, List, [], ◌∷◌, Bool, true, false, replicate, slice_set}
use Rattle.nvm_plan.specs.declared.part.Part.{Part}
use Rattle.nvm_audit.specs.RecordedJob.{RecordedJob}

-- with marks for the units that these parts name
abbrev pub named_by_parts : List Part → List Bool → List Bool
named_by_parts [] named = named
named_by_parts (part ∷ parts) named = named_by_parts parts (slice_set named part.unit true)

-- with marks for the units that parts of these done jobs name
abbrev pub named_by_work : List RecordedJob → List Bool → List Bool
named_by_work [] named = named
named_by_work (done ∷ work) named = named_by_work work (named_by_parts done.parts named)

-- with marks for the units that parts of what these workers did name
abbrev pub named_by_workers : List (List RecordedJob) → List Bool → List Bool
named_by_workers [] named = named
named_by_workers (work ∷ rest) named = named_by_workers rest (named_by_work work named)

-- which of so many units parts name
abbrev pub named_units : ℕ → List (List RecordedJob) → List Bool
named_units units done = named_by_workers done (replicate units false)
