-- The operations that acts and looks stand for.
use Rattle.std.specs.Prelude.{ℕ, List}
use Rattle.nvm_record.specs.declared.lba_range.LbaRange.{LbaRange}
use Rattle.nvm_record.specs.Ranges.{cut_ranges}
use Rattle.nvm_record.specs.Step.{Operation, writes, zeroes, uncorrectable, reads, compares, pairs, deallocates}

abbrev pub write_operation : ℕ → ℕ → List ℕ → Operation
write_operation first blocks payload =
    record { first = first; blocks = blocks; deed = writes payload }

abbrev pub zeroes_operation : ℕ → ℕ → Operation
zeroes_operation first blocks = record { first = first; blocks = blocks; deed = zeroes }

abbrev pub uncorrectable_operation : ℕ → ℕ → Operation
uncorrectable_operation first blocks =
    record { first = first; blocks = blocks; deed = uncorrectable }

abbrev pub read_operation : ℕ → ℕ → Operation
read_operation first blocks = record { first = first; blocks = blocks; deed = reads }

abbrev pub compare_operation : ℕ → ℕ → List ℕ → Operation
compare_operation first blocks payload =
    record { first = first; blocks = blocks; deed = compares payload }

abbrev pub pair_operation : ℕ → ℕ → List ℕ → List ℕ → Operation
pair_operation first blocks compare write =
    record { first = first; blocks = blocks; deed = pairs compare write }

-- of exactly these ranges
abbrev pub ranges_operation : ℕ → ℕ → List LbaRange → Operation
ranges_operation first blocks ranges =
    record { first = first; blocks = blocks; deed = deallocates ranges }

-- of the ranges those parts that lie among the operation's LBAs
abbrev pub deallocate_operation : ℕ → ℕ → List LbaRange → Operation
deallocate_operation first blocks ranges = ranges_operation first blocks (cut_ranges first blocks ranges)
