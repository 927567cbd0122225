-- Where an entry first writes other data than the part of its job.
use Rattle.std.specs.Prelude.{ℕ, ◌==◌, if◌then◌else◌, List, Option, Some, None}
use Rattle.nvm_record.specs.Step.{Deed, Operation, writes, zeroes, uncorrectable, reads, compares, pairs, deallocates}
use Rattle.nvm_explain.specs.declared.difference.Difference.{Difference}
use Rattle.nvm_explain.specs.Difference.{difference_of}

-- the data that a deed writes, if it writes any
abbrev pub data_written : Deed → Option (List ℕ)
data_written (writes payload) = Some payload
data_written zeroes = None
data_written uncorrectable = None
data_written reads = None
data_written (compares payload) = None
data_written (pairs payload new) = Some new
data_written (deallocates ranges) = None

-- the first byte that differs of data that is recorded and data that was sent, where both are for blocks from one LBA
abbrev pub both_apart : ℕ → ℕ → ℕ → Option (List ℕ) → Option (List ℕ) → Option Difference
both_apart size first other None sent = None
both_apart size first other (Some bytes) None = None
both_apart size first other (Some bytes) (Some sent) = if first == other then difference_of first size bytes sent else None

-- the first byte that one operation writes otherwise than another
abbrev pub written_apart : ℕ → Operation → Operation → Option Difference
written_apart size op sent = both_apart size op.first sent.first (data_written op.deed) (data_written sent.deed)
