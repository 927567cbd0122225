-- One entry of a unit's history, as plain data.
use Rattle.std.specs.Prelude.{ℕ}
use Rattle.nvm_record.specs.Step.{Operation}

-- the numbers of the pass and of the job, and what was done
pub record HistoryEntry : Type 0 where
  pub pass : ℕ
  pub job : ℕ
  pub operation : Operation
