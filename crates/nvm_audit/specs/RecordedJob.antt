-- What a record shows of one job that was done (own).
use Rattle.std.specs.Prelude.{ℕ, List, Option}
use Rattle.nvm_record.specs.declared.status.Statuses.{Statuses}
use Rattle.nvm_plan.specs.declared.part.Part.{Part}

-- The job's number, the parts that were done of it, in their order, the statuses of its commands, and the data of a Read.
pub record RecordedJob : Type 0 where
  pub job : ℕ
  pub parts : List Part
  pub statuses : Statuses
  pub payload : Option (List ℕ)
