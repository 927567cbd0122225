-- What the step gives an operation, as the code finds it.
use Rattle.std.specs.Prelude.{◌≡◌}
use Rattle.nvm_record.specs.Medium.{Medium}
use Rattle.nvm_record.specs.Step.{Operation, statuses_of, data_of}
use Rattle.nvm_explain.specs.declared.given.Given.{Given}

-- The statuses and the data are those of the step on this medium.
pub record IsGiven (op : Operation) (m : Medium) (given : Given) : Type 0 where
  pub statuses : given.statuses ≡ statuses_of op m
  pub payload : given.payload ≡ data_of op m
