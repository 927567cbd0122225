use Rattle.nvm_record.specs.Step.{range_of}
use Rattle.nvm_store.proofs.Comparisons.{failed_pair_told}
use Rattle.nvm_store.proofs.laws.pair_that_fails.Goals as goal

pub returns : goal.returns
returns c op m fails = failed_pair_told (range_of op m) op.deed fails
