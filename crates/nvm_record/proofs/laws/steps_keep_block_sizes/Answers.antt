use Rattle.nvm_record.proofs.BlockSizes.{zero_sizes, step_sizes, data_size}
use Rattle.nvm_record.proofs.laws.steps_keep_block_sizes.Goals as goal

pub returns-clause-begun : goal.returns-clause-begun
returns-clause-begun c = zero_sizes

pub returns-clause-step : goal.returns-clause-step
returns-clause-step c = step_sizes

pub returns-clause-payload : goal.returns-clause-payload
returns-clause-payload c = data_size
