use Rattle.nvm_store.proofs.BlockSizes.{replay_sized, point_sized}
use Rattle.nvm_store.proofs.laws.lawful_replay_has_block_size.Goals as goal

pub returns-clause-replay : goal.returns-clause-replay
returns-clause-replay c place history lawful =
    let law = c.steps_keep_block_sizes.ensures in
    replay_sized law.step place history (law.begun place.size) lawful

pub returns-clause-points : goal.returns-clause-points
returns-clause-points c place history n lawful =
    let law = c.steps_keep_block_sizes.ensures in
    point_sized law.step place history n (law.begun place.size) lawful
