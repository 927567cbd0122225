use Rattle.std.proofs.Common.{sym}
use Rattle.nvm_store.specs.Point.{point}
use Rattle.nvm_store.proofs.laws.data_at_point_has_its_length.Goals as goal

pub returns : goal.returns
returns c place history n op told bytes lawful rests =
    c.steps_keep_block_sizes.ensures.payload place.size op (point place.size history n) bytes
    (c.lawful_replay_has_block_size.ensures.points place history n lawful) (sym rests.payload)
