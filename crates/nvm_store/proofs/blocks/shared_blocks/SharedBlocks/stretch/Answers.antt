use Rattle.std.proofs.Common.{arith}
use Rattle.std.proofs.lemmas.List.{length-take-le}
use Rattle.nvm_store.specs.Inside.Levels.{blocks_of}
use Rattle.nvm_store.proofs.Stretches.{front_of_stretch}
use Rattle.nvm_store.proofs.blocks.shared_blocks.SharedBlocks.stretch.Goals as goal

pub returns-clause-is : goal.returns-clause-is
returns-clause-is c =
    let all = blocks_of c.self.inside.levels in
    let range = rw (← c.self.view_is, length-take-le c.self.inside.count all c.self.invariant) at c.requires.range in
    rw (← c.self.view_is)
    (front_of_stretch all c.self.inside.count c.args.from c.min-len.result c.stretch-stretch.result.now c.stretch-stretch.ensures
    (omega (arith, c.min-len.ensures)) (omega (arith, c.min-len.ensures, range)))
