use Rattle.std.proofs.Common.{◌+◌, subst, arith}
use Rattle.nvm_record.specs.BlockSize.{IsBlockSize}
use Rattle.nvm_generate.proofs.Stamps.{stamps_long}
use Rattle.nvm_generate.proofs.asking.write.Goals as goal

pub returns-clause-whole : goal.returns-clause-whole
returns-clause-whole c =
    let size = c.args.load.now.geometry.block_size in
    let valid : IsBlockSize size = subst IsBlockSize c.block_size.ensures.value c.block_size.ensures.valid in
    grind (arith, stamps_long size c.args.host c.args.cid (c.args.range.nlb + 1) valid)

pub returns-clause-sound : goal.returns-clause-sound
returns-clause-sound c =
    let size = c.args.load.now.geometry.block_size in
    let valid : IsBlockSize size = subst IsBlockSize c.block_size.ensures.value c.block_size.ensures.valid in
    record {
      range = c.requires;
      whole = grind (arith, stamps_long size c.args.host c.args.cid (c.args.range.nlb + 1) valid);
    }
