use Rattle.std.proofs.Common.{◌≡◌, ◌<◌, ◌^◌, length, ap, ◌∙◌}
use Rattle.std.proofs.lemmas.List.{length-replicate}
use Rattle.nvm_store.specs.Inside.Rewrite.{zero_block}
use Rattle.nvm_store.proofs.Ranges.{zeroes_held, zeroes_sized}
use Rattle.nvm_store.proofs.unit_blocks.UnitBlocks.own.Goals as goal

pub returns-clause-zeroes : goal.returns-clause-zeroes
returns-clause-zeroes c =
    rw (c.in_ok-blocks.ensures.list, c.bytes.ensures.value) (zeroes_held c.args.blocks c.args.first c.args.size)

pub invariant_of-result : goal.invariant_of-result
invariant_of-result c =
    let size = c.bytes.result in
    let len : length c.in_ok-blocks.blocks.list ≡ c.args.blocks = ap length c.in_ok-blocks.ensures.list ∙ length-replicate c.args.blocks (zero_block size) in
    let few : c.args.blocks < 2 ^ 32 = search in
    record {
      sound = record {
        some = rw len c.requires.some;
        low = rw len c.requires.low;
        few = rw len few;
        sized = rw (c.in_ok-blocks.ensures.list, c.bytes.ensures.value) (zeroes_sized c.args.blocks c.args.size);
      };
      same = c.in_ok-blocks.ensures.size ∙ c.bytes.ensures.value;
    }
