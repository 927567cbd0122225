use Rattle.std.proofs.Common.{◌+◌, ◌*◌, ◌/◌, ap, ◌∙◌, arith, length}
use Rattle.std.proofs.lemmas.List.{length-replicate}
use Rattle.nvm_store.specs.Inside.Rewrite.{zero_block}
use Rattle.nvm_store.proofs.blocks.levels.Levels.zeroed.Goals as goal

pub returns-then-count-le-TWO_LEVELS : goal.returns-then-count-le-TWO_LEVELS
returns-then-count-le-TWO_LEVELS c =
    let block = zero_block c.args.size in
    record {
      all = (c.args.count / 8 + 1) * 8;
      enough = omega arith;
      are = c.in_ok-of.ensures block c.in_ok-leaf.ensures;
    }

pub returns-then-count-le-THREE_LEVELS : goal.returns-then-count-le-THREE_LEVELS
returns-then-count-le-THREE_LEVELS c =
    let block = zero_block c.args.size in
    record {
      all = (c.args.count / 128 + 1) * 128;
      enough = omega arith;
      are = c.in_ok-of-2.ensures block (c.in_ok-two.ensures block c.in_ok-leaf.ensures);
    }

pub returns-then-count-le-FOUR_LEVELS : goal.returns-then-count-le-FOUR_LEVELS
returns-then-count-le-FOUR_LEVELS c =
    let block = zero_block c.args.size in
    record {
      all = (c.args.count / 2048 + 1) * 2048;
      enough = omega arith;
      are = c.in_ok-of-3.ensures block (c.in_ok-three.ensures block (c.in_ok-two.ensures block c.in_ok-leaf.ensures));
    }

pub returns : goal.returns
returns c =
    let block = zero_block c.args.size in
    record {
      all = (c.args.count / 524288 + 1) * 524288;
      enough = omega arith;
      are = c.in_ok-of-4.ensures block (c.in_ok-four.ensures block (c.in_ok-three.ensures block (c.in_ok-two.ensures block c.in_ok-leaf.ensures)));
    }

pub of-requires-then-count-le-FOUR_LEVELS : goal.of-requires-then-count-le-FOUR_LEVELS
of-requires-then-count-le-FOUR_LEVELS c =
    let block = zero_block c.args.size in
    (omega arith, (omega arith, ap length (c.in_ok-three.ensures block (c.in_ok-two.ensures block c.in_ok-leaf.ensures)) ∙ length-replicate 2048 block))

pub of-requires-4 : goal.of-requires-4
of-requires-4 c =
    let block = zero_block c.args.size in
    (omega arith, (omega arith, ap length (c.in_ok-three.ensures block (c.in_ok-two.ensures block c.in_ok-leaf.ensures)) ∙ length-replicate 2048 block))

pub of-requires-5 : goal.of-requires-5
of-requires-5 c =
    let block = zero_block c.args.size in
    (omega arith, (omega arith, ap length (c.in_ok-four.ensures block (c.in_ok-three.ensures block (c.in_ok-two.ensures block c.in_ok-leaf.ensures))) ∙ length-replicate 524288 block))
