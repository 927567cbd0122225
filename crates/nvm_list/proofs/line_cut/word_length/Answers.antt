use Rattle.std.proofs.Common.{arith}
use Rattle.nvm_list.specs.Words.{is_blank}
use Rattle.nvm_list.proofs.Cutting.{end_is}
use Rattle.nvm_list.proofs.line_cut.word_length.Goals as goal

pub returns-else-not-is_blank-clause-place : goal.returns-else-not-is_blank-clause-place
returns-else-not-is_blank-clause-place c =
    end_is is_blank c.args.text.now c.loop-place.place (record {
      within = c.loop-place.invariant.within;
      others = c.loop-place.invariant.others;
      here = λ lt. grind arith;
    })

pub returns-after-loop-place-clause-place : goal.returns-after-loop-place-clause-place
returns-after-loop-place-clause-place c =
    end_is is_blank c.args.text.now c.loop-place.place (record {
      within = c.loop-place.invariant.within;
      others = c.loop-place.invariant.others;
      here = λ lt. absurd (omega (arith, lt, c.loop-place-test.false));
    })
