use Rattle.std.proofs.Common.{arith}
use Rattle.std.proofs.lemmas.Bool.{eq-eqb}
use Rattle.nvm_list.specs.Words.{is}
use Rattle.nvm_list.proofs.Cutting.{end_is}
use Rattle.nvm_list.proofs.line_cut.place_of.Goals as goal

pub returns-else-bytes-place-clause-place : goal.returns-else-bytes-place-clause-place
returns-else-bytes-place-clause-place c =
    end_is (is c.args.byte) c.args.bytes.now c.loop-place.place (record {
      within = c.loop-place.invariant.within;
      others = c.loop-place.invariant.others;
      here = λ lt. eq-eqb _ _ c.if-bytes-place.false;
    })

pub returns-after-loop-place-clause-place : goal.returns-after-loop-place-clause-place
returns-after-loop-place-clause-place c =
    end_is (is c.args.byte) c.args.bytes.now c.loop-place.place (record {
      within = c.loop-place.invariant.within;
      others = c.loop-place.invariant.others;
      here = λ lt. absurd (omega (arith, lt, c.loop-place-test.false));
    })
