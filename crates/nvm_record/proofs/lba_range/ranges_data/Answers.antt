use Rattle.std.proofs.Common.{take_all, ◌≡◌, ◌∙◌, ap, take, arith}
use Rattle.std.proofs.lemmas.Grind.{common_steps}
use Rattle.std.proofs.lemmas.Result.{IfOk-weaker}
use Rattle.std.proofs.lemmas.List.Elements.{All-more}
use Rattle.nvm_record.specs.Ranges.{FitsItsBytes, ranges_of}
use Rattle.nvm_record.specs.declared.lba_range.LbaRange.{LbaRange}
use Rattle.nvm_record.proofs.RangesReadBack.{read_back}
use Rattle.nvm_record.proofs.lba_range.ranges_data.Goals as goal

pub loop-range-preserved : goal.loop-range-preserved
loop-range-preserved c =
    let rs = c.args.ranges.now in
    let i = c.loop-range.range-index in
    let none : LbaRange = record { first = 0; blocks = 0 } in
    let so_far = c.loop-range.invariant.fit in
    record {
      bytes = grind (arith, common_steps);
      fit = All-more FitsItsBytes rs i none c.loop-range-test.true so_far c.bytes.ensures.fits;
    }

pub returns-clause-again : goal.returns-clause-again
returns-clause-again c =
    let rs = c.args.ranges.now in
    let i = c.loop-range.range-index in
    let all : take i rs ≡ rs = take_all i rs c.loop-range-test.false in
    IfOk-weaker c.new.result (λ p. p ≡ c.loop-range.payload.items) (λ p. ranges_of p ≡ rs)
    (λ p e. ap ranges_of (e ∙ c.loop-range.invariant.bytes) ∙ read_back (take i rs) c.loop-range.invariant.fit ∙ all)
    c.new.ensures
