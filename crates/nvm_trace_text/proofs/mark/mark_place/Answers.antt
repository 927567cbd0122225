use Rattle.std.proofs.Common.{◌≡◌, false, drop, sym, ap, ◌∙◌, arith}
use Rattle.std.proofs.lemmas.List.{take_rest}
use Rattle.nvm_trace_text.specs.Marks.{is_mark}
use Rattle.nvm_trace_text.proofs.MarkPlaces.{one_further}
use Rattle.nvm_trace_text.proofs.mark.mark_place.Goals as goal

pub loop-place-preserved : goal.loop-place-preserved
loop-place-preserved c =
    let bytes = c.args.bytes.now in
    let place = c.loop-place.place in
    let none : is_mark c.args.mark (drop place bytes) ≡ false = ap (is_mark c.args.mark) (sym (take_rest bytes place)) ∙ sym c.is_mark.ensures ∙ c.if-not-is_mark.true in
    record {
      within = omega (arith, c.loop-place-test.true);
      same = one_further c.args.mark bytes place c.loop-place-test.true none c.loop-place.invariant.same;
    }
