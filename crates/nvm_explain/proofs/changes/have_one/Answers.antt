use Rattle.std.proofs.Common.{◌<◌, ◌≤◌, arith, subst, sym, ◌∙◌}
use Rattle.nvm_record.specs.declared.lba_range.LbaRange.{LbaRange}
use Rattle.nvm_record.specs.Ranges.{cut_range, range_count}
use Rattle.nvm_explain.proofs.Changed.{all_missed, none_left, range_met, range_missed, some_left}
use Rattle.nvm_explain.proofs.changes.have_one.Goals as goal

pub returns-then-is_some : goal.returns-then-is_some
returns-then-is_some c =
    let payload = c.args.payload.now in
    let place = c.loop-place.place in
    let range = c.args.range in
    let low : place < range_count payload = omega (arith, c.loop-place-test.true, c.range_count-place-end.ensures) in
    let some = some_left c.cut.result _ _ c.cut.ensures (sym c.is_some.ensures ∙ c.if-is_some.true) in
    sym (sym c.loop-place.invariant ∙ range_met payload place range low
    (subst (λ (r : LbaRange). 0 < (cut_range range.first range.blocks r).blocks) c.at-named.ensures some))

pub loop-place-preserved : goal.loop-place-preserved
loop-place-preserved c =
    let payload = c.args.payload.now in
    let place = c.loop-place.place in
    let range = c.args.range in
    let low : place < range_count payload = omega (arith, c.loop-place-test.true, c.range_count-place-end.ensures) in
    let none = none_left c.cut.result _ _ c.cut.ensures (sym c.is_some.ensures ∙ c.if-is_some.false) in
    sym (range_missed payload place range low
    (subst (λ (r : LbaRange). ¬ (0 < (cut_range range.first range.blocks r).blocks)) c.at-named.ensures none))
    ∙ c.loop-place.invariant

pub returns : goal.returns
returns c =
    let payload = c.args.payload.now in
    let past : range_count payload ≤ c.loop-place.place = omega (arith, c.loop-place-test.false, c.range_count-place-end.ensures) in
    sym (sym c.loop-place.invariant ∙ all_missed payload c.loop-place.place c.args.range past)
