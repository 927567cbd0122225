use Rattle.std.proofs.Common.{arith}
use Rattle.std.proofs.lemmas.List.{length-map}
use Rattle.nvm_standard.specs.PointView.{seen_table}
use Rattle.nvm_standard.specs.Fits.{FitsFirst}
use Rattle.nvm_standard.specs.OrderView.{seen_order, seen_first}
use Rattle.nvm_standard.proofs.Eaches.{each_more, each_all, one_of_all}
use Rattle.nvm_standard.proofs.Standing.{not_both, read_seen}
use Rattle.nvm_standard.proofs.fitting.first_wrong.Goals as goal

pub loop-place-preserved : goal.loop-place-preserved
loop-place-preserved c =
    let xs = c.args.order.now.first.items in
    each_more (FitsFirst (seen_table c.args.points.now)) (seen_order c.args.order.now).first c.loop-place.place
    (seen_first c.index.result.now)
    (read_seen seen_first xs c.loop-place.place c.index.result.now (omega arith) c.index.ensures)
    (c.fits_first.ensures.0 c.if-not-fits_first.false) c.loop-place.invariant

pub returns-clause-each : goal.returns-clause-each
returns-clause-each c =
    let same = length-map c.args.order.now.first.items seen_first in
    each_all (FitsFirst (seen_table c.args.points.now)) (seen_order c.args.order.now).first c.loop-place.place
    (omega (arith, same, c.loop-place-test.false)) c.loop-place.invariant

pub returns-then-not-fits_first-clause-wrong : goal.returns-then-not-fits_first-clause-wrong
returns-then-not-fits_first-clause-wrong c = λ begins all.
    let xs = c.args.order.now.first.items in
    let at = read_seen seen_first xs c.loop-place.place c.index.result.now (omega arith) c.index.ensures in
    not_both c.fits_first.result
    (c.fits_first.ensures.1
    (one_of_all (FitsFirst (seen_table c.args.points.now)) (seen_order c.args.order.now).first c.loop-place.place
    (seen_first c.index.result.now) all at)) c.if-not-fits_first.true
