use Rattle.std.proofs.Common.{◌<◌, length, arith}
use Rattle.nvm_unit.specs.Ends.{views_of}
use Rattle.nvm_space.proofs.Lists.{at_index}
use Rattle.nvm_calling.proofs.calls_on_units.polled.Goals as goal

pub poll_turn-requires-clause-of : goal.poll_turn-requires-clause-of
poll_turn-requires-clause-of g c =
    let ports = c.in_ok-space.ports.items in
    let all = c.in_ok-space.ensures.all in
    let one : 0 < length ports = omega (arith, all.count, c.in_ok-space.ensures.count) in
    (all.each 0 c.index_mut.result.now (at_index ports 0 c.index_mut.result.now one c.index_mut.ensures.value)).0

pub poll_turn-requires-clause-begun : goal.poll_turn-requires-clause-begun
poll_turn-requires-clause-begun g c =
    let start = views_of c.index_mut.result.now.passes in
    (0, start, c.begin_job-begun.ensures start)
