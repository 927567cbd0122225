use Rattle.std.proofs.Common.{arith}
use Rattle.nvm_audit.specs.Recordable.{IsRecordableWork}
use Rattle.nvm_audit.specs.Shown.{shown_by}
use Rattle.nvm_audit.proofs.Counting.{low_limit, read_in_map}
use Rattle.nvm_audit.proofs.Standing.{all_at}
use Rattle.nvm_audit.proofs.counts.verdict.Goals as goal

pub changes-requires-clause-few : goal.changes-requires-clause-few
changes-requires-clause-few c = λ k d lt.
    let its = read_in_map (λ history. history.items) c.record.inside.units.items k d lt in
    let few = (c.record.invariant.units k _ its).few in
    let low = low_limit c.record.inside.version c.record.inside.limit c.record.invariant.limit in
    omega (arith, few, low)

pub refused-requires-clause-few : goal.refused-requires-clause-few
refused-requires-clause-few c = λ k d lt.
    let its = read_in_map (λ work. work.items) c.record.inside.done.items k d lt in
    let does = all_at (IsRecordableWork (shown_by c.record.inside)) (shown_by c.record.inside).done c.record.invariant.done k _ its in
    does.few
