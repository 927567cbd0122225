use Rattle.std.proofs.Common.{◌<◌, ◌+◌, length, drop, map, rules}
use Rattle.nvm_audit.proofs.Gathers.{drop_map, one_worker_more}
use Rattle.nvm_audit.specs.RecordedPart.{parts_in_unit}
use Rattle.nvm_audit.proofs.gathering.parts_of_unit.Goals as goal

pub loop-worker-preserved : goal.loop-worker-preserved
loop-worker-preserved c =
    let done = c.args.done.now.items in
    let worker = c.loop-worker.worker in
    let low : worker < length done = search rules in
    let first = drop_map (λ work. work.items) done worker c.index.result.now low c.index.ensures in
    one_worker_more c.args.unit worker c.index.result.now.items (drop worker (map (λ work. work.items) done))
    (drop (worker + 1) (map (λ work. work.items) done)) c.loop-worker.parts.items c.gather_work.new.parts.items
    (parts_in_unit c.args.unit (map (λ work. work.items) done)) first c.loop-worker.invariant c.in_ok-gather_work.ensures
