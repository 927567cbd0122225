use Rattle.std.proofs.Common.{List, map, arith}
use Rattle.std.specs.List.{count_by}
use Rattle.nvm_audit.specs.RecordedJob.{RecordedJob}
use Rattle.nvm_audit.specs.Verdict.{has_refusal}
use Rattle.nvm_audit.proofs.Counting.{item_in_map, one_more_summed}
use Rattle.nvm_audit.proofs.counts.refused.Goals as goal

pub loop-work-preserved : goal.loop-work-preserved
loop-work-preserved c =
    let i = c.loop-work.work-index in
    let its = item_in_map (λ work. work.items) c.deref-work-items.result.now c.args.done.now.items i c.work-item.result
    c.deref-work-items.ensures.value c.loop-work-test.true c.work-item.is in
    let sum = one_more_summed (λ (work : List RecordedJob). count_by (λ d. has_refusal d.statuses) work) (map (λ work. work.items) c.args.done.now.items) i
    c.work-item.result.items its in
    record {
      is = omega (arith, sum, c.refused_in_work-refused.ensures.value, c.loop-work.invariant.is);
      few = omega (arith, c.refused_in_work-refused.ensures.few, c.loop-work.invariant.few);
    }
