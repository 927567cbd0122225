use Rattle.std.proofs.Common.{◌+◌, ◌<◌, ap, drop, length, map, rules, ◌∙◌}
use Rattle.nvm_audit.specs.RecordedJob.{RecordedJob}
use Rattle.nvm_explain.specs.Ended.{all_statuses}
use Rattle.nvm_explain.proofs.Telling.{met_step}
use Rattle.nvm_explain.proofs.ended.different_statuses.Goals as goal

pub loop-it-preserved : goal.loop-it-preserved
loop-it-preserved c =
    let items = c.deref-it-items.result.now in
    let k = c.loop-it.it-index in
    let here : k < length items = search rules in
    let others = all_statuses (map (λ work. work.items) (drop (c.loop-work.work-index + 1) c.args.done.now)) in
    let step = met_step c.loop-it.met.items others items k c.it-item.result here c.it-item.is in
    rw (c.in_ok-meet.ensures, ap (λ (d : RecordedJob). d.statuses) c.it.view_is) (step ∙ c.loop-it.invariant)
