use Rattle.std.proofs.Common.{◌<◌, ap, arith, length, map, length-set, refl, rules, ◌∙◌}
use Rattle.nvm_store.specs.HistoryEntry.{HistoryEntry}
use Rattle.nvm_explain.proofs.Seen.{mark_step, none_seen, seen_step}
use Rattle.nvm_explain.proofs.unit_counts.workers_in.Goals as goal
use Rattle.nvm_explain.proofs.unit_counts.workers_in.Goals.{then-not-seen-worker, else-not-seen-worker}

pub loop-entry-init : goal.loop-entry-init
loop-entry-init c =
    (omega (arith, ap length (none_seen 64 (map (λ (entry : HistoryEntry). entry.pass) c.args.history.now))), search rules, refl)

pub loop-entry-preserved : goal.loop-entry-preserved
loop-entry-preserved c =
    let history = c.args.history.now in
    let k = c.loop-entry.entry-index in
    let low : k < length history = search rules in
    let seen = c.loop-entry.seen in
    let worker = c.from-worker.result in
    let before = c.loop-entry.invariant in
    let entry = c.entry-item.result in
    let is = c.from-worker.ensures ∙ (ap (λ (e : HistoryEntry). e.pass) c.entry.view_is ∙ ap (λ (e : HistoryEntry). e.pass) c.entry-item.is) in
    elim c.if-not-seen-worker.branch [
      | then-not-seen-worker w ↦
          let next = mark_step seen history k worker entry low is c.requires before.2 w.if-not-seen-worker.true in
          rw (w.seen-is, w.count-is) (omega (arith, next, before.0), omega (arith, before.1), rw length-set before.2)
      | else-not-seen-worker w ↦
          let same = ap length (seen_step seen history k worker entry low is w.if-not-seen-worker.false) in
          rw (w.seen-is, w.count-is) (omega (arith, same, before.0), omega (arith, before.1), before.2)
    ]
