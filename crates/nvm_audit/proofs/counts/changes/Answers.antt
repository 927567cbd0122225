use Rattle.std.proofs.Common.{List, length, map, arith}
use Rattle.nvm_store.specs.HistoryEntry.{HistoryEntry}
use Rattle.nvm_audit.specs.Inside.Occurrences.{most_entries}
use Rattle.nvm_audit.proofs.Counting.{item_at, item_in_map, one_more_summed, short_there}
use Rattle.nvm_audit.proofs.counts.changes.Goals as goal

pub loop-history-preserved : goal.loop-history-preserved
loop-history-preserved c =
    let units = c.args.units.now.items in
    let i = c.loop-history.history-index in
    let lent = c.deref-history-items.ensures.value in
    let there = item_at c.deref-history-items.result.now units i c.history-item.result lent c.loop-history-test.true c.history-item.is in
    let its = item_in_map (λ history. history.items) c.deref-history-items.result.now units i c.history-item.result lent c.loop-history-test.true
    c.history-item.is in
    let sum = one_more_summed (λ (history : List HistoryEntry). length history) (map (λ history. history.items) units) i c.history-item.result.items its in
    let few = short_there (λ history. history.items) most_entries units i c.history-item.result c.requires.few there in
    record {
      is = omega (arith, sum, c.len.ensures, c.loop-history.invariant.is);
      few = omega (arith, few, c.len.ensures, c.loop-history.invariant.few);
    }
