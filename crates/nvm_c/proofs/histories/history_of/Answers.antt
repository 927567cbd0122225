use Rattle.std.proofs.Common.{ℕ, ◌≤◌, List, length, sym, subst, rules}
use Rattle.nvm_record.specs.Lists.{IsAt}
use Rattle.nvm_store.specs.HistoryEntry.{HistoryEntry}
use Rattle.nvm_c.specs.Inside.Gathering.{IsEntryOf}
use Rattle.nvm_c.proofs.Places.{all_from_at, each_none, each_push}
use Rattle.nvm_c.proofs.histories.history_of.Goals as goal

pub loop-i-init : goal.loop-i-init
loop-i-init c =
    subst (λ (xs : List HistoryEntry). (k : ℕ) (entry : HistoryEntry) → IsAt xs k entry → IsEntryOf c.args.geometry c.args.jobs.now.items c.args.workers c.args.unit entry)
    (sym c.in_ok-history.ensures.items) (each_none (λ k. IsEntryOf c.args.geometry c.args.jobs.now.items c.args.workers c.args.unit))

pub loop-i-preserved : goal.loop-i-preserved
loop-i-preserved c =
    subst (λ (xs : List HistoryEntry). (k : ℕ) (entry : HistoryEntry) → IsAt xs k entry → IsEntryOf c.args.geometry c.args.jobs.now.items c.args.workers c.args.unit entry)
    (sym c.in_ok-push.ensures.items)
    (each_push (λ k. IsEntryOf c.args.geometry c.args.jobs.now.items c.args.workers c.args.unit) c.loop-i.history.items c.in_ok-entry.entry c.loop-i.invariant c.in_ok-entry.ensures)

pub returns : goal.returns
returns c =
    let few : length c.loop-i.history.items ≤ c.args.limit = search rules in
    record { few = few; each = all_from_at (IsEntryOf c.args.geometry c.args.jobs.now.items c.args.workers c.args.unit) c.loop-i.history.items c.loop-i.invariant }
