-- A call that had to wait: its answer and its mark are those of a call made where the waiting began.
use Rattle.std.proofs.Common.{ℕ, ◌≤◌, List, subst, arith, Result, false}
use Rattle.nvm_record.specs.Step.{Operation}
use Rattle.nvm_store.specs.HistoryEntry.{HistoryEntry}
use Rattle.nvm_unit.specs.declared.replies.Changed.{Changed}
use Rattle.nvm_unit.specs.declared.replies.ObserveFault.{ObserveFault}
use Rattle.nvm_unit.specs.declared.replies.Observed.{Observed}
use Rattle.nvm_unit.specs.declared.views.PassView.{PassView}
use Rattle.nvm_unit.specs.Passes.{Finds, IsNotAbove}
use Rattle.nvm_unit.specs.Replies.{Makes, Observes, Waits}
use Rattle.nvm_unit.specs.Views.{looked}

-- What is found after n entries were, would have been found before.
before : (p : PassView) (n k : ℕ) (h : List HistoryEntry) → IsNotAbove n p → Finds k (looked false n p) h → Finds k p h
before p n k h above finds =
    let low : p.floor ≤ n = above.floor in
    let up : n ≤ k = finds.floor in
    record { count = finds.count; seen = finds.seen; floor = omega arith; mine = finds.mine; lawful = finds.lawful }

-- The pass q is p, having waited.
module _ (p q : PassView) (waits : Waits p q) where
  pub found_later : (k : ℕ) (h : List HistoryEntry) → Finds k q h → Finds k p h
  found_later k h finds = before p waits.0 k h waits.1 (subst (λ (x : PassView). Finds k x h) waits.2 finds)

  pub waits_later : (r : PassView) → Waits q r → Waits p r
  waits_later r more =
      let now = subst (λ (x : PassView). Waits x r) waits.2 more in
      let low : p.floor ≤ waits.0 = waits.1.floor in
      let up : waits.0 ≤ now.0 = now.1.floor in
      (now.0, record { floor = omega arith; seen = now.1.seen; limit = now.1.limit }, now.2)

  pub observed_later : (answer : Result Observed ObserveFault) (r : PassView) (op : Operation) → Observes answer q op r → Observes answer p op r
  observed_later answer r op observes =
      let now = subst (λ (x : PassView). Observes answer x op r) waits.2 observes in
      (now.0, before p waits.0 _ now.0 waits.1 now.1, now.2, now.3)

  pub made_later : (changed : Changed) (r : PassView) (job : ℕ) (op : Operation) → Makes changed q job op r → Makes changed p job op r
  made_later changed r job op makes =
      let now = subst (λ (x : PassView). Makes changed x job op r) waits.2 makes in
      (now.0, before p waits.0 _ now.0 waits.1 now.1, now.2, now.3)
