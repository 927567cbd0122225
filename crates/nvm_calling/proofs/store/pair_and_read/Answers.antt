use Rattle.std.proofs.Common.{◌≡◌, ◌∙◌, ℕ, ◌+◌, List, Bool, true, false, refl, sym, subst, inr, rules}
use Rattle.nvm_record.specs.Medium.{Medium, range}
use Rattle.nvm_record.specs.Deeds.{IsFailedPair}
use Rattle.nvm_record.specs.Status.{IsSuccess}
use Rattle.nvm_record.specs.declared.status.Statuses.{Statuses}
use Rattle.nvm_record.specs.Step.{medium_after, statuses_of, compares_equal}
use Rattle.nvm_store.specs.Contents.{Contents, Holds}
use Rattle.nvm_store.specs.Operation.{pair_operation}
use Rattle.nvm_calling.proofs.store.pair_and_read.Goals as goal
use Rattle.nvm_calling.proofs.store.pair_and_read.Goals.{then-is_success+in_ok-after, else-is_success+in_ok-after-2}

-- What can't be anything else is false.
not_true : (b : Bool) → ((b ≡ false → ⊥) → ⊥) → b ≡ false
not_true true h = absurd (h (λ e. cc))
not_true false h = refl

-- A unit is named in two ways, and so is the data of a pair.
named : (u v : Contents) (size first blocks : ℕ) (a b compare write : List ℕ) (m : Medium) → u ≡ v → a ≡ compare → b ≡ write
    → Holds v (medium_after size (pair_operation first blocks a b) m)
    → Holds u (medium_after size (pair_operation first blocks compare write) m)
named u v size first blocks a b compare write m same old new holds =
    subst (λ (x : Contents). Holds x (medium_after size (pair_operation first blocks compare write) m)) (sym same)
    (subst (λ (x : List ℕ). Holds v (medium_after size (pair_operation first blocks compare x) m)) new
    (subst (λ (x : List ℕ). Holds v (medium_after size (pair_operation first blocks x b) m)) old holds))

-- What is told of a pair, whose data is named in two ways.
told_alike : (told : Statuses) (first blocks : ℕ) (a b compare write : List ℕ) (m : Medium) → a ≡ compare → b ≡ write
    → told ≡ statuses_of (pair_operation first blocks a b) m → told ≡ statuses_of (pair_operation first blocks compare write) m
told_alike told first blocks a b compare write m old new is =
    subst (λ (x : List ℕ). told ≡ statuses_of (pair_operation first blocks compare x) m) new
    (subst (λ (x : List ℕ). told ≡ statuses_of (pair_operation first blocks x b) m) old is)

-- A unit holds each medium that is the same as one that it holds.
held_alike : (u v : Contents) (m n : Medium) → u ≡ v → Holds v m → ((lba : ℕ) → n lba ≡ m lba) → Holds u n
held_alike u v m n same holds alike =
    subst (λ (x : Contents). Holds x n) (sym same) (λ i block at. alike (v.first + i) ∙ holds i block at)

pub returns-clause-step : goal.returns-clause-step
returns-clause-step c = λ m holds.
    let unit = c.args.unit.now in
    let first = c.args.first in
    let blocks = c.args.blocks in
    let compare = c.args.compare.now in
    let write = c.args.write.now in
    let op = pair_operation first blocks compare write in
    elim c.if-is_success.branch [
      | then-is_success+in_ok-after w ↦
          named c.if-is_success.after w.in_ok-after.after unit.size first blocks _ _ compare write m w.after-is c.lend.ensures c.lend-2.ensures
          (w.in_ok-after.ensures.step m holds)
      | else-is_success+in_ok-after-2 w ↦
          let told : c.judge-statuses.result ≡ statuses_of op m =
          told_alike c.judge-statuses.result first blocks _ _ compare write m c.lend.ensures c.lend-2.ensures (c.judge-statuses.ensures m holds) in
          let unsuccessful : IsSuccess (statuses_of op m) → ⊥ = λ success.
          let yes = c.is_success.ensures.1 (subst IsSuccess (sym told) success) in
          let no = w.if-is_success.false in
          search rules in
          let failed : IsFailedPair op m = not_true (compares_equal (range m first blocks) compare)
          (λ unfailed. unsuccessful ((c.act_succeeds_unless_failed_pair.ensures op m (search rules)).1 unfailed)) in
          held_alike c.if-is_success.after unit m (medium_after unit.size op m) (w.after-is ∙ w.in_ok-after-2.ensures) holds
          (λ lba. c.looks_change_nothing.ensures unit.size op m lba (inr failed))
    ]
