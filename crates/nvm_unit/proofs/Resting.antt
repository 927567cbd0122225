-- Answers, and the points on which they rest.
use Rattle.std.proofs.Common.{◌≡◌, ℕ, ◌≤◌, List, [], ◌∷◌, ◌++◌, length, take, subst, refl, sym, ap, ◌∙◌, arith, append_assoc, None, Result, Ok}
use Rattle.std.proofs.Math.Seq.{take-append_seam}
use Rattle.std.proofs.lemmas.List.{length-append}
use Rattle.nvm_record.specs.declared.block.Block.{Block}
use Rattle.nvm_record.specs.declared.status.Statuses.{Statuses}
use Rattle.nvm_record.specs.Medium.{Medium}
use Rattle.nvm_record.specs.Step.{Deed, writes, zeroes, uncorrectable, reads, compares, pairs, deallocates, Operation, range_of, statuses_of, data_of, data_on}
use Rattle.nvm_store.specs.Answer.{told_by, read_by}
use Rattle.nvm_store.specs.History.{replay_of}
use Rattle.nvm_store.specs.HistoryEntry.{HistoryEntry}
use Rattle.nvm_record.specs.Deeds.{FailsOn}
use Rattle.nvm_store.specs.Point.{point, RestsOn}
use Rattle.nvm_unit.specs.declared.replies.Changed.{Changed}
use Rattle.nvm_unit.specs.declared.replies.Changed.TheVariants.{Done, Failed, NoMemory, Full}
use Rattle.nvm_unit.specs.declared.replies.Observed.{Observed}
use Rattle.nvm_unit.specs.declared.replies.ObserveFault.{ObserveFault}
use Rattle.nvm_unit.specs.declared.views.PassView.{PassView}
use Rattle.nvm_record.specs.Lists.{IsAt}
use Rattle.nvm_unit.specs.Replies.{AnswersChange, AnswersLook, Makes, Observes, pass_after, entry_of_job}
use Rattle.nvm_unit.specs.Views.{Begins}
use Rattle.atomic_table.proofs.Lists.{at_longer, at_last}

-- The replay of what a history begins with is a point of it.
point_at : (size : ℕ) (begin history : List HistoryEntry) → Begins begin history → point size history (length begin) ≡ replay_of size begin
point_at size begin history begins =
    ap (λ (x : List HistoryEntry). replay_of size (take (length begin) x)) begins.1 ∙ ap (replay_of size) (take-append_seam begin begins.0)

begins_below : (begin history : List HistoryEntry) → Begins begin history → length begin ≤ length history
begins_below begin history begins = omega (arith, ap length begins.1, length-append begin begins.0)

begins_front : (begin more history : List HistoryEntry) → Begins (begin ++ more) history → Begins begin history
begins_front begin more history begins = (more ++ begins.0, begins.1 ∙ append_assoc begin more begins.0)

-- What a step found begins what its pass has seen then.
found_begins : (changed : Changed) (found : List HistoryEntry) (entry : HistoryEntry) (p q : PassView) (history : List HistoryEntry) → q ≡ pass_after changed found entry p
    → Begins q.seen history → Begins found history
found_begins (Done n) found entry p q history is begins =
    begins_front found (entry ∷ []) history (subst (λ (x : PassView). Begins x.seen history) is begins)
found_begins (Failed n statuses) found entry p q history is begins = subst (λ (x : PassView). Begins x.seen history) is begins
found_begins (NoMemory n) found entry p q history is begins = subst (λ (x : PassView). Begins x.seen history) is begins
found_begins (Full n) found entry p q history is begins = subst (λ (x : PassView). Begins x.seen history) is begins

pub change_rests : (changed : Changed) (p q : PassView) (job : ℕ) (op : Operation) (history : List HistoryEntry) → Makes changed p job op q → Begins q.seen history
    → (n : ℕ) × (n ≤ length history) × AnswersChange changed n p.bounds.limit op (point p.bounds.place.size history n)
change_rests changed p q job op history makes begins =
    let found = makes.0 in
    let front = found_begins changed found (entry_of_job p job op) p q history makes.3 begins in (
      length found,
      begins_below found history front,
      subst (λ (x : Medium). AnswersChange changed (length found) p.bounds.limit op x) (sym (point_at p.bounds.place.size found history front)) makes.2,
    )

pub done_stands : (n : ℕ) (p q : PassView) (job : ℕ) (op : Operation) (history : List HistoryEntry) → Makes (Done n) p job op q → Begins q.seen history
    → IsAt history n (entry_of_job p job op)
done_stands n p q job op history makes begins =
    let found = makes.0 in
    let entry = entry_of_job p job op in
    let seen : Begins (found ++ entry ∷ []) history = subst (λ (x : PassView). Begins x.seen history) makes.3 begins in
    let last : IsAt (found ++ entry ∷ []) n entry = at_last found entry n (sym makes.2.0) in
    subst (λ (x : List HistoryEntry). IsAt x n entry) (sym seen.1) (at_longer (found ++ entry ∷ []) seen.0 n entry last)

-- A pair reads nothing.
fails_without_data : (blocks : List Block) (deed : Deed) → FailsOn blocks deed → data_on blocks deed ≡ None
fails_without_data blocks (writes payload) fails = absurd fails
fails_without_data blocks zeroes fails = absurd fails
fails_without_data blocks uncorrectable fails = absurd fails
fails_without_data blocks reads fails = absurd fails
fails_without_data blocks (compares payload) fails = absurd fails
fails_without_data blocks (pairs compare write) fails = refl
fails_without_data blocks (deallocates ranges) fails = absurd fails

pub failed_rests : (n : ℕ) (statuses : Statuses) (p q : PassView) (job : ℕ) (op : Operation) (history : List HistoryEntry) → Makes (Failed n statuses) p job op q → Begins q.seen history
    → RestsOn p.bounds.place.size history n op statuses None
failed_rests n statuses p q job op history makes begins =
    let rests = change_rests (Failed n statuses) p q job op history makes begins in
    let answers = rests.2 in
    let m : Medium = point p.bounds.place.size history rests.0 in
    let same : rests.0 ≡ n = sym answers.0 in
    let within : rests.0 ≤ length history = rests.1 in
    record {
      within = omega arith;
      statuses = answers.2 ∙ ap (λ (k : ℕ). statuses_of op (point p.bounds.place.size history k)) same;
      payload = sym (fails_without_data (range_of op m) op.deed answers.1) ∙ ap (λ (k : ℕ). data_of op (point p.bounds.place.size history k)) same;
    }

pub look_rests : (answer : Result Observed ObserveFault) (p q : PassView) (op : Operation) (history : List HistoryEntry) → Observes answer p op q → Begins q.seen history
    → (n : ℕ) × (n ≤ length history) × AnswersLook answer n op (point p.bounds.place.size history n)
look_rests answer p q op history observes begins =
    let found = observes.0 in
    let front : Begins found history = subst (λ (x : PassView). Begins x.seen history) observes.3 begins in (
      length found,
      begins_below found history front,
      subst (λ (x : Medium). AnswersLook answer (length found) op x) (sym (point_at p.bounds.place.size found history front)) observes.2,
    )

pub observed_rests : (observed : Observed) (p q : PassView) (op : Operation) (history : List HistoryEntry) → Observes (Ok observed) p op q → Begins q.seen history
    → RestsOn p.bounds.place.size history observed.point op (told_by observed.answer) (read_by observed.answer)
observed_rests observed p q op history observes begins =
    let rests = look_rests (Ok observed) p q op history observes begins in
    let answers = rests.2 in
    let same : rests.0 ≡ observed.point = sym answers.0 in
    let within : rests.0 ≤ length history = rests.1 in
    let told = answers.1 in
    record {
      within = omega arith;
      statuses = told.0 ∙ ap (λ (k : ℕ). statuses_of op (point p.bounds.place.size history k)) same;
      payload = told.1 ∙ ap (λ (k : ℕ). data_of op (point p.bounds.place.size history k)) same;
    }
