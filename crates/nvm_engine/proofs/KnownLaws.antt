-- What the crates below say of answers, of marks and of histories, as the law of gathered records takes it.
use Rattle.std.proofs.Common.{◌≡◌, ◌↔◌, ℕ, ◌≤◌, List, length, None, Result, Ok}
use Rattle.nvm_record.specs.declared.status.Statuses.{Statuses}
use Rattle.nvm_record.specs.Deeds.{IsAct, IsFailedPair, success_of}
use Rattle.nvm_record.specs.Lists.{IsAt}
use Rattle.nvm_record.specs.Medium.{Medium}
use Rattle.nvm_record.specs.Status.{IsSuccess}
use Rattle.nvm_record.specs.Step.{Operation, statuses_of}
use Rattle.nvm_store.specs.Answer.{told_by, read_by}
use Rattle.nvm_store.specs.HistoryEntry.{HistoryEntry}
use Rattle.nvm_store.specs.Point.{point, RestsOn}
use Rattle.nvm_unit.specs.declared.replies.Changed.{Changed}
use Rattle.nvm_unit.specs.declared.replies.Changed.TheVariants.{Done, Failed}
use Rattle.nvm_unit.specs.declared.replies.Observed.{Observed}
use Rattle.nvm_unit.specs.declared.replies.ObserveFault.{ObserveFault}
use Rattle.nvm_unit.specs.declared.views.PassView.{PassView}
use Rattle.nvm_unit.specs.Marks.{HasMarked, entries_after, mine_after, point_of_look}
use Rattle.nvm_unit.specs.Replies.{AnswersChange, AnswersLook, Makes, Observes, entry_of_job, point_of}
use Rattle.nvm_unit.specs.Views.{Begins, entries_by}

-- on what answers rest
pub record AnswerLaws : Type 0 where
  pub change_at : (changed : Changed) (p q : PassView) (job : ℕ) (op : Operation) (history : List HistoryEntry)
      → Makes changed p job op q
      → Begins q.seen history
      → (n : ℕ) × (n ≤ length history) × AnswersChange changed n p.bounds.limit op (point p.bounds.place.size history n)
  pub done_at : (n : ℕ) (p q : PassView) (job : ℕ) (op : Operation) (history : List HistoryEntry) → Makes (Done n) p job op q
      → Begins q.seen history → IsAt history n (entry_of_job p job op)
  pub failed_at : (n : ℕ) (statuses : Statuses) (p q : PassView) (job : ℕ) (op : Operation) (history : List HistoryEntry)
      → Makes (Failed n statuses) p job op q → Begins q.seen history → RestsOn p.bounds.place.size history n op statuses None
  pub look_at : (answer : Result Observed ObserveFault) (p q : PassView) (op : Operation) (history : List HistoryEntry)
      → Observes answer p op q → Begins q.seen history
      → (n : ℕ) × (n ≤ length history) × AnswersLook answer n op (point p.bounds.place.size history n)
  pub observed_at : (observed : Observed) (p q : PassView) (op : Operation) (history : List HistoryEntry)
      → Observes (Ok observed) p op q
      → Begins q.seen history
      → RestsOn p.bounds.place.size history observed.point op (told_by observed.answer) (read_by observed.answer)
  pub told_alike : (op : Operation) (m : Medium) → IsSuccess (statuses_of op m) → statuses_of op m ≡ success_of op.deed
  pub succeeds : (op : Operation) (m : Medium) → IsAct op.deed → IsSuccess (statuses_of op m) ↔ (¬ IsFailedPair op m)

-- what answers leave in a pass
pub record MarkLaws : Type 0 where
  pub change_marks : (changed : Changed) (p q : PassView) (job : ℕ) (op : Operation) → Makes changed p job op q
      → HasMarked (point_of changed) p q
  pub change_entries : (changed : Changed) (p q : PassView) (job : ℕ) (op : Operation) → Makes changed p job op q
      → length q.seen ≡ entries_after changed
  pub change_mine : (changed : Changed) (p q : PassView) (job : ℕ) (op : Operation) → Makes changed p job op q
      → q.mine ≡ mine_after changed p job op
  pub look_marks : (answer : Result Observed ObserveFault) (p q : PassView) (op : Operation) → Observes answer p op q
      → HasMarked (point_of_look answer) p q
  pub look_entries : (answer : Result Observed ObserveFault) (p q : PassView) (op : Operation) → Observes answer p op q
      → length q.seen ≡ point_of_look answer
  pub look_mine : (answer : Result Observed ObserveFault) (p q : PassView) (op : Operation) → Observes answer p op q
      → q.mine ≡ p.mine

-- how histories begin, and whose their entries are
pub record HistoryLaws : Type 0 where
  pub itself : (history : List HistoryEntry) → Begins history history
  pub further : (first second history : List HistoryEntry) → Begins first second → Begins second history → Begins first history
  pub no_longer : (seen history : List HistoryEntry) → Begins seen history → length seen ≤ length history
  pub among : (history : List HistoryEntry) (k : ℕ) (entry : HistoryEntry) → IsAt history k entry
      → (i : ℕ) × IsAt (entries_by entry.pass history) i (k, entry)
