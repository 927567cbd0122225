-- What a call leaves in its pass: a mark where it decides, none where it doesn't.
use Rattle.std.specs.Prelude.{◌≡◌, ℕ, ◌+◌, ◌/◌, ◌≤◌, List, [], ◌∷◌, ◌++◌, length, if◌then◌else◌, Ok, Err, Result}
use Rattle.nvm_record.specs.Step.{Operation}
use Rattle.nvm_store.specs.HistoryEntry.{HistoryEntry}
use Rattle.nvm_unit.specs.declared.views.PassView.{PassView}
use Rattle.nvm_unit.specs.declared.replies.Changed.{Changed}
use Rattle.nvm_unit.specs.declared.replies.Observed.{Observed}
use Rattle.nvm_unit.specs.declared.replies.ObserveFault.{ObserveFault}
use Rattle.nvm_unit.specs.declared.replies.ObserveFault.TheVariants as observe_fault
use Rattle.nvm_unit.specs.declared.replies.LookFault.{LookFault}
use Rattle.nvm_unit.specs.declared.replies.LookFault.TheVariants as look_fault
use Rattle.nvm_unit.specs.declared.replies.Busy.{Busy}
use Rattle.nvm_unit.specs.Replies.{is_done, point_of, entry_of_job}
use Rattle.nvm_unit.specs.Views.{Begins}

-- the number of entries that the pass has seen after the change
abbrev pub entries_after : Changed → ℕ
entries_after changed = if is_done changed then point_of changed + 1 else point_of changed

-- the pass's own entries after it
abbrev pub mine_after : Changed → PassView → ℕ → Operation → List (ℕ × HistoryEntry)
mine_after changed p job op =
    if is_done changed then p.mine ++ (point_of changed, entry_of_job p job op) ∷ [] else p.mine

-- the point on which the answer to a look rests
abbrev pub point_of_look : Result Observed ObserveFault → ℕ
point_of_look (Ok observed) = observed.point
point_of_look (Err (observe_fault.NoMemory point)) = point

-- the number of entries that a look's load found
abbrev pub number_of_look : Result Observed LookFault → ℕ
number_of_look (Ok observed) = observed.point
number_of_look (Err (look_fault.Newer count)) = count
number_of_look (Err (look_fault.NoMemory point)) = point

-- the number of entries that the deciding step of one try found
abbrev pub number_of_try : Result Changed Busy → ℕ
number_of_try (Ok changed) = point_of changed
number_of_try (Err busy) = busy.word / 2

-- The pass has one mark more, n, which isn't below anything that it had found or seen.
pub record HasMarked (n : ℕ) (p q : PassView) : Type 0 where
  pub marks : q.marks ≡ p.marks ++ n ∷ []
  pub floor : q.floor ≡ n
  pub above : p.floor ≤ n
  pub seen : Begins p.seen q.seen
  pub within : length p.seen ≤ n

-- The pass has its old marks and entries, has seen no less, and its floor is what it has seen.
pub record HasKeptMarks (p q : PassView) : Type 0 where
  pub marks : q.marks ≡ p.marks
  pub mine : q.mine ≡ p.mine
  pub floor : q.floor ≡ length q.seen
  pub above : p.floor ≤ q.floor
  pub seen : Begins p.seen q.seen
