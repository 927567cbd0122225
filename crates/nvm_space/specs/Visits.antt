-- What a call does to what the passes of a port have seen (own).
use Rattle.std.specs.Prelude.{◌≡◌, ℕ, List, slice_set}
use Rattle.nvm_record.specs.Lists.{IsAt}
use Rattle.nvm_unit.specs.declared.views.PassView.{PassView}
use Rattle.nvm_unit.specs.Passes.{IsProperPass}
use Rattle.nvm_unit.specs.Replies.{Meet}

-- The pass of the unit k became another one, so; the other passes are as they were.
pub record BecomesAt (k : ℕ) (So : PassView → PassView → Type 0) (old new : List PassView) : Type 0 where
  pub before : PassView
  pub after : PassView
  pub was : IsAt old k before
  pub so : So before after
  pub proper : IsProperPass after
  pub others : new ≡ slice_set old k after

-- In each unit the two passes of it met.
abbrev pub MeetInEach : List PassView → List PassView → List PassView → List PassView → Type 0
MeetInEach old old_other new new_other =
    (k : ℕ) (p o q r : PassView) → IsAt old k p → IsAt old_other k o → IsAt new k q → IsAt new_other k r
    → Meet p o q r × IsProperPass q × IsProperPass r
