-- Two ports that meet, unit by unit.
use Rattle.std.specs.Prelude.{◌≡◌, ℕ, ◌<◌, ◌≤◌, List}
use Rattle.nvm_record.specs.Lists.{IsAt}
use Rattle.nvm_unit.specs.Passes.{PassState, IsProperPass}
use Rattle.nvm_unit.specs.Replies.{Meet}

-- In each unit below n the two passes of it met, and from n on they are as they were.
pub record MeetBelow (n : ℕ) (old old_other new new_other : List PassState) : Type 0 where
  pub met : (k : ℕ) (p o q r : PassState) → k < n → IsAt old k p → IsAt old_other k o → IsAt new k q
      → IsAt new_other k r → Meet p.view o.view q.view r.view × IsProperPass q.view × IsProperPass r.view
  pub rest : (k : ℕ) (p q : PassState) → n ≤ k → IsAt old k p → IsAt new k q → q ≡ p
  pub other_rest : (k : ℕ) (o r : PassState) → n ≤ k → IsAt old_other k o → IsAt new_other k r → r ≡ o
