-- What the seats of passes carry.
use Rattle.std.specs.Prelude.{◌≡◌, ℕ, List, [], ◌∷◌, length}
use Rattle.nvm_unit.specs.declared.views.PassView.{PassView}
use Rattle.nvm_record.specs.Lists.{IsAt}
use Rattle.nvm_unit.specs.Views.{newcomer}

-- the view for a seat without a pass
abbrev pub nobody : PassView
nobody = newcomer (record { place = record { first = 0; blocks = 0; size = 0 }; passes = 0; limit = 0 }) 0

-- The pass of a seat that has one. A pass's seat always has, so `nobody` stands for nothing.
abbrev pub only : List PassView → PassView
only [] = nobody
only (p ∷ ps) = p

-- The views are those of all passes, each at the place of its number.
pub record AreAllViews (n : ℕ) (views : List PassView) : Type 0 where
  pub count : length views ≡ n
  pub each : (i : ℕ) (view : PassView) → IsAt views i view → view.number ≡ i
