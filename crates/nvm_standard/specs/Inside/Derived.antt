-- What the first facts give, as the checker notes it.
use Rattle.std.specs.Prelude.{◌≡◌, ℕ, ◌<◌, List, Some, slice_get}
use Rattle.nvm_standard.specs.PointView.{TableView}
use Rattle.nvm_standard.specs.declared.fact.Fact.{Fact}
use Rattle.nvm_standard.specs.declared.known.Known.{Known}
use Rattle.nvm_standard.specs.Inside.Noted.{noted}
use Rattle.nvm_standard.specs.Knowledge.{IsWithin}
use Rattle.nvm_standard.specs.Rules.{IsGiven}
use Rattle.nvm_standard.specs.Standing.{known_by}

-- Each of the first n facts is given, and what is noted follows from them.
pub record AreDerived (t : TableView) (facts : List Fact) (n : ℕ) (known : Known) : Type 0 where
  pub given : (k : ℕ) (fact : Fact) → k < n → slice_get facts k ≡ Some fact → IsGiven t (known_by t facts k) fact
  pub within : IsWithin (noted t known) (known_by t facts n)
