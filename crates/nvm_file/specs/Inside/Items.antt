-- What a loop of calls reads: each call reads an item, from where the call before it left off.
use Rattle.std.specs.Prelude.{◌≡◌, ◌⊎◌, ℕ, ◌+◌, ◌<◌, List, [], ◌∷◌, length, Result, Ok, Err, Vec}
use Rattle.std.specs.Global.{Global}
use Rattle.nvm_file.specs.declared.rest.Rest.{Rest}

module _ {T E : Type 0} (call : ℕ → Rest → Result (T × Rest) E → Type 0) where
  -- Calls for these items, of which the first is at this place, left this.
  unfoldable pub Reads : ℕ → Rest → List T → Rest → Type 0
  Reads place from [] left = from ≡ left
  Reads place from (x ∷ xs) left = (next : Rest) × call place from (Ok (x, next)) × Reads (place + 1) next xs left

  -- One of so many calls failed.
  pub record HasFailed (count : ℕ) (from : Rest) (e : E) : Type 0 where
    pub items : List T
    pub left : Rest
    pub before : Reads 0 from items left
    pub few : length items < count
    pub fails : call (length items) left (Err e)

  -- All calls gave an item, or one failed, or the fault is excused.
  abbrev pub HasRead : (E → Type 0) → ℕ → Rest → Result (Vec T Global × Rest) E → Type 0
  HasRead excused count from (Ok x) = Reads 0 from x.0.items x.1 × (length x.0.items ≡ count)
  HasRead excused count from (Err e) = HasFailed count from e ⊎ excused e
