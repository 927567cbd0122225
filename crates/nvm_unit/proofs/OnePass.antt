-- One pass takes its unit, fails to, and gives it back: what the seat shows, said of the pass.
use Rattle.std.proofs.Common.{◌≡◌, ◌⊎◌, ℕ, ◌+◌, ◌*◌, ◌/◌, ◌%◌, ◌^◌, ◌<◌, ◌≤◌, List, [], ◌∷◌, length, map, subst, refl, sym, ap, ◌∙◌, arith, inl, inr, Bool, false, Some, Result, Ok, Err, OnOk, IfErr}
use Rattle.nvm_store.specs.HistoryEntry.{HistoryEntry}
use Rattle.nvm_unit.specs.declared.bounds.Bounds.{Bounds}
use Rattle.nvm_unit.specs.declared.pass.Parts.{Parts}
use Rattle.nvm_unit.specs.declared.views.PassView.{PassView}
use Rattle.nvm_unit.specs.Inside.Book.{Recorded, recorded}
use Rattle.nvm_unit.specs.Inside.Holding.{HasMissed}
use Rattle.nvm_unit.specs.Inside.Parts.{seated, held_history, IsFree, IsWhole, HasUnit, FailsAt, Recalls}
use Rattle.nvm_unit.specs.Inside.Plays.{Sits, EachIn, Fits, HasTaken, Takes, ReturnsAs, CanReturn, resting, holding}
use Rattle.nvm_unit.specs.Passes.{UnitName, Finds, IsHistoryOf, IsNotAbove, IsProperPass}
use Rattle.nvm_unit.specs.Replies.{Waits}
use Rattle.nvm_unit.specs.Views.{looked, shown}
use Rattle.nvm_unit.proofs.Groups.{at_single}
use Rattle.nvm_unit.proofs.Histories.{begins_length, rise_after}
use Rattle.nvm_unit.proofs.Lending.{lent, lent_same, found_is_old}

-- What a unit that was taken, or a word, is taken for.
pub of_taken : (r : Result (Unit {0}) ℕ) (P Q : Type 0) → (P → Q) → OnOk r P → OnOk r Q
of_taken (Ok x) P Q so is = so is
of_taken (Err word) P Q so is = tt

pub of_word : (r : Result (Unit {0}) ℕ) (P Q : ℕ → Type 0) → ((word : ℕ) → P word → Q word) → IfErr r P → IfErr r Q
of_word (Ok x) P Q so is = tt
of_word (Err word) P Q so is = so word is

pub finds_of : (b : Bounds) (h : List HistoryEntry) (p : PassView) → Fits b h p → IsHistoryOf b h → Finds (length h) p h
finds_of b h p fits lawful =
    record {
      count = refl;
      seen = fits.seen;
      floor = fits.floor;
      mine = fits.mine;
      lawful = subst (λ (x : Bounds). IsHistoryOf x h) (sym fits.bounds) lawful;
    }

-- A pass stays proper at each step.
pub proper_looked : (decides : Bool) (n : ℕ) (p : PassView) → IsProperPass p → p.floor ≤ n → IsProperPass (looked decides n p)
proper_looked decides n p proper up = record { seen = proper.seen; own = proper.own; marks = rise_after decides p.marks p.floor n proper.marks up }

pub proper_shown : (decides : Bool) (n : ℕ) (p : PassView) (h : List HistoryEntry) → IsProperPass p → Finds n p h → IsProperPass (shown decides n h p)
proper_shown decides n p h proper finds = record { seen = finds.lawful; own = finds.mine; marks = rise_after decides p.marks p.floor n proper.marks finds.floor }

-- What makes the parts a pass again.
pub whole : {K : Type 0} (parts : Parts K) (p : PassView) → parts.token.seat.me ≡ resting (p ∷ []) → parts.number ≡ p.number → Recalls parts.snapshot p → IsProperPass p → IsWhole parts
whole parts p alone numbered recalls proper =
    let same : p ≡ seated parts.token.seat.me = sym (ap seated alone) in
    record {
      alone = alone ∙ ap (λ (x : PassView). resting (x ∷ [])) same;
      numbered = numbered ∙ ap (λ (x : PassView). x.number) same;
      recalls = subst (Recalls parts.snapshot) same recalls;
      proper = subst IsProperPass same proper;
    }

-- A step that doesn't take the unit leaves it free to the pass.
pub stays_free : (unit : UnitName) (decides : Bool) (n : ℕ) (m m' : Sits) → IsFree unit m → m' ≡ (record m.0 { passes = map (looked decides n) m.0.passes }, m.1)
    → EachIn (IsNotAbove n) m.0.passes → IsFree unit m' × IsNotAbove n (seated m) × (seated m' ≡ looked decides n (seated m))
stays_free unit decides n m m' free after each =
    let p = seated m in
    let above : IsNotAbove n p = subst (λ (x : Sits). EachIn (IsNotAbove n) x.0.passes) free.alone each 0 p refl in
    let here : m' ≡ resting (looked decides n p ∷ []) =
    after ∙ ap (λ (x : Sits). let y : Sits = (record x.0 { passes = map (looked decides n) x.0.passes }, x.1) in y) free.alone in (
      subst (IsFree unit) (sym here) (record { alone = refl; bounds = free.bounds; proper = proper_looked decides n p free.proper above.floor }),
      above,
      ap seated here,
    )

pub fails : (unit : UnitName) (decides : ℕ → Bool) (word : ℕ) (m m' : Sits) → IsFree unit m → HasMissed decides word m m'
    → IsFree unit m' × FailsAt word decides (seated m) (seated m')
fails unit decides word m m' free missed =
    let stays = stays_free unit (decides word) (word / 2) m m' free missed.after missed.later in
    (stays.0, record { found = stays.1; after = stays.2; newer = newer missed.newer }) where
      newer : (word % 2 ≡ 1) ⊎ EachIn (λ (x : PassView). length x.seen < word / 2) m.0.passes → (word % 2 ≡ 1) ⊎ (length (seated m).seen < word / 2)
      newer (inl odd) = inl odd
      newer (inr each) = inr (subst (λ (x : Sits). EachIn (λ (y : PassView). length y.seen < word / 2) x.0.passes) free.alone each 0 (seated m) refl)

-- The seat of the pass p has the unit, whose history is h.
takes_here : (unit : UnitName) (h : List HistoryEntry) (p : PassView) → p.bounds ≡ unit.bounds → IsProperPass p → Fits unit.bounds h p → IsHistoryOf unit.bounds h
    → HasUnit unit (holding (looked false (length h) p ∷ []) h (recorded unit.bounds h))
takes_here unit h p bounds proper fits lawful =
    let finds = finds_of unit.bounds h p fits lawful in
    record {
      alone = refl;
      bounds = bounds;
      below = fits.number;
      finds = record { count = refl; seen = finds.seen; floor = (omega arith); mine = finds.mine; lawful = finds.lawful };
      proper = proper_looked false (length h) p proper fits.floor;
    }

pub takes : (unit : UnitName) (m m' : Sits) → IsFree unit m → Takes m m' → HasUnit unit m' × Waits (seated m) (seated m')
takes unit m m' free taken =
    let p = seated m in
    let h = taken.1 in
    let alone : HasTaken taken.0 h (resting (p ∷ [])) m' = subst (λ (x : Sits). HasTaken taken.0 h x m') free.alone taken.2 in
    let ours : taken.0 ≡ unit.bounds = sym (alone.fits 0 p refl).bounds ∙ free.bounds in
    let here : HasTaken unit.bounds h (resting (p ∷ [])) m' = subst (λ (x : Bounds). HasTaken x h (resting (p ∷ [])) m') ours alone in
    let fits : Fits unit.bounds h p = here.fits 0 p refl in
    let within : length h ≤ p.bounds.limit = subst (λ (x : Bounds). length h ≤ x.limit) (sym free.bounds) here.lawful.within in (
      subst (HasUnit unit) (sym here.after) (takes_here unit h p free.bounds free.proper fits here.lawful),
      (length h, record { floor = fits.floor; seen = begins_length p.seen h fits.seen; limit = within }, ap seated here.after),
    )

module _ (unit : UnitName) (m : Sits) (has : HasUnit unit m) where
  -- A history's length fits 62 bits.
  pub is_short : unit.bounds.limit ≤ 2 ^ 62 → length (held_history m) ≤ 2 ^ 62
  is_short limit =
      let within : length (held_history m) ≤ (seated m).bounds.limit = has.finds.lawful.within in
      let same : (seated m).bounds.limit ≡ unit.bounds.limit = ap (λ (x : Bounds). x.limit) has.bounds in
      let most : unit.bounds.limit ≤ 2 ^ 62 = limit in
      omega arith

  -- The book that is lent is the unit's, and nothing changes before it does.
  module _ (book : Recorded) (there : m.1 ≡ (0, Some book) ∷ []) where
    pub book_of_unit : book ≡ recorded unit.bounds (held_history m)
    book_of_unit = found_is_old m (seated m ∷ []) (held_history m) (recorded unit.bounds (held_history m)) has.alone book there

    pub still_has : HasUnit unit (lent m book)
    still_has = subst (HasUnit unit) (sym (lent_same m book there)) has

  pub can_return : (decides : ℕ → Bool) (entries : ℕ) → entries ≡ length (held_history m) → CanReturn decides entries m (seated m ∷ []) (held_history m) unit.bounds
  can_return decides entries count =
      record {
        at = has.alone;
        count = count;
        filled = omega arith;
        bounds = λ i q at. ap (λ (x : PassView). x.bounds) (sym (at_single (seated m) q i at)) ∙ has.bounds;
        alone = λ _. refl;
      }

  pub gives_back : (decides : ℕ → Bool) (entries : ℕ) (m' : Sits) → entries ≡ length (held_history m) → ReturnsAs decides entries m m'
      → IsFree unit m' × (seated m' ≡ shown (decides (2 * entries + 1)) entries (held_history m) (seated m))
  gives_back decides entries m' count back =
      let h = held_history m in
      let here = back (seated m ∷ []) h (recorded unit.bounds h) has.alone count in (
        subst (IsFree unit) (sym here)
            (record { alone = refl; bounds = has.bounds; proper = proper_shown (decides (2 * length h + 1)) (length h) (seated m) h has.proper has.finds }),
        ap seated here ∙ ap (λ (n : ℕ). shown (decides (2 * n + 1)) n h (seated m)) (sym count),
      )
