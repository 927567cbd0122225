-- What a seat knows after steps that found the unit in other hands: as much as before, and that its passes are no further.
use Rattle.std.proofs.Common.{◌≡◌, ◌≢◌, ℕ, ◌/◌, ◌%◌, ◌≤◌, ◌&&◌, nat_eq, List, [], ◌∷◌, length, map, subst, refl, sym, ap, ◌∙◌, arith, inl, inr, ne_eqb, Bool, false}
use mathlib.Core.Logic.{dite}
use native.Mathlib.Decide.{ℕ_discrete}
use Rattle.atomic_table.proofs.Lists.{at_map}
use Rattle.nvm_record.specs.Lists.{IsAt}
use Rattle.nvm_store.specs.HistoryEntry.{HistoryEntry}
use Rattle.nvm_unit.specs.declared.bounds.Bounds.{Bounds}
use Rattle.nvm_unit.specs.declared.views.PassView.{PassView}
use Rattle.nvm_unit.specs.Views.{looked}
use Rattle.nvm_unit.specs.Passes.{IsNotAbove}
use Rattle.nvm_unit.specs.Inside.Book.{recorded}
use Rattle.nvm_unit.specs.Inside.Plays.{Sits, Fits, holding, EachIn, HasLooked, Takes}
use Rattle.nvm_unit.specs.Inside.Holding.{HasWaited, HasMissed}

-- One pass that found k entries and then isn't above n: k isn't above n either, and it wasn't above n to begin with.
at_most : (k n : ℕ) (p : PassView) → IsNotAbove k p → IsNotAbove n (looked false k p) → (k ≤ n) × IsNotAbove n p
at_most k n p first second =
    let rise : k ≤ n = second.floor in
    (rise, record { floor = omega (arith, first.floor, rise); seen = second.seen; limit = second.limit })

-- A pass fits a history that it fits after it found k entries of it.
fits_before : (k : ℕ) (b : Bounds) (history : List HistoryEntry) (p : PassView) → IsNotAbove k p → Fits b history (looked false k p) → Fits b history p
fits_before k b history p first fits =
    let rise : k ≤ length history = fits.floor in
    record { bounds = fits.bounds; number = fits.number; seen = fits.seen; floor = omega (arith, first.floor, rise); mine = fits.mine; own = fits.own }

-- What a later step marks hides what an idle one before it left.
idle_hidden : (decides : Bool) (n k : ℕ) (ps : List PassView) → map (looked decides n) (map (looked false k) ps) ≡ map (looked decides n) ps
idle_hidden decides n k [] = refl
idle_hidden decides n k (p ∷ ps) = ap (λ (rest : List PassView). looked decides n p ∷ rest) (idle_hidden decides n k ps)

abbrev with_passes : Sits → List PassView → Sits
with_passes m ps = (record m.0 { passes = ps }, m.1)

abbrev idled : ℕ → Sits → Sits
idled k m = with_passes m (map (looked false k) m.0.passes)

-- What holds of a seat that didn't step, and of one that idled once, holds of one that waited.
waiting : (m m' : Sits) (P : Sits → Type 0) → P m → ((k : ℕ) → EachIn (IsNotAbove k) m.0.passes → P (idled k m)) → HasWaited m m' → P m'
waiting m m' P still idles (inl same) = subst P (sym same) still
waiting m m' P still idles (inr step) = subst P (sym step.1) (idles step.0 step.2)

pub waited_more : (m m' m'' : Sits) → HasWaited m m' → HasWaited m' m'' → HasWaited m m''
waited_more m m' m'' first =
    waiting m m' (λ x. HasWaited x m'' → HasWaited m m'') (λ second. second)
    (λ k before second.
    waiting (idled k m) m'' (λ x. HasWaited m x) (inr (k, refl, before))
    (λ n after. inr (
      n,
      ap (with_passes m) (idle_hidden false n k m.0.passes),
      (λ i p there. (at_most k n p (before i p there) (after i (looked false k p) (at_map (looked false k) m.0.passes i p there))).1),
    ))
    second)
    first

pub waited_takes : (m m' m'' : Sits) → HasWaited m m' → Takes m' m'' → Takes m m''
waited_takes m m' m'' =
    waiting m m' (λ x. Takes x m'' → Takes m m'') (λ taken. taken)
    (λ k before taken.
    let b = taken.0 in
    let history = taken.1 in (
      b,
      history,
      record {
        after = taken.2.after ∙ ap (λ (ps : List PassView). holding ps history (recorded b history)) (idle_hidden false (length history) k m.0.passes);
        fits = λ i p there. fits_before k b history p (before i p there) (taken.2.fits i (looked false k p) (at_map (looked false k) m.0.passes i p there));
        lawful = taken.2.lawful;
      },
    ))

pub missed_waited : (word : ℕ) (m m' : Sits) → HasMissed (λ _. false) word m m' → HasWaited m m'
missed_waited word m m' missed = inr (word / 2, missed.after, missed.later)

-- A try begins with a load, which decides only where the word is odd.
module _ (decides : ℕ → Bool) (word : ℕ) (m m' : Sits) (load : HasLooked (λ w. nat_eq (w % 2) 1 && decides w) word m m') (even : word % 2 ≢ 1) where
  is_idle : m' ≡ idled (word / 2) m
  is_idle =
      let undecided : (nat_eq (word % 2) 1 && decides word) ≡ false = ap (λ (b : Bool). b && decides word) (ne_eqb (word % 2) 1 even) in
      load.after ∙ ap (λ (b : Bool). with_passes m (map (looked b (word / 2)) m.0.passes)) undecided

  pub load_waited : HasWaited m m'
  load_waited = inr (word / 2, is_idle, load.later)

  -- Where the exchange is lost to another word, that word is odd, or has more entries than any of the passes had seen.
  pub take_missed : (found : ℕ) (m'' : Sits) → found ≢ word → HasLooked decides found m' m'' → HasMissed decides found m m''
  take_missed found m'' other lost =
      let bound : (i : ℕ) (p : PassView) → IsAt m.0.passes i p → (word / 2 ≤ found / 2) × IsNotAbove (found / 2) p =
      λ i p there. at_most (word / 2) (found / 2) p (load.later i p there)
      (subst (λ (x : Sits). EachIn (IsNotAbove (found / 2)) x.0.passes) is_idle lost.later i (looked false (word / 2) p) (at_map (looked false (word / 2)) m.0.passes i p there)) in
      record {
        after = lost.after ∙ (ap (λ (x : Sits). with_passes x (map (looked (decides found) (found / 2)) x.0.passes)) is_idle
            ∙ ap (with_passes m) (idle_hidden (decides found) (found / 2) (word / 2) m.0.passes));
        later = λ i p there. (bound i p there).1;
        newer = dite (ℕ_discrete (found % 2) 1) inl (λ free. inr (λ i p there. omega (arith, (bound i p there).0, (load.later i p there).seen, free, even, other)));
      }
