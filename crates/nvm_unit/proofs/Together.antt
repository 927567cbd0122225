-- Two passes at one seat, which takes the unit and puts it back.
use Rattle.std.proofs.Common.{◌≡◌, ℕ, zero, suc, ◌^◌, ◌≤◌, List, [], ◌∷◌, ◌++◌, length, take, drop, subst, refl, sym, ap, ◌∙◌, arith, false, Some}
use Rattle.nvm_store.specs.HistoryEntry.{HistoryEntry}
use Rattle.nvm_unit.specs.declared.bounds.Bounds.{Bounds}
use Rattle.nvm_unit.specs.declared.views.PassView.{PassView}
use Rattle.nvm_unit.specs.Inside.Book.{Recorded, recorded}
use Rattle.nvm_record.specs.Lists.{IsAt}
use Rattle.nvm_unit.specs.Passes.{Finds}
use Rattle.nvm_unit.specs.Inside.Plays.{Sits, resting, holding, Fits, HasTaken, ReturnsAs, CanReturn}
use Rattle.nvm_unit.specs.Views.{looked, shown}
use Rattle.nvm_unit.proofs.Lending.{lent, lent_same, found_is_old}
use Rattle.nvm_unit.proofs.OnePass.{finds_of}
use mathlib.Core.Option.{some-injective, some-ne-none}

-- A seat that rests, whatever passes it has.
pub rests_as : (m : Sits) (ps : List PassView) → m ≡ resting ps → m ≡ resting m.0.passes
rests_as m ps is = is ∙ sym (ap (λ (x : Sits). resting x.0.passes) is)

pub passes_are : (m : Sits) (ps : List PassView) → m ≡ resting ps → m.0.passes ≡ ps
passes_are m ps is = ap (λ (x : Sits). x.0.passes) is

-- One pass stays when the rest of it is split off.
pub first_stays : (m m' : Sits) (p : PassView) (ps : List PassView) → m ≡ resting (p ∷ ps) → m' ≡ resting (take 1 m.0.passes) → m' ≡ resting (p ∷ [])
first_stays m m' p ps is first = first ∙ ap (λ (xs : List PassView). resting (take 1 xs)) (passes_are m (p ∷ ps) is)

pub others_go : (m m' : Sits) (p : PassView) (ps : List PassView) → m ≡ resting (p ∷ ps) → m' ≡ resting (drop 1 m.0.passes) → m' ≡ resting ps
others_go m m' p ps is others = others ∙ ap (λ (xs : List PassView). resting (drop 1 xs)) (passes_are m (p ∷ ps) is)

pub both_join : (m m' m'' : Sits) (ps qs : List PassView) → m ≡ resting ps → m' ≡ resting qs → m'' ≡ resting (m.0.passes ++ m'.0.passes) → m'' ≡ resting (ps ++ qs)
both_join m m' m'' ps qs is is' both =
    both ∙ (ap (λ (xs : List PassView). resting (xs ++ m'.0.passes)) (passes_are m ps is) ∙ ap (λ (xs : List PassView). resting (ps ++ xs)) (passes_are m' qs is'))

-- two passes that found the unit with this history
abbrev pub both_found : List HistoryEntry → PassView → PassView → List PassView
both_found h p o = looked false (length h) p ∷ looked false (length h) o ∷ []

-- The two passes hold the unit, with this history.
pub record HoldTogether (b : Bounds) (h : List HistoryEntry) (p o : PassView) (m : Sits) : Type 0 where
  pub at : m ≡ holding (both_found h p o) h (recorded b h)
  pub bounds : p.bounds ≡ b
  pub other_bounds : o.bounds ≡ b
  pub finds : Finds (length h) p h
  pub other_finds : Finds (length h) o h

hold_together : (b : Bounds) (h : List HistoryEntry) (p o : PassView) (m' : Sits) → HasTaken b h (resting (p ∷ o ∷ [])) m' → HoldTogether b h p o m'
hold_together b h p o m' held =
    let fits : Fits b h p = held.fits 0 p refl in
    let other : Fits b h o = held.fits 1 o refl in
    record {
      at = held.after;
      bounds = fits.bounds;
      other_bounds = other.bounds;
      finds = finds_of b h p fits held.lawful;
      other_finds = finds_of b h o other held.lawful;
    }

pub together : (b : Bounds) (h : List HistoryEntry) (p o : PassView) (m m' : Sits) → m ≡ resting (p ∷ o ∷ []) → HasTaken b h m m' → HoldTogether b h p o m'
together b h p o m m' is held = hold_together b h p o m' (subst (λ (x : Sits). HasTaken b h x m') is held)

both_at : (p o q : PassView) (P : PassView → Type 0) (i : ℕ) → P p → P o → IsAt (p ∷ o ∷ []) i q → P q
both_at p o q P zero here other at = subst P (some-injective p q at) here
both_at p o q P (suc zero) here other at = subst P (some-injective o q at) other
both_at p o q P (suc (suc i)) here other at = absurd (some-ne-none q (sym at))

module _ (b : Bounds) (h : List HistoryEntry) (p o : PassView) (m : Sits) (a : HoldTogether b h p o m) (book : Recorded) (there : m.1 ≡ (0, Some book) ∷ []) where
  pub book_of_both : book ≡ recorded b h
  book_of_both = found_is_old m (both_found h p o) h (recorded b h) a.at book there

  at_lent : lent m book ≡ holding (both_found h p o) h (recorded b h)
  at_lent = lent_same m book there ∙ a.at

  count : length book.history ≡ length h
  count = ap (λ (x : Recorded). length x.history) book_of_both

  pub both_back : (entries : ℕ) → entries ≡ length book.history → CanReturn (λ _. false) entries (lent m book) (both_found h p o) h b
  both_back entries is =
      record {
        at = at_lent;
        count = is ∙ count;
        filled = omega arith;
        bounds = λ i q at. both_at (looked false (length h) p) (looked false (length h) o) q (λ x. x.bounds ≡ b) i a.bounds a.other_bounds at;
        alone = λ e. absurd (cc);
      }

  pub both_shown : (entries : ℕ) → entries ≡ length book.history → (m' : Sits) → ReturnsAs (λ _. false) entries (lent m book) m'
      → m' ≡ resting (shown false (length h) h p ∷ shown false (length h) h o ∷ [])
  both_shown entries is m' back = back (both_found h p o) h (recorded b h) at_lent (is ∙ count)

  pub both_few : p.bounds.limit ≤ 2 ^ 62 → length book.history ≤ 2 ^ 62
  both_few limit =
      let pages : length book.history ≡ length h = count in
      let within : length h ≤ p.bounds.limit = a.finds.lawful.within in
      let top : p.bounds.limit ≤ 2 ^ 62 = limit in
      omega arith
