-- Numbers of places, each of which keeps one owner.
use Rattle.std.proofs.Common.{◌≡◌, ◌⊎◌, ℕ, zero, suc, ◌-◌, ◌^◌, ◌<◌, ◌≤◌, refl, sym, ap, ◌∙◌, subst, arith, inl, inr}
use Rattle.std.proofs.Common.{List, [], ◌∷◌, ◌++◌, length, get_or, take, replicate}
use mathlib.Core.Option.{some-injective, some-ne-none}
use Rattle.std.proofs.Math.ListN.{set}
use Rattle.std.proofs.lemmas.Bool.Decides.{eqb_tells}
use Rattle.std.proofs.lemmas.List.{length-append, length-replicate, length-set, length-take-le}
use Rattle.nvm_record.specs.Lists.{IsAt}
use Rattle.nvm_store.specs.Inside.Gathered.{named}
use Rattle.nvm_store.specs.Inside.Pages.{AreOwners, IsRemoved}
use Rattle.nvm_store.proofs.AtLemmas.{at_push, at_read}
use Rattle.nvm_store.proofs.Gathering.{at_set_back, named_none, named_set}
use Rattle.nvm_store.proofs.NumberTables.{at_copies}
use Rattle.nvm_store.proofs.Rewrites.{at_append_left, at_below, at_end, at_set_other, at_set_same, at_take, at_take_back}

-- A place has one number.
pub one_at : (numbers : List ℕ) (i x y : ℕ) → IsAt numbers i x → IsAt numbers i y → x ≡ y
one_at numbers i x y a b = some-injective x y (sym a ∙ b)

-- At first no place has a number.
pub first_owners : (n : ℕ) → n < 2 ^ 32 → AreOwners (0 ∷ []) (replicate n 0)
first_owners n few = record {
  count = ap suc (sym (named_none n));
  each = λ place m at some. let lt = at_below (0 ∷ []) m place at in absurd (let lt' : m < 1 = lt in omega (arith, lt', some));
  owned = λ place m at some. let none = at_copies n 0 place m at in absurd (omega (arith, none, some));
  few = let len = length-replicate {A = ℕ} n 0 in omega (arith, len, few);
}

-- A place that has no number gets the next one.
pub one_owner_more : (owners numbers : List ℕ) (place : ℕ) → AreOwners owners numbers → IsAt numbers place 0
    → AreOwners (owners ++ place ∷ []) (set numbers place (suc (named numbers)))
one_owner_more owners numbers place are none =
    let next = suc (named numbers) in
    let count = are.count in
    record {
      count =
          let len = length-append owners (place ∷ []) in
          let now = named_set numbers place (named numbers) none in
          let one : length (place ∷ []) ≡ 1 = refl in
          omega (arith, len, one, count, now);
      each =
          λ p n at some.
          elim (at_push owners place n p at) [
            | inl old ↦
                let before = are.each p n old some in
                let off : p ≡ place → ⊥ =
                λ e.
                let here : IsAt numbers place n = subst (λ (q : ℕ). IsAt numbers q n) e before in
                let zero_there = one_at numbers place n 0 here none in
                absurd (omega (arith, zero_there, some)) in
                at_set_other numbers place p next n off before
            | inr last ↦
                let same : n ≡ next = last.0 ∙ count in
                subst (λ (q : ℕ). IsAt (set numbers place next) q n) (sym last.1)
                (subst (λ (m : ℕ). IsAt (set numbers place next) place m) (sym same) (at_set_same numbers place next (at_below numbers place 0 none)))
          ];
      owned =
          λ p n at some.
          elim (at_set_back numbers place p next n at) [
            | inl here ↦
                let same : length owners ≡ n = count ∙ sym here.1 in
                subst (λ (q : ℕ). IsAt (owners ++ place ∷ []) n q) (sym here.0)
                (subst (λ (m : ℕ). IsAt (owners ++ place ∷ []) m place) same (at_end owners [] place))
            | inr other ↦ at_append_left owners (place ∷ []) n p (are.owned p n other.1 some)
          ];
      few = let len = length-set numbers place next in let few = are.few in omega (arith, len, few);
    }

-- One number less is named.
named_cleared : (numbers : List ℕ) (k n : ℕ) → IsAt numbers k n → 0 < n → named numbers ≡ suc (named (set numbers k 0))
named_cleared [] k n is some = absurd (some-ne-none n (sym is))
named_cleared (zero ∷ numbers) zero n is some = let e : 0 ≡ n = some-injective 0 n is in absurd (omega (arith, e, some))
named_cleared (suc m ∷ numbers) zero n is some = refl
named_cleared (zero ∷ numbers) (suc k) n is some = named_cleared numbers k n is some
named_cleared (suc m ∷ numbers) (suc k) n is some = ap suc (named_cleared numbers k n is some)

-- Another number in place of one leaves as many.
named_other : (numbers : List ℕ) (k n x : ℕ) → IsAt numbers k n → 0 < n → 0 < x → named (set numbers k x) ≡ named numbers
named_other [] k n x is some more = refl
named_other (m ∷ numbers) zero n zero is some more = absurd (omega (arith, more))
named_other (zero ∷ numbers) zero n (suc x) is some more = let e : 0 ≡ n = some-injective 0 n is in absurd (omega (arith, e, some))
named_other (suc m ∷ numbers) zero n (suc x) is some more = refl
named_other (zero ∷ numbers) (suc k) n x is some more = named_other numbers k n x is some more
named_other (suc m ∷ numbers) (suc k) n x is some more = ap suc (named_other numbers k n x is some more)

-- Whose number the last one is, and what is so before it takes that of another place.
pub record IsLast (owners numbers : List ℕ) (place n owner : ℕ) : Type 0 where
  pub are : AreOwners owners numbers
  pub at : IsAt numbers place n
  pub some : 0 < n
  pub owner_is : IsAt owners (named numbers) owner

pub last_is : (owners numbers : List ℕ) (place n len owner : ℕ) → AreOwners owners numbers → IsAt numbers place n → 0 < n → len ≡ length owners
    → owner ≡ get_or owners (len - 1) owner → IsLast owners numbers place n owner
last_is owners numbers place n len owner are at some is read =
    let count = are.count in
    let last : len - 1 ≡ named numbers = omega (arith, is, count) in
    let there = at_read owners (len - 1) owner (omega (arith, is, count)) in
    let there' : IsAt owners (len - 1) owner = subst (λ (p : ℕ). IsAt owners (len - 1) p) (sym read) there in
    record { are = are; at = at; some = some; owner_is = subst (λ (k : ℕ). IsAt owners k owner) last there' }

module _ (owners numbers : List ℕ) (place n owner : ℕ) (is : IsLast owners numbers place n owner) where
  -- the place is the owner of its number
  pub owns : IsAt owners n place
  owns = is.are.owned place n is.at is.some

  pub number_low : n ≤ named numbers
  number_low = let lt = at_below owners n place owns in let count = is.are.count in omega (arith, lt, count)

  pub some_named : 0 < named numbers
  some_named = let le = number_low in let some = is.some in omega (arith, le, some)

  -- the last owner has the last number
  pub last_at : IsAt numbers owner (named numbers)
  last_at = is.are.each owner (named numbers) is.owner_is some_named

  -- the last number's place gives it up for this one
  abbrev between : List ℕ
  between = set numbers owner n

  between_at : IsAt between place n
  between_at =
      elim (eqb_tells place owner) [
        | inl same ↦
            subst (λ (p : ℕ). IsAt between p n) (sym same.1) (at_set_same numbers owner n (at_below numbers owner (named numbers) last_at))
        | inr other ↦ at_set_other numbers owner place n n other.1 is.at
      ]

  count_less : named numbers ≡ suc (named (set between place 0))
  count_less = sym (named_other numbers owner (named numbers) n last_at some_named is.some) ∙ named_cleared between place n between_at is.some

  length_less : length (set between place 0) ≡ length numbers
  length_less = length-set between place 0 ∙ length-set numbers owner n

  -- one that isn't the last, and isn't at the place, stays
  stays : (i m : ℕ) → IsAt numbers i m → (m ≡ named numbers → ⊥) → (i ≡ place → ⊥) → IsAt (set between place 0) i m
  stays i m at not_last off =
      let off_owner : i ≡ owner → ⊥ =
      λ e. not_last (one_at numbers owner m (named numbers) (subst (λ (p : ℕ). IsAt numbers p m) e at) last_at) in
      at_set_other between place i 0 m off (at_set_other numbers owner i n m off_owner at)

  -- the last one's owner has this number now
  moves : (owner ≡ place → ⊥) → IsAt (set between place 0) owner n
  moves off = at_set_other between place owner 0 n off (at_set_same numbers owner n (at_below numbers owner (named numbers) last_at))

  pub is_removed : IsRemoved place n numbers (set (set numbers owner n) place 0)
  is_removed = record {
    len = length_less;
    count = count_less;
    none = at_set_same between place 0 (at_below between place n between_at);
    moved =
        λ i at.
        let same : owner ≡ i = one_at owners (named numbers) owner i is.owner_is (is.are.owned i (named numbers) at some_named) in
        elim (eqb_tells i place) [
          | inl here ↦ inl here.1
          | inr other ↦ inr (subst (λ (p : ℕ). IsAt (set between place 0) p n) same (moves (λ e. other.1 (sym same ∙ e))))
        ];
    others =
        λ i m at.
        elim (eqb_tells m (named numbers)) [
          | inl last ↦ inl last.1
          | inr low ↦
              inr
              (elim (eqb_tells i place) [
                | inl here ↦ inl here.1
                | inr other ↦ inr (stays i m at low.1 other.1)
              ])
        ];
  }

  pub owners_left : AreOwners (take (named numbers) (set owners n owner)) (set (set numbers owner n) place 0)
  owners_left =
      let last = named numbers in
      let count = is.are.count in
      let low = number_low in
      let owners' = set owners n owner in
      let same : length owners' ≡ length owners = length-set owners n owner in
      record {
        count = length-take-le last owners' (omega (arith, same, count)) ∙ count_less;
        each =
            λ p m at some.
            let back = at_take_back last owners' m p at in
            let lt = back.1 in
            elim (at_set_back owners n m owner p back.0) [
              | inl here ↦
                  let off : owner ≡ place → ⊥ =
                  λ e.
                  let last_here : IsAt numbers place last = subst (λ (q : ℕ). IsAt numbers q last) e last_at in
                  let n_last = one_at numbers place n last is.at last_here in
                  let m_n = here.0 in
                  absurd (omega (arith, lt, m_n, n_last)) in
                  subst (λ (q : ℕ). IsAt (set between place 0) q m) (sym here.1)
                  (subst (λ (k : ℕ). IsAt (set between place 0) owner k) (sym here.0) (moves off))
              | inr other ↦
                  let old = is.are.each p m other.1 some in
                  stays p m old (λ e. absurd (omega (arith, e, lt)))
                  (λ e. other.0 (one_at numbers place m n (subst (λ (q : ℕ). IsAt numbers q m) e old) is.at))
            ];
        owned =
            λ p m at some.
            elim (at_set_back between place p 0 m at) [
              | inl cleared_there ↦ let none = cleared_there.1 in absurd (omega (arith, none, some))
              | inr kept ↦
                  elim (at_set_back numbers owner p n m kept.1) [
                    | inl here ↦
                        let off : n ≡ last → ⊥ =
                        λ e.
                        let place_last : IsAt owners last place = subst (λ (k : ℕ). IsAt owners k place) e owns in
                        kept.0 (here.0 ∙ one_at owners last owner place is.owner_is place_last) in
                        let there = at_take last owners' n owner (at_set_same owners n owner (at_below owners n place owns)) (omega (arith, off, low)) in
                        subst (λ (q : ℕ). IsAt (take last owners') m q) (sym here.0)
                        (subst (λ (k : ℕ). IsAt (take last owners') k owner) (sym here.1) there)
                    | inr other ↦
                        let old = is.are.owned p m other.1 some in
                        let below = at_below owners m p old in
                        let off : m ≡ n → ⊥ = λ e. kept.0 (one_at owners n p place (subst (λ (k : ℕ). IsAt owners k p) e old) owns) in
                        let not_last : m ≡ last → ⊥ =
                        λ e. other.0 (one_at owners last p owner (subst (λ (k : ℕ). IsAt owners k p) e old) is.owner_is) in
                        at_take last owners' m p (at_set_other owners n m owner p off old) (omega (arith, not_last, below, count))
                  ]
            ];
        few = let len = length_less in let few = is.are.few in omega (arith, len, few);
      }
