-- Rows by their numbers: what is where, and what a change of one row, or one row more, does to all.
use Rattle.std.proofs.Common.{◌≡◌, ◌⊎◌, ℕ, zero, suc, ◌+◌, ◌-◌, ◌*◌, ◌<◌, ◌≤◌, List, [], ◌∷◌, ◌++◌, length, take, drop, replicate, refl, sym, ap, ◌∙◌, subst, arith, inl, inr}
use mathlib.Core.Option.{some-injective, some-ne-none}
use Rattle.std.proofs.Math.ListN.{set}
use Rattle.std.proofs.Math.Seq.{drop-append-add}
use Rattle.std.proofs.lemmas.Bool.Decides.{leb_tells}
use Rattle.std.proofs.lemmas.List.{drop-append-le, length-append, length-drop, length-replicate, length-set, length-take-le, replicate-append-replicate, take-append-le, take_all}
use Rattle.nvm_record.specs.declared.block.Block.{Block}
use Rattle.nvm_record.specs.Lists.{IsAt}
use Rattle.nvm_store.specs.Inside.Gathered.{row_of, gathered, named, IsGathered}
use Rattle.nvm_store.specs.Inside.Rewrite.{IsRewritten}
use Rattle.nvm_store.proofs.Parts.{LiesIn, lies_in}
use Rattle.nvm_store.proofs.Rewrites.{at_append, at_append_left, at_append_right, at_below, at_set_other, at_set_same, at_take, at_take_back}

-- A place lies in one row.
pub same_row : (w n m j i : ℕ) → j < w → i < w → n * w + j ≡ m * w + i → n ≡ m
same_row w zero zero j i lt lt' e = refl
same_row w zero (suc m) j i lt lt' e =
    let a : 0 * w ≡ 0 = omega arith in
    let b : suc m * w ≡ w + m * w = grind arith in
    absurd (omega (arith, a, b, e, lt))
same_row w (suc n) zero j i lt lt' e =
    let a : 0 * w ≡ 0 = omega arith in
    let b : suc n * w ≡ w + n * w = grind arith in
    absurd (omega (arith, a, b, e, lt'))
same_row w (suc n) (suc m) j i lt lt' e =
    let a : suc n * w ≡ w + n * w = grind arith in
    let b : suc m * w ≡ w + m * w = grind arith in
    ap suc (same_row w n m j i lt lt' (omega (arith, a, b, e)))

-- A row ends where those up to it do.
pub rows_within : (n m w : ℕ) → n < m → n * w + w ≤ m * w
rows_within n zero w lt = absurd (omega (arith, lt))
rows_within zero (suc m) w lt =
    let a : 0 * w ≡ 0 = omega arith in
    let b : suc m * w ≡ w + m * w = grind arith in
    omega (arith, a, b)
rows_within (suc n) (suc m) w lt =
    let a : suc n * w ≡ w + n * w = grind arith in
    let b : suc m * w ≡ w + m * w = grind arith in
    let h = rows_within n m w (omega (arith, lt)) in
    omega (arith, a, b, h)

pub named_le : (numbers : List ℕ) → named numbers ≤ length numbers
named_le [] = omega arith
named_le (zero ∷ numbers) = let h = named_le numbers in omega (arith, h)
named_le (suc n ∷ numbers) = let h = named_le numbers in omega (arith, h)

-- One of them is 0, so fewer are named than there are.
pub named_lt : (numbers : List ℕ) (k : ℕ) → IsAt numbers k 0 → named numbers < length numbers
named_lt [] k is = absurd (some-ne-none 0 (sym is))
named_lt (zero ∷ numbers) zero is = let h = named_le numbers in omega (arith, h)
named_lt (suc n ∷ numbers) zero is = let e : suc n ≡ 0 = some-injective (suc n) 0 is in absurd (omega (arith, e))
named_lt (zero ∷ numbers) (suc k) is = let h = named_lt numbers k is in omega (arith, h)
named_lt (suc n ∷ numbers) (suc k) is = let h = named_lt numbers k is in omega (arith, h)

pub named_set : (numbers : List ℕ) (k m : ℕ) → IsAt numbers k 0 → named (set numbers k (suc m)) ≡ suc (named numbers)
named_set [] k m is = absurd (some-ne-none 0 (sym is))
named_set (zero ∷ numbers) zero m is = refl
named_set (suc n ∷ numbers) zero m is = let e : suc n ≡ 0 = some-injective (suc n) 0 is in absurd (omega (arith, e))
named_set (zero ∷ numbers) (suc k) m is = named_set numbers k m is
named_set (suc n ∷ numbers) (suc k) m is = ap suc (named_set numbers k m is)

pub named_none : (n : ℕ) → named (replicate n 0) ≡ 0
named_none zero = refl
named_none (suc n) = named_none n

module _ {A : Type 0} where
  pub at_drop : (n : ℕ) (xs : List A) (j : ℕ) (x : A) → IsAt xs (n + j) x → IsAt (drop n xs) j x
  at_drop zero xs j x is = let e : 0 + j ≡ j = omega arith in rw e at is
  at_drop (suc n) [] j x is = is
  at_drop (suc n) (y ∷ ys) j x is = let e : suc n + j ≡ suc (n + j) = omega arith in at_drop n ys j x (rw e at is)

  pub at_drop_back : (n : ℕ) (xs : List A) (j : ℕ) (x : A) → IsAt (drop n xs) j x → IsAt xs (n + j) x
  at_drop_back zero xs j x is = let e : 0 + j ≡ j = omega arith in rw e is
  at_drop_back (suc n) [] j x is = absurd (some-ne-none x (sym is))
  at_drop_back (suc n) (y ∷ ys) j x is = let e : suc n + j ≡ suc (n + j) = omega arith in rw e (at_drop_back n ys j x is)

  pub at_row : (w : ℕ) (rows : List A) (n j : ℕ) (x : A) → j < w → IsAt rows (n * w + j) x → IsAt (row_of w rows n) j x
  at_row w rows n j x lt is = at_take w (drop (n * w) rows) j x (at_drop (n * w) rows j x is) lt

  pub at_row_back : (w : ℕ) (rows : List A) (n j : ℕ) (x : A) → IsAt (row_of w rows n) j x → (j < w) × IsAt rows (n * w + j) x
  at_row_back w rows n j x is =
      let back = at_take_back w (drop (n * w) rows) j x is in
      (back.1, at_drop_back (n * w) rows j x back.0)

  pub at_set_back : (xs : List A) (i j : ℕ) (x y : A) → IsAt (set xs i x) j y → ((j ≡ i) × (y ≡ x)) ⊎ ((j ≡ i → ⊥) × IsAt xs j y)
  at_set_back [] i j x y is = absurd (some-ne-none y (sym is))
  at_set_back (z ∷ zs) zero zero x y is = inl (refl, sym (some-injective x y is))
  at_set_back (z ∷ zs) zero (suc j) x y is = inr (λ e. absurd (omega (arith, e)), is)
  at_set_back (z ∷ zs) (suc i) zero x y is = inr (λ e. absurd (omega (arith, e)), is)
  at_set_back (z ∷ zs) (suc i) (suc j) x y is =
      elim (at_set_back zs i j x y is) [
        | inl here ↦ inl (ap suc here.0, here.1)
        | inr there ↦ inr (λ e. there.0 (omega (arith, e)), there.1)
      ]

  pub same_lists : (xs ys : List A) → length xs ≡ length ys → ((i : ℕ) (y : A) → IsAt ys i y → IsAt xs i y) → xs ≡ ys
  same_lists [] [] len each = refl
  same_lists [] (y ∷ ys) len each = absurd (omega (arith, len))
  same_lists (x ∷ xs) [] len each = absurd (omega (arith, len))
  same_lists (x ∷ xs) (y ∷ ys) len each =
      let len' : length xs ≡ length ys = omega (arith, len) in
      ap (λ (b : A). b ∷ xs) (some-injective x y (each 0 y refl))
      ∙ ap (λ (l : List A). y ∷ l) (same_lists xs ys len' (λ i b is. each (suc i) b is))

  -- the rows of these numbers are there
  abbrev pub AreThere : ℕ → List A → List ℕ → Type 0
  AreThere w rows numbers = (i n : ℕ) → IsAt numbers i n → n * w + w ≤ length rows

  pub all_there : (w : ℕ) (thing : A) (rows : List A) (numbers : List ℕ) → IsGathered w thing rows numbers → AreThere w rows numbers
  all_there w thing rows numbers is i n at =
      let le = is.within i n at in
      let far = rows_within n (suc (named numbers)) w (omega (arith, le)) in
      let count = is.count in
      omega (arith, far, count)

  pub length_row : (w : ℕ) (rows : List A) (n : ℕ) → n * w + w ≤ length rows → length (row_of w rows n) ≡ w
  length_row w rows n le =
      let len = length-drop (n * w) rows in
      length-take-le w (drop (n * w) rows) (omega (arith, len, le))

  pub length_gathered : (w : ℕ) (rows : List A) (numbers : List ℕ) → AreThere w rows numbers → length (gathered w rows numbers) ≡ length numbers * w
  length_gathered w rows [] there = let none : 0 ≡ 0 * w = omega arith in none
  length_gathered w rows (n ∷ numbers) there =
      let first = length_row w rows n (there 0 n refl) in
      let rest = length_gathered w rows numbers (λ i m at. there (suc i) m at) in
      let all = length-append (row_of w rows n) (gathered w rows numbers) in
      let more : suc (length numbers) * w ≡ w + length numbers * w = grind arith in
      omega (arith, first, rest, all, more)

  pub at_gathered : (w : ℕ) (rows : List A) (numbers : List ℕ) (k n j : ℕ) (x : A) → AreThere w rows numbers → IsAt numbers k n → j < w
      → IsAt rows (n * w + j) x → IsAt (gathered w rows numbers) (k * w + j) x
  at_gathered w rows [] k n j x there at lt is = absurd (some-ne-none n (sym at))
  at_gathered w rows (m ∷ numbers) zero n j x there at lt is =
      let same : m ≡ n = some-injective m n at in
      let here : 0 * w + j ≡ j = omega arith in
      rw here (at_append_left (row_of w rows m) (gathered w rows numbers) j x (at_row w rows m j x lt (rw same is)))
  at_gathered w rows (m ∷ numbers) (suc k) n j x there at lt is =
      let len = length_row w rows m (there 0 m refl) in
      let more : suc k * w ≡ w + k * w = grind arith in
      let place : length (row_of w rows m) + (k * w + j) ≡ suc k * w + j = omega (arith, len, more) in
      subst (λ (p : ℕ). IsAt (row_of w rows m ++ gathered w rows numbers) p x) place
      (at_append_right (row_of w rows m) (gathered w rows numbers) (k * w + j) x
      (at_gathered w rows numbers k n j x (λ i l at'. there (suc i) l at') at lt is))

-- Where something that is gathered lies.
pub record Found {A : Type 0} (w : ℕ) (rows : List A) (numbers : List ℕ) (i : ℕ) (x : A) : Type 0 where
  pub k : ℕ
  pub n : ℕ
  pub j : ℕ
  pub place : i ≡ k * w + j
  pub below : j < w
  pub number : IsAt numbers k n
  pub is : IsAt rows (n * w + j) x

module _ {A : Type 0} where
  found_first : (w : ℕ) (rows : List A) (m : ℕ) (numbers : List ℕ) (i : ℕ) (x : A) → IsAt (row_of w rows m) i x → Found w rows (m ∷ numbers) i x
  found_first w rows m numbers i x is =
      let back = at_row_back w rows m i x is in
      record {
        k = 0;
        n = m;
        j = i;
        place = let none : 0 * w ≡ 0 = omega arith in omega (arith, none);
        below = back.0;
        number = refl;
        is = back.1;
      }

  found_later : (w : ℕ) (rows : List A) (m : ℕ) (numbers : List ℕ) (i j : ℕ) (x : A) → i ≡ w + j → Found w rows numbers j x
      → Found w rows (m ∷ numbers) i x
  found_later w rows m numbers i j x e rest = record {
    k = suc rest.k;
    n = rest.n;
    j = rest.j;
    place =
        let more : suc rest.k * w ≡ w + rest.k * w = grind arith in
        let e' = rest.place in
        omega (arith, more, e, e');
    below = rest.below;
    number = rest.number;
    is = rest.is;
  }

  pub found : (w : ℕ) (rows : List A) (numbers : List ℕ) (i : ℕ) (x : A) → AreThere w rows numbers → IsAt (gathered w rows numbers) i x
      → Found w rows numbers i x
  found w rows [] i x there is = absurd (some-ne-none x (sym is))
  found w rows (m ∷ numbers) i x there is =
      elim (at_append (row_of w rows m) (gathered w rows numbers) i x is) [
        | inl here ↦ found_first w rows m numbers i x here
        | inr later ↦
            found_later w rows m numbers i later.0 x (later.1 ∙ ap (λ (l : ℕ). l + later.0) (length_row w rows m (there 0 m refl)))
            (found w rows numbers later.0 x (λ i l at. there (suc i) l at) later.2)
      ]

  -- A change in one row that is named once is a change at its place.
  pub set_gathered : (w : ℕ) (thing : A) (rows : List A) (numbers : List ℕ) (k n j : ℕ) (x : A) → IsGathered w thing rows numbers
      → IsAt numbers k n → 0 < n → j < w → gathered w (set rows (n * w + j) x) numbers ≡ set (gathered w rows numbers) (k * w + j) x
  set_gathered w thing rows numbers k n j x is at some lt =
      let there = all_there w thing rows numbers is in
      let p = n * w + j in
      let q = k * w + j in
      let rows' = set rows p x in
      let same : length rows' ≡ length rows = length-set rows p x in
      let there' : AreThere w rows' numbers = λ i m at'. let h = there i m at' in omega (arith, h, same) in
      let len = length_gathered w rows numbers there in
      let len' = length_gathered w rows' numbers there' in
      let all = gathered w rows numbers in
      let end = rows_within k (length numbers) w (at_below numbers k n at) in
      let q_below : q < length all = omega (arith, end, len, lt) in
      sym
      (same_lists (set all q x) (gathered w rows' numbers) (length-set all q x ∙ len ∙ sym len')
      (λ i y is'.
      let it = found w rows' numbers i y there' is' in
      elim (at_set_back rows p (it.n * w + it.j) x y it.is) [
        | inl here ↦
            let one : it.n ≡ n = same_row w it.n n it.j j it.below lt here.0 in
            let two : it.j ≡ j = let e = here.0 in let e' = ap (λ (m : ℕ). m * w) one in omega (arith, e, e') in
            let number' : IsAt numbers it.k n = subst (λ (m : ℕ). IsAt numbers it.k m) one it.number in
            let place : i ≡ q = it.place ∙ elim (is.once it.k k n number' at) [
              | inl none ↦ absurd (omega (arith, none, some))
              | inr same_k ↦ ap (λ (m : ℕ). m * w + it.j) same_k ∙ ap (λ (m : ℕ). k * w + m) two
            ] in
            subst (λ (m : ℕ). IsAt (set all q x) m y) (sym place)
            (subst (λ (b : A). IsAt (set all q x) q b) (sym here.1) (at_set_same all q x q_below))
        | inr other ↦
            let there_y = at_gathered w rows numbers it.k it.n it.j y there it.number it.below other.1 in
            let off : it.k * w + it.j ≡ q → ⊥ =
            λ e.
            let same_k : it.k ≡ k = same_row w it.k k it.j j it.below lt e in
            let same_j : it.j ≡ j = let e' = ap (λ (m : ℕ). m * w) same_k in omega (arith, e, e') in
            let number' : IsAt numbers k it.n = subst (λ (m : ℕ). IsAt numbers m it.n) same_k it.number in
            let same_n : it.n ≡ n = some-injective it.n n (sym number' ∙ at) in
            other.0 (ap (λ (m : ℕ). m * w + it.j) same_n ∙ ap (λ (m : ℕ). n * w + m) same_j) in
            subst (λ (m : ℕ). IsAt (set all q x) m y) (sym it.place) (at_set_other all q (it.k * w + it.j) x y off there_y)
      ]))

  -- Where a place lies: in which row, and where there.
  pub place_of_row : (w : ℕ) (thing : A) (rows : List A) (numbers : List ℕ) (at : ℕ) → IsGathered w thing rows numbers
      → at < length (gathered w rows numbers) → LiesIn w at (length numbers)
  place_of_row w thing rows numbers at is lt =
      let len = length_gathered w rows numbers (all_there w thing rows numbers is) in
      lies_in w at (length numbers) is.some (omega (arith, lt, len))

  take_drop_append : (n w : ℕ) (rows more : List A) → n + w ≤ length rows → take w (drop n (rows ++ more)) ≡ take w (drop n rows)
  take_drop_append n w rows more le =
      let len = length-drop n rows in
      ap (take w) (drop-append-le n rows more (omega (arith, le)))
      ∙ take-append-le w (drop n rows) more (omega (arith, le, len))

  -- Rows at the end change none before.
  pub row_before : (w : ℕ) (rows more : List A) (n : ℕ) → n * w + w ≤ length rows → row_of w (rows ++ more) n ≡ row_of w rows n
  row_before w rows more n le = take_drop_append (n * w) w rows more le

  pub gathered_before : (w : ℕ) (rows more : List A) (numbers : List ℕ) → AreThere w rows numbers
      → gathered w (rows ++ more) numbers ≡ gathered w rows numbers
  gathered_before w rows more [] there = refl
  gathered_before w rows more (n ∷ numbers) there =
      rw (row_before w rows more n (there 0 n refl))
      (ap (λ (l : List A). row_of w rows n ++ l) (gathered_before w rows more numbers (λ i m at. there (suc i) m at)))

  -- Another row that is the same takes a row's place.
  pub gathered_set : (w : ℕ) (rows : List A) (numbers : List ℕ) (k n m : ℕ) → IsAt numbers k n → row_of w rows m ≡ row_of w rows n
      → gathered w rows (set numbers k m) ≡ gathered w rows numbers
  gathered_set w rows [] k n m at same = refl
  gathered_set w rows (l ∷ numbers) zero n m at same =
      let is : l ≡ n = some-injective l n at in
      ap (λ (r : List A). r ++ gathered w rows numbers) (same ∙ ap (row_of w rows) (sym is))
  gathered_set w rows (l ∷ numbers) (suc k) n m at same =
      ap (λ (r : List A). row_of w rows l ++ r) (gathered_set w rows numbers k n m at same)

  -- The last row is what was put there.
  pub row_behind : (w : ℕ) (rows more : List A) (n : ℕ) → length rows ≡ n * w → length more ≡ w → row_of w (rows ++ more) n ≡ more
  row_behind w rows more n len few =
      let zero_more : drop 0 more ≡ more = refl in
      let there : drop (n * w) (rows ++ more) ≡ more =
      ap (λ (p : ℕ). drop p (rows ++ more)) (sym len ∙ plus_none (length rows)) ∙ drop-append-add rows more 0 in
      ap (take w) there ∙ take_all w more (omega (arith, few))
    where
      plus_none : (n : ℕ) → n ≡ n + 0
      plus_none n = omega arith

  -- A new row of the same thing takes the place of row 0, and is named once.
  pub grown : (w : ℕ) (thing : A) (rows : List A) (numbers : List ℕ) (k : ℕ) → IsGathered w thing rows numbers → IsAt numbers k 0
      → IsGathered w thing (rows ++ replicate w thing) (set numbers k (suc (named numbers)))
  grown w thing rows numbers k is at =
      let more = replicate w thing in
      let now = named_set numbers k (named numbers) at in
      let len = length-append rows more in
      let few = length-replicate w thing in
      let count = is.count in
      let least : 0 * w + w ≤ length rows = let a = rows_within 0 (suc (named numbers)) w (omega arith) in omega (arith, a, count) in
      record {
        some = is.some;
        first = row_before w rows more 0 least ∙ is.first;
        count =
            let b : suc (suc (named numbers)) * w ≡ w + suc (named numbers) * w = grind arith in
            let e = ap (λ (m : ℕ). suc m * w) now in
            omega (arith, len, few, count, b, e);
        within =
            λ i n at'.
            elim (at_set_back numbers k i (suc (named numbers)) n at') [
              | inl here ↦ let e = here.1 in omega (arith, e, now)
              | inr other ↦ let le = is.within i n other.1 in omega (arith, le, now)
            ];
        once =
            λ i j n at_i at_j.
            elim (at_set_back numbers k i (suc (named numbers)) n at_i) [
              | inl here ↦
                  elim (at_set_back numbers k j (suc (named numbers)) n at_j) [
                    | inl there ↦ inr (here.0 ∙ sym there.0)
                    | inr old ↦ let le = is.within j n old.1 in let e = here.1 in absurd (omega (arith, le, e))
                  ]
              | inr old ↦
                  elim (at_set_back numbers k j (suc (named numbers)) n at_j) [
                    | inl there ↦ let le = is.within i n old.1 in let e = there.1 in absurd (omega (arith, le, e))
                    | inr old' ↦ is.once i j n old.1 old'.1
                  ]
            ];
      }

  -- All is as it was then.
  pub grown_same : (w : ℕ) (thing : A) (rows : List A) (numbers : List ℕ) (k : ℕ) → IsGathered w thing rows numbers → IsAt numbers k 0
      → gathered w (rows ++ replicate w thing) (set numbers k (suc (named numbers))) ≡ gathered w rows numbers
  grown_same w thing rows numbers k is at =
      let more = replicate w thing in
      let count = is.count in
      let least : 0 * w + w ≤ length rows = let a = rows_within 0 (suc (named numbers)) w (omega arith) in omega (arith, a, count) in
      let new : row_of w (rows ++ more) (suc (named numbers)) ≡ more = row_behind w rows more (suc (named numbers)) count (length-replicate w thing) in
      let old : row_of w (rows ++ more) 0 ≡ more = row_before w rows more 0 least ∙ is.first in
      gathered_set w (rows ++ more) numbers k 0 (suc (named numbers)) at (new ∙ sym old)
      ∙ gathered_before w rows more numbers (all_there w thing rows numbers is)

  pub gathered_first : (w n : ℕ) (thing : A) → gathered w (replicate w thing) (replicate n 0) ≡ replicate (n * w) thing
  gathered_first w zero thing = let none : 0 * w ≡ 0 = omega arith in rw none refl
  gathered_first w (suc n) thing =
      let more : suc n * w ≡ w + n * w = grind arith in
      let none : 0 * w ≡ 0 = omega arith in
      let row : row_of w (replicate w thing) 0 ≡ replicate w thing =
      ap (λ (p : ℕ). take w (drop p (replicate w thing))) none ∙ take_all w (replicate w thing) (let e = length-replicate w thing in omega (arith, e)) in
      rw (more, row)
      (ap (λ (l : List A). replicate w thing ++ l) (gathered_first w n thing) ∙ replicate-append-replicate w (n * w) thing)

  pub first_is_gathered : (w n : ℕ) (thing : A) → 0 < w → IsGathered w thing (replicate w thing) (replicate n 0)
  first_is_gathered w n thing some = record {
    some = some;
    first =
        let none : 0 * w ≡ 0 = omega arith in
        ap (λ (p : ℕ). take w (drop p (replicate w thing))) none ∙ take_all w (replicate w thing) (let e = length-replicate w thing in omega (arith, e));
    count =
        let e = length-replicate w thing in
        let now = ap (λ (m : ℕ). suc m * w) (named_none n) in
        let one : 1 * w ≡ w = omega arith in
        omega (arith, e, now, one);
    within = λ i m at. let z = at_zeroes n i m at in omega (arith, z);
    once = λ i j m at_i at_j. inl (at_zeroes n i m at_i);
  }
    where
      at_zeroes : (n i m : ℕ) → IsAt (replicate n 0) i m → m ≡ 0
      at_zeroes zero i m at = absurd (some-ne-none m (sym at))
      at_zeroes (suc n) zero m at = sym (some-injective 0 m at)
      at_zeroes (suc n) (suc i) m at = at_zeroes n i m at

  -- The numbers that a place's row has, and what is there, whatever else was set.
  pub set_is_gathered : (w : ℕ) (thing : A) (rows : List A) (numbers : List ℕ) (n j : ℕ) (x : A) → IsGathered w thing rows numbers
      → 0 < n → j < w → IsGathered w thing (set rows (n * w + j) x) numbers
  set_is_gathered w thing rows numbers n j x is some lt = record {
    some = is.some;
    first = first_stays w rows (n * w + j) x (let a = rows_within 0 n w some in omega (arith, a)) ∙ is.first;
    count = length-set rows (n * w + j) x ∙ is.count;
    within = is.within;
    once = is.once;
  }
    where
      take_set : (w : ℕ) (rows : List A) (p : ℕ) (x : A) → w ≤ p → take w (set rows p x) ≡ take w rows
      take_set zero rows p x le = refl
      take_set (suc w) [] p x le = refl
      take_set (suc w) (r ∷ rows) zero x le = absurd (omega (arith, le))
      take_set (suc w) (r ∷ rows) (suc p) x le = ap (λ (l : List A). r ∷ l) (take_set w rows p x (omega (arith, le)))

      first_stays : (w : ℕ) (rows : List A) (p : ℕ) (x : A) → w ≤ p → row_of w (set rows p x) 0 ≡ row_of w rows 0
      first_stays w rows p x le = let none : 0 * w ≡ 0 = omega arith in rw none (take_set w rows p x le)

module _ {A : Type 0} where
  set_same : (xs : List A) (i : ℕ) (x : A) → IsAt xs i x → set xs i x ≡ xs
  set_same [] i x at = refl
  set_same (y ∷ ys) zero x at = ap (λ (z : A). z ∷ ys) (sym (some-injective y x at))
  set_same (y ∷ ys) (suc i) x at = ap (λ (l : List A). y ∷ l) (set_same ys i x at)

  pub at_replicate : (n : ℕ) (x : A) (i : ℕ) → i < n → IsAt (replicate n x) i x
  at_replicate zero x i lt = absurd (omega (arith, lt))
  at_replicate (suc n) x zero lt = refl
  at_replicate (suc n) x (suc i) lt = at_replicate n x i (omega (arith, lt))

  -- What row 0 is.
  pub at_first : (w : ℕ) (thing : A) (rows : List A) (numbers : List ℕ) (j : ℕ) → IsGathered w thing rows numbers → j < w → IsAt rows (0 * w + j) thing
  at_first w thing rows numbers j is lt =
      (at_row_back w rows 0 j thing (subst (λ (l : List A). IsAt l j thing) (sym is.first) (at_replicate w thing j lt))).1

  -- The thing of row 0 may be put anywhere.
  pub record IsCleared (w : ℕ) (thing : A) (rows : List A) (numbers : List ℕ) (k n j : ℕ) : Type 0 where
    pub is : gathered w (set rows (n * w + j) thing) numbers ≡ set (gathered w rows numbers) (k * w + j) thing
    pub sound : IsGathered w thing (set rows (n * w + j) thing) numbers

  pub cleared : (w : ℕ) (thing : A) (rows : List A) (numbers : List ℕ) (k n j : ℕ) → IsGathered w thing rows numbers → IsAt numbers k n → j < w
      → IsCleared w thing rows numbers k n j
  cleared w thing rows numbers k zero j is at lt =
      let here = at_first w thing rows numbers j is lt in
      let same = set_same rows (0 * w + j) thing here in
      let there = at_gathered w rows numbers k 0 j thing (all_there w thing rows numbers is) at lt here in
      record {
        is = ap (λ (l : List A). gathered w l numbers) same ∙ sym (set_same (gathered w rows numbers) (k * w + j) thing there);
        sound = subst (λ (l : List A). IsGathered w thing l numbers) (sym same) is;
      }
  cleared w thing rows numbers k (suc n) j is at lt =
      let some : 0 < suc n = omega arith in
      record {
        is = set_gathered w thing rows numbers k (suc n) j thing is at some lt;
        sound = set_is_gathered w thing rows numbers (suc n) j thing is some lt;
      }

-- What a change of blocks within one row does to all.
pub record IsChanged (w : ℕ) (thing : Block) (rows others : List Block) (numbers : List ℕ) (at count : ℕ) (news : ℕ → Block) : Type 0 where
  pub is : IsRewritten at count news (gathered w rows numbers) (gathered w others numbers)
  pub sound : IsGathered w thing others numbers

pub changed : (w : ℕ) (thing : Block) (rows others : List Block) (numbers : List ℕ) (k n j at count : ℕ) (news : ℕ → Block)
    → IsGathered w thing rows numbers → IsAt numbers k n → 0 < n → at ≡ k * w + j → j + count ≤ w → j < w → IsRewritten (n * w + j) count news rows others
    → IsChanged w thing rows others numbers at count news
changed w thing rows others numbers k n j at count news is number some here few below put =
    let there = all_there w thing rows numbers is in
    let same : length others ≡ length rows = put.len in
    let there' : AreThere w others numbers = λ i m at'. let h = there i m at' in omega (arith, h, same) in
    record {
      is =
          record {
            len = length_gathered w others numbers there' ∙ sym (length_gathered w rows numbers there);
            rewritten =
                λ i lt.
                let place : k * w + (j + i) ≡ at + i = omega (arith, here) in
                let place' : n * w + j + i ≡ n * w + (j + i) = omega arith in
                subst (λ (p : ℕ). IsAt (gathered w others numbers) p (news i)) place
                (at_gathered w others numbers k n (j + i) (news i) there' number (omega (arith, few, lt))
                (subst (λ (p : ℕ). IsAt others p (news i)) place' (put.rewritten i lt)));
            others =
                λ i block out at_i.
                let it = found w rows numbers i block there at_i in
                let e = it.place in
                let off : (it.n * w + it.j < n * w + j) ⊎ (n * w + j + count ≤ it.n * w + it.j) =
                elim (leb_tells (n * w + j) (it.n * w + it.j)) [
                  | inr low ↦ let lt = low.1 in inl (omega (arith, lt))
                  | inl high ↦
                      let le = high.1 in
                      elim (leb_tells (n * w + j + count) (it.n * w + it.j)) [
                        | inl past ↦ inr past.1
                        | inr within ↦
                            let lt = within.1 in
                            let d = it.n * w + it.j - n * w in
                            let e' : it.n * w + it.j ≡ n * w + d = omega (arith, le) in
                            let one : it.n ≡ n = same_row w it.n n it.j d it.below (omega (arith, lt, few)) e' in
                            let two : it.j ≡ d = let f = ap (λ (m : ℕ). m * w) one in omega (arith, e', f) in
                            let number' : IsAt numbers it.k n = subst (λ (m : ℕ). IsAt numbers it.k m) one it.number in
                            elim (is.once it.k k n number' number) [
                              | inl none ↦ absurd (omega (arith, none, some))
                              | inr same_k ↦
                                  let f = ap (λ (m : ℕ). m * w) same_k in
                                  absurd (elim out [ inl before ↦ omega (arith, before, here, e, f, two, le) | inr after ↦ omega (arith, after, here, e, f, two, lt) ])
                            ]
                      ]
                ] in
                subst (λ (p : ℕ). IsAt (gathered w others numbers) p block) (sym e)
                (at_gathered w others numbers it.k it.n it.j block there' it.number it.below (put.others (it.n * w + it.j) block off it.is));
          };
      sound =
          record {
            some = is.some;
            first =
                let end = rows_within 0 n w some in
                let least = rows_within 0 (suc (named numbers)) w (omega arith) in
                let count' = is.count in
                let first_in : 0 * w + w ≤ length rows = omega (arith, least, count') in
                let first_in' : 0 * w + w ≤ length others = omega (arith, first_in, same) in
                same_lists (row_of w others 0) (row_of w rows 0) (length_row w others 0 first_in' ∙ sym (length_row w rows 0 first_in))
                (λ i block at_i.
                let back = at_row_back w rows 0 i block at_i in
                let lt = back.0 in
                at_row w others 0 i block lt (put.others (0 * w + i) block (inl (omega (arith, end, lt))) back.1))
                ∙ is.first;
            count = same ∙ is.count;
            within = is.within;
            once = is.once;
          };
    }
