-- Tables of numbers: where the number of a place stands, and what changes when it gets another one, or its row a place of its own.
use Rattle.std.proofs.Common.{◌≡◌, ◌⊎◌, ℕ, zero, suc, ◌+◌, ◌-◌, ◌*◌, ◌/◌, ◌%◌, ◌^◌, ◌<◌, ◌≤◌, refl, sym, ap, ◌∙◌, subst, arith, inl, inr}
use Rattle.std.proofs.Common.{List, [], ◌∷◌, ◌++◌, length, map, get_or, take, drop, replicate}
use mathlib.Core.Option.{some-injective, some-ne-none}
use Rattle.std.proofs.Math.ListN.{set}
use Rattle.std.proofs.Math.Seq.{drop-append_seam, take-append_seam, take-set-lt}
use Rattle.std.proofs.lemmas.List.{drop-append-le, drop-set-add, drop-set-lt, length-append, length-drop, length-map, length-set}
use Rattle.std.proofs.lemmas.List.{length-take-le, map-set, take-append-le, take-set-le, take_all}
use Rattle.nvm_record.specs.Lists.{IsAt}
use Rattle.nvm_store.specs.Inside.Gathered.{gathered, named, numbers_in, row_numbers, AreNumbers, IsGathered}
use Rattle.nvm_store.proofs.AtLemmas.{at_read}
use Rattle.nvm_store.proofs.Gathering.{all_there, at_drop, at_first, at_gathered, at_set_back, cleared, first_is_gathered, gathered_first, grown, grown_same}
use Rattle.nvm_store.proofs.Gathering.{length_gathered, named_le, named_lt, set_gathered, set_is_gathered}
use Rattle.nvm_store.proofs.Parts.{lies_in, LiesIn}
use Rattle.nvm_store.proofs.Rewrites.{at_set_same, at_take}

-- What is read inside a list is there.
pub read_at : (xs : List ℕ) (i x : ℕ) → i < length xs → x ≡ get_or xs i x → IsAt xs i x
read_at xs i x lt read = subst (λ (n : ℕ). IsAt xs i n) (sym read) (at_read xs i x lt)

pub at_copies : (n x i m : ℕ) → IsAt (replicate n x) i m → m ≡ x
at_copies zero x i m at = absurd (some-ne-none m (sym at))
at_copies (suc n) x zero m at = sym (some-injective x m at)
at_copies (suc n) x (suc i) m at = at_copies n x i m at

at_map : (f : ℕ → ℕ) (xs : List ℕ) (i x : ℕ) → IsAt xs i x → IsAt (map f xs) i (f x)
at_map f [] i x at = absurd (some-ne-none x (sym at))
at_map f (y ∷ ys) zero x at = let same : y ≡ x = some-injective y x at in rw same refl
at_map f (y ∷ ys) (suc i) x at = at_map f ys i x at

-- A look-up of a place finds that its row starts at `row`.
pub record IsFound (top : ℕ) (table : List ℕ) (place row : ℕ) : Type 0 where
  pub are : AreNumbers top table
  pub lies : LiesIn 64 place top
  pub number : IsAt (row_numbers top table) (place / 64) ((row - top) / 64)
  pub starts : row ≡ top + (row - top) / 64 * 64
  pub there : row + place % 64 < length table
  pub fits : row + place % 64 < 2 ^ 33

module _ (top : ℕ) (table : List ℕ) (are : AreNumbers top table) where
  -- as many rows have places as offsets stand before the rows
  length_row_numbers : length (row_numbers top table) ≡ top
  length_row_numbers = length-map (take top table) (λ (offset : ℕ). (offset - top) / 64) ∙ length-take-le top table are.long

  pub length_numbers_in : length (numbers_in top table) ≡ top * 64
  length_numbers_in =
      length_gathered 64 (drop top table) (row_numbers top table) (all_there 64 0 (drop top table) (row_numbers top table) are.gathered)
      ∙ ap (λ (n : ℕ). n * 64) length_row_numbers

  pub place_in : (place : ℕ) → place < length (numbers_in top table) → LiesIn 64 place top
  place_in place lt = let len = length_numbers_in in lies_in 64 place top (omega arith) (omega (arith, lt, len))

  pub offset_there : (place : ℕ) → place < length (numbers_in top table) → place / 64 < length table
  offset_there place lt = let part = (place_in place lt).part in let long = are.long in omega (arith, part, long)

  -- the number of a row that starts there
  number_of : (k row : ℕ) → k < top → IsAt table k row → IsAt (row_numbers top table) k ((row - top) / 64)
  number_of k row lt at = at_map (λ (offset : ℕ). (offset - top) / 64) (take top table) k row (at_take top table k row at lt)

  pub found : (place row : ℕ) → place < length (numbers_in top table) → IsAt table (place / 64) row → IsFound top table place row
  found place row lt at =
      let lies = place_in place lt in
      let within = lies.within in
      let number = number_of (place / 64) row lies.part at in
      let starts = are.whole (place / 64) row (at_take top table (place / 64) row at lies.part) in
      let far = all_there 64 0 (drop top table) (row_numbers top table) are.gathered (place / 64) ((row - top) / 64) number in
      let len = length-drop top table in
      let long = are.long in
      let most = are.gathered.within (place / 64) ((row - top) / 64) number in
      let named = named_le (row_numbers top table) in
      let few = are.few in
      let count = length_row_numbers in
      record {
        are = are;
        lies = lies;
        number = number;
        starts = starts;
        there = omega (arith, far, len, long, starts, within);
        fits = omega (arith, most, named, count, starts, few, within);
      }

  pub looked_up : (place row : ℕ) → place < length (numbers_in top table) → row ≡ get_or table (place / 64) row → IsFound top table place row
  looked_up place row lt read = found place row lt (read_at table (place / 64) row (offset_there place lt) read)

-- The number at `place`, which row `n` has at `j`, is now `x`.
record IsRenumbered (rows numbers : List ℕ) (n j place x : ℕ) : Type 0 where
  pub is : gathered 64 (set rows (n * 64 + j) x) numbers ≡ set (gathered 64 rows numbers) place x
  pub sound : IsGathered 64 0 (set rows (n * 64 + j) x) numbers

module _ (rows numbers : List ℕ) (k n j place x : ℕ) (is : IsGathered 64 0 rows numbers) (at : IsAt numbers k n) (lt : j < 64) (here : place ≡ k * 64 + j) where
  -- any place may get the number 0
  numbered_zero : x ≡ 0 → IsRenumbered rows numbers n j place x
  numbered_zero none =
      let done = cleared 64 0 rows numbers k n j is at lt in
      rw (none, here) (record { is = done.is; sound = done.sound })

  -- one whose row isn't row 0 may get any
  numbered_own : 0 < n → IsRenumbered rows numbers n j place x
  numbered_own some =
      rw here
      (record {
        is = set_gathered 64 0 rows numbers k n j x is at some lt;
        sound = set_is_gathered 64 0 rows numbers n j x is some lt;
      })

-- A place that has a number isn't in row 0, so it may get another.
numbered : (rows numbers : List ℕ) (k n j place x : ℕ) → IsGathered 64 0 rows numbers → IsAt numbers k n → j < 64 → place ≡ k * 64 + j
    → ((m : ℕ) → IsAt (gathered 64 rows numbers) place m → 0 < m) → IsRenumbered rows numbers n j place x
numbered rows numbers k zero j place x is at lt here own =
    let first = at_gathered 64 rows numbers k 0 j 0 (all_there 64 0 rows numbers is) at lt (at_first 64 0 rows numbers j is lt) in
    let some = own 0 (subst (λ (p : ℕ). IsAt (gathered 64 rows numbers) p 0) (sym here) first) in
    absurd (omega (arith, some))
numbered rows numbers k (suc n) j place x is at lt here own = numbered_own rows numbers k (suc n) j place x is at lt here (omega arith)

renumbered : (rows numbers : List ℕ) (k n j place x : ℕ) → IsGathered 64 0 rows numbers → IsAt numbers k n → j < 64 → place ≡ k * 64 + j
    → (x ≡ 0) ⊎ ((m : ℕ) → IsAt (gathered 64 rows numbers) place m → 0 < m) → IsRenumbered rows numbers n j place x
renumbered rows numbers k n j place x is at lt here own =
    elim own [
      | inl none ↦ numbered_zero rows numbers k n j place x is at lt here none
      | inr some ↦ numbered rows numbers k n j place x is at lt here some
    ]

-- The number at `place`, whose row starts at `row`, is now `x`.
pub record IsRenumberedIn (top : ℕ) (table : List ℕ) (place row x : ℕ) : Type 0 where
  pub is : numbers_in top (set table (row + place % 64) x) ≡ set (numbers_in top table) place x
  pub sound : AreNumbers top (set table (row + place % 64) x)

module _ (top : ℕ) (table : List ℕ) (place row : ℕ) (at : IsFound top table place row) where
  -- the row's number, and where the number of the place is among the rows
  abbrev n : ℕ
  n = (row - top) / 64

  abbrev j : ℕ
  j = place % 64

  here : row + j ≡ top + (n * 64 + j)
  here = let starts = at.starts in omega (arith, starts)

  pub number_is : (x : ℕ) → x ≡ get_or table (row + j) x → IsAt (numbers_in top table) place x
  number_is x read =
      let is : IsAt table (top + (n * 64 + j)) x = subst (λ (p : ℕ). IsAt table p x) here (read_at table (row + j) x at.there read) in
      subst (λ (p : ℕ). IsAt (numbers_in top table) p x) (sym at.lies.is)
      (at_gathered 64 (drop top table) (row_numbers top table) (place / 64) n j x
      (all_there 64 0 (drop top table) (row_numbers top table) at.are.gathered) at.number at.lies.within (at_drop top table (n * 64 + j) x is))

  in_table : (x : ℕ) → IsRenumbered (drop top table) (row_numbers top table) n j place x → IsRenumberedIn top table place row x
  in_table x done =
      let e = here in
      let tops : take top (set table (row + j) x) ≡ take top table = take-set-le top table (row + j) x (omega (arith, e)) in
      let rest : drop top (set table (row + j) x) ≡ set (drop top table) (n * 64 + j) x =
      ap (λ (p : ℕ). drop top (set table p x)) here ∙ drop-set-add top table (n * 64 + j) x in
      let len = length-set table (row + j) x in
      let long = at.are.long in
      record {
        is = rw (tops, rest) done.is;
        sound =
            record {
              gathered = rw (tops, rest) done.sound;
              long = omega (arith, len, long);
              few = at.are.few;
              whole = rw tops at.are.whole;
            };
      }

  pub put_in : (x : ℕ) → top < row → IsRenumberedIn top table place row x
  put_in x own =
      let starts = at.starts in
      let some : 0 < n = omega (arith, starts, own) in
      in_table x (numbered_own (drop top table) (row_numbers top table) (place / 64) n j place x at.are.gathered at.number at.lies.within at.lies.is some)

  pub set_in : (x : ℕ) → (x ≡ 0) ⊎ ((m : ℕ) → IsAt (numbers_in top table) place m → 0 < m) → IsRenumberedIn top table place row x
  set_in x own =
      in_table x
      (renumbered (drop top table) (row_numbers top table) (place / 64) n j place x at.are.gathered at.number at.lies.within at.lies.is own)

-- A list that is made longer by 64 zeroes.
longer : (xs : List ℕ) (n m : ℕ) → n ≡ m → m ≡ length xs → take (n + 64) xs ++ replicate {A = ℕ} (n + 64 - m) 0 ≡ xs ++ replicate 64 0
longer xs n m e len =
    let all : take (n + 64) xs ≡ xs = take_all (n + 64) xs (omega (arith, e, len)) in
    let few : n + 64 - m ≡ 64 = omega (arith, e) in
    rw (all, few) refl

-- In `new` there is one row more, which starts at `row`, and all numbers are as they were.
pub record IsGrown (top : ℕ) (table new : List ℕ) (k row : ℕ) : Type 0 where
  pub high : top < row
  pub fits : row < 2 ^ 32
  pub at : IsAt (set new k row) k row
  pub sound : AreNumbers top (set new k row)
  pub same : numbers_in top (set new k row) ≡ numbers_in top table

-- The next row's offset fits in 32 bits, as one row has zeroes for all that have no row of their own.
grown_table : (top : ℕ) (table : List ℕ) (k offset row : ℕ) → AreNumbers top table → k < top → offset ≡ get_or table k offset → offset ≤ top
    → row ≡ length table → IsGrown top table (table ++ replicate 64 0) k row
grown_table top table k offset row are lt read low is =
    let before = drop top table in
    let numbers = row_numbers top table in
    let more = table ++ replicate 64 0 in
    let long = are.long in
    let there = read_at table k offset (omega (arith, lt, long)) read in
    let first : (offset - top) / 64 ≡ 0 = omega (arith, low) in
    let none : IsAt numbers k 0 = subst (λ (n : ℕ). IsAt numbers k n) first (number_of top table are k offset lt there) in
    let count = are.gathered.count in
    let rest = length-drop top table in
    let len = length-append table (replicate 64 0) in
    let len' = length-set more k row in
    let next : (row - top) / 64 ≡ suc (named numbers) = omega (arith, count, rest, is) in
    let less = named_lt numbers k none in
    let all = length_row_numbers top table are in
    let few = are.few in
    let tops : take top (set more k row) ≡ set (take top table) k row =
    take-set-lt top more k row lt ∙ ap (λ (l : List ℕ). set l k row) (take-append-le top table (replicate 64 0) long) in
    let rows : drop top (set more k row) ≡ before ++ replicate 64 0 =
    drop-set-lt top more k row lt ∙ drop-append-le top table (replicate 64 0) long in
    let now : row_numbers top (set more k row) ≡ set numbers k (suc (named numbers)) =
    ap (map (λ (o : ℕ). (o - top) / 64)) tops ∙ map-set (λ (o : ℕ). (o - top) / 64) (take top table) k row ∙ ap (set numbers k) next in
    record {
      high = omega (arith, count, rest, is);
      fits = omega (arith, count, rest, is, less, all, few);
      at = at_set_same more k row (omega (arith, lt, long, len));
      sound =
          record {
            gathered = rw (rows, now) (grown 64 0 before numbers k are.gathered none);
            long = omega (arith, long, len, len');
            few = few;
            whole =
                rw tops
                (λ i o at.
                elim (at_set_back (take top table) k i row o at) [
                  | inl here ↦ let e = here.1 in omega (arith, e, is, count, rest)
                  | inr other ↦ are.whole i o other.1
                ]);
          };
      same = rw (rows, now) (grown_same 64 0 before numbers k are.gathered none);
    }

pub one_row_more : (top : ℕ) (table new : List ℕ) (k offset row len : ℕ) → AreNumbers top table → k < top → offset ≡ get_or table k offset → offset ≤ top
    → row ≡ len → len ≡ length table → new ≡ take (row + 64) table ++ replicate (row + 64 - len) 0 → IsGrown top table new k row
one_row_more top table new k offset row len are lt read low e is made =
    subst (λ (l : List ℕ). IsGrown top table l k row) (sym (made ∙ longer table row len e is))
    (grown_table top table k offset row are lt read low (e ∙ is))

-- All numbers are 0.
pub record AreZeroes (top : ℕ) (table : List ℕ) : Type 0 where
  pub sound : AreNumbers top table
  pub len : length (numbers_in top table) ≡ top * 64
  pub is : numbers_in top table ≡ replicate (length (numbers_in top table)) 0

all_first : (n first : ℕ) → map (λ (o : ℕ). (o - first) / 64) (replicate n first) ≡ replicate n 0
all_first zero first = refl
all_first (suc n) first =
    let none : (first - first) / 64 ≡ 0 = omega arith in
    rw none (ap (λ (l : List ℕ). 0 ∷ l) (all_first n first))

first_table : (top : ℕ) (table : List ℕ) → top * 65 < 2 ^ 32 → take top table ≡ replicate top top → drop top table ≡ replicate 64 0 → top ≤ length table
    → AreZeroes top table
first_table top table few tops rest long =
    let sound : AreNumbers top table = record {
      gathered = rw (rest, tops, all_first top top) (first_is_gathered {A = ℕ} 64 top 0 (omega arith));
      long = long;
      few = few;
      whole = rw tops (λ i o at. let e = at_copies top top i o at in omega (arith, e));
    } in
    let len = length_numbers_in top table sound in
    let is : numbers_in top table ≡ replicate (top * 64) 0 = rw (rest, tops, all_first top top) (gathered_first {A = ℕ} 64 top 0) in
    record { sound = sound; len = len; is = is ∙ ap (λ (n : ℕ). replicate {A = ℕ} n 0) (sym len) }

-- At first all places have row 0, which is made behind their offsets.
pub first_numbers : (top len : ℕ) (tops table : List ℕ) → top * 65 < 2 ^ 32 → tops ≡ replicate top top → top ≡ len → len ≡ length tops
    → table ≡ take (top + 64) tops ++ replicate (top + 64 - len) 0 → AreZeroes top table
first_numbers top len tops table few all e is made =
    let zeroes = replicate {A = ℕ} 64 0 in
    let count : length tops ≡ top = sym (e ∙ is) in
    let now : table ≡ tops ++ zeroes = made ∙ longer tops top len e is in
    let both = ap length now ∙ length-append tops zeroes in
    first_table top table few
    (ap (take top) now ∙ ap (λ (n : ℕ). take n (tops ++ zeroes)) (sym count) ∙ take-append_seam tops zeroes ∙ all)
    (ap (drop top) now ∙ ap (λ (n : ℕ). drop n (tops ++ zeroes)) (sym count) ∙ drop-append_seam tops zeroes) (omega (arith, both, count))
