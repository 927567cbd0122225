-- Whether one of the LBAs of a range passes a test.
use Rattle.std.proofs.Common.{◌≡◌, ℕ, zero, suc, ◌+◌, ◌-◌, ◌<◌, ◌≤◌, nat_lt, nat_le, min, max, List, Bool, true, false, ◌&&◌, ◌||◌, ◌⊎◌, inl, inr, Option, None, Some, refl, sym, ap, ◌∙◌, arith, drop}
use Rattle.std.proofs.lemmas.Bool.{cases_Bool, false≢true, ltb-true, ltb-false}
use Rattle.std.proofs.lemmas.Bool.Decides.{nat_tests}
use Rattle.std.specs.List.{list_any, range_with_len}
use Rattle.std.specs.Option.{SomeIff, is_some}
use Rattle.nvm_record.specs.declared.lba_range.LbaRange.{LbaRange}
use Rattle.nvm_record.specs.Ranges.{cut_range, range_at, range_count, range_has, ranges_have, ranges_of}
use Rattle.nvm_explain.proofs.Ranges.{next_range, no_range}

or_true : (b : Bool) → (b || true) ≡ true
or_true true = refl
or_true false = refl

-- One of them does.
some_passes : (test : ℕ → Bool) (first count lba : ℕ) → first ≤ lba → lba < first + count → test lba ≡ true
    → list_any test (range_with_len first count) ≡ true
some_passes test first zero lba above below passes = absurd (omega (arith, above, below))
some_passes test first (suc count) lba above below passes =
    elim (cases_Bool (nat_lt first lba)) [
      | inl later ↦
          let low = ltb-true first lba later in
          ap (λ (c : Bool). test first || c) (some_passes test (first + 1) count lba (omega (arith, low)) (omega (arith, below)) passes)
          ∙ or_true (test first)
      | inr here ↦
          let low = ltb-false first lba here in
          let same : first ≡ lba = omega (arith, low, above) in
          ap (λ (n : ℕ). test n || list_any test (range_with_len (first + 1) count)) same
          ∙ ap (λ (c : Bool). c || list_any test (range_with_len (first + 1) count)) passes
    ]

-- Two tests that agree on each of them.
same_passes : (test other : ℕ → Bool) (first count : ℕ) → ((lba : ℕ) → first ≤ lba → lba < first + count → test lba ≡ other lba)
    → list_any test (range_with_len first count) ≡ list_any other (range_with_len first count)
same_passes test other first zero same = refl
same_passes test other first (suc count) same =
    ap (λ (c : Bool). c || list_any test (range_with_len (first + 1) count)) (same first (omega arith) (omega arith))
    ∙ ap (λ (c : Bool). other first || c)
    (same_passes test other (first + 1) count (λ lba above below. same lba (omega (arith, above)) (omega (arith, below))))

nothing : (first count : ℕ) → list_any (λ lba. false) (range_with_len first count) ≡ false
nothing first zero = refl
nothing first (suc count) = nothing (first + 1) count

-- None of them does.
none_passes : (test : ℕ → Bool) (first count : ℕ) → ((lba : ℕ) → first ≤ lba → lba < first + count → test lba ≡ false)
    → list_any test (range_with_len first count) ≡ false
none_passes test first count fails = same_passes test (λ lba. false) first count fails ∙ nothing first count

is_true : (first count : ℕ) → 0 < count → list_any (λ lba. true) (range_with_len first count) ≡ true
is_true first count some = some_passes (λ lba. true) first count first (omega arith) (omega (arith, some)) refl

outside : (first end a : ℕ) → (a < first) ⊎ (end ≤ a) → (nat_le first a && nat_lt a end) ≡ false
outside first end a apart = grind (arith, nat_tests)

inside : (first end a : ℕ) → first ≤ a → a < end → (nat_le first a && nat_lt a end) ≡ true
inside first end a above below = grind (arith, nat_tests)

and_false : (b c : Bool) → c ≡ false → (b && c) ≡ false
and_false true c is = is
and_false false c is = refl

and_true : (b c : Bool) → c ≡ true → (b && c) ≡ b
and_true true c is = is
and_true false c is = refl

-- Those of a part of them: the `n` from `low`, which lie from `first` to below `end`.
narrowed : (test : ℕ → Bool) (first end a count low n : ℕ) → low ≡ max first a → n ≡ min end (a + count) - low
    → list_any test (range_with_len low n) ≡ list_any (λ lba. test lba && (nat_le first lba && nat_lt lba end)) (range_with_len a count)
narrowed test first end a zero low n at long =
    let none : n ≡ 0 = omega (arith, at, long) in
    ap (λ (k : ℕ). list_any test (range_with_len low k)) none
narrowed test first end a (suc count) low n at long =
    let among : ℕ → Bool = λ lba. nat_le first lba && nat_lt lba end in
    let rest : Bool = list_any (λ lba. test lba && among lba) (range_with_len (a + 1) count) in
    elim (cases_Bool (nat_lt a first)) [
      | inl before ↦
          let under = ltb-true a first before in
          narrowed test first end (a + 1) count low n (omega (arith, at, under)) (omega (arith, at, long))
          ∙ ap (λ (d : Bool). d || rest) (sym (and_false (test a) (among a) (outside first end a (inl under))))
      | inr later ↦
          let high = ltb-false a first later in
          let here : low ≡ a = omega (arith, at, high) in
          elim (cases_Bool (nat_lt a end)) [
            | inl before ↦
                let below = ltb-true a end before in
                let left : ℕ = min end (a + 1 + count) - (a + 1) in
                let more : n ≡ suc left = omega (arith, long, here, below) in
                ap (λ (k : ℕ). list_any test (range_with_len low k)) more
                ∙ ap (λ (l : ℕ). list_any test (range_with_len l (suc left))) here
                ∙ ap (λ (d : Bool). test a || d) (narrowed test first end (a + 1) count (a + 1) left (omega (arith, high)) refl)
                ∙ ap (λ (d : Bool). d || rest) (sym (and_true (test a) (among a) (inside first end a high below)))
            | inr past_end ↦
                let past = ltb-false a end past_end in
                let none : n ≡ 0 = omega (arith, long, here, past) in
                ap (λ (k : ℕ). list_any test (range_with_len low k)) none
                ∙ sym (none_passes (λ lba. test lba && among lba) a (suc count) (λ lba above below.
                and_false (test lba) (among lba) (outside first end lba (inr (omega (arith, above, past))))))
          ]
    ]

-- Something of a range lies among the blocks from `first`.
pub cut_there : (first blocks : ℕ) (r : LbaRange) → 0 < (cut_range first blocks r).blocks
    → list_any (λ lba. nat_le first lba && nat_lt lba (first + blocks)) (range_with_len r.first r.blocks) ≡ true
cut_there first blocks r some =
    let cut = cut_range first blocks r in
    sym (narrowed (λ lba. true) first (first + blocks) r.first r.blocks cut.first cut.blocks refl refl) ∙ is_true cut.first cut.blocks some

gone : (first blocks : ℕ) (r : LbaRange) (lba : ℕ) → (cut_range first blocks r).blocks ≤ 0 → r.first ≤ lba → lba < r.first + r.blocks
    → (nat_le first lba && nat_lt lba (first + blocks)) ≡ false
gone first blocks r lba short above below = grind (arith, nat_tests)

-- Nothing of it does.
pub cut_gone : (first blocks : ℕ) (r : LbaRange) → ¬ (0 < (cut_range first blocks r).blocks)
    → list_any (λ lba. nat_le first lba && nat_lt lba (first + blocks)) (range_with_len r.first r.blocks) ≡ false
cut_gone first blocks r none =
    let short : (cut_range first blocks r).blocks ≤ 0 = omega (arith, none) in
    none_passes (λ lba. nat_le first lba && nat_lt lba (first + blocks)) r.first r.blocks
    (λ lba above below. gone first blocks r lba short above below)

-- What of a range lies among the blocks has one that passes where the range has.
pub cut_passes : (test : ℕ → Bool) (first blocks : ℕ) (r : LbaRange)
    → list_any test (range_with_len (cut_range first blocks r).first (cut_range first blocks r).blocks)
    ≡ list_any (λ lba. test lba && (nat_le first lba && nat_lt lba (first + blocks))) (range_with_len r.first r.blocks)
cut_passes test first blocks r =
    narrowed test first (first + blocks) r.first r.blocks (cut_range first blocks r).first (cut_range first blocks r).blocks refl refl

-- Where nothing of it lies there, none of it passes.
pub cut_fails : (test : ℕ → Bool) (first blocks : ℕ) (r : LbaRange) → ¬ (0 < (cut_range first blocks r).blocks)
    → list_any (λ lba. test lba && (nat_le first lba && nat_lt lba (first + blocks))) (range_with_len r.first r.blocks) ≡ false
cut_fails test first blocks r none =
    let short : (cut_range first blocks r).blocks ≡ 0 = omega (arith, none) in
    sym (cut_passes test first blocks r) ∙ ap (λ (n : ℕ). list_any test (range_with_len (cut_range first blocks r).first n)) short

missed : (r named : LbaRange) (lba : ℕ) → (cut_range r.first r.blocks named).blocks ≤ 0 → r.first ≤ lba → lba < r.first + r.blocks
    → range_has named lba ≡ false
missed r named lba short above below = grind (arith, nat_tests)

-- A range has one of the blocks of another.
pub range_met : (payload : List ℕ) (place : ℕ) (r : LbaRange) → place < range_count payload
    → 0 < (cut_range r.first r.blocks (range_at payload place)).blocks
    → list_any (λ lba. ranges_have (drop place (ranges_of payload)) lba) (range_with_len r.first r.blocks) ≡ true
range_met payload place r low some =
    let named = range_at payload place in
    let lba = max r.first named.first in
    let has : range_has named lba ≡ true = inside named.first (named.first + named.blocks) lba (omega arith) (omega (arith, some)) in
    some_passes (λ lba. ranges_have (drop place (ranges_of payload)) lba) r.first r.blocks lba (omega arith) (omega (arith, some))
    (next_range payload place lba low ∙ ap (λ b. b || ranges_have (drop (place + 1) (ranges_of payload)) lba) has)

-- It has none of them.
pub range_missed : (payload : List ℕ) (place : ℕ) (r : LbaRange) → place < range_count payload
    → ¬ (0 < (cut_range r.first r.blocks (range_at payload place)).blocks)
    → list_any (λ lba. ranges_have (drop place (ranges_of payload)) lba) (range_with_len r.first r.blocks)
    ≡ list_any (λ lba. ranges_have (drop (place + 1) (ranges_of payload)) lba) (range_with_len r.first r.blocks)
range_missed payload place r low none =
    let short : (cut_range r.first r.blocks (range_at payload place)).blocks ≤ 0 = omega (arith, none) in
    same_passes (λ lba. ranges_have (drop place (ranges_of payload)) lba) (λ lba. ranges_have (drop (place + 1) (ranges_of payload)) lba)
    r.first r.blocks
    (λ lba above below.
    next_range payload place lba low
    ∙ ap (λ b. b || ranges_have (drop (place + 1) (ranges_of payload)) lba) (missed r (range_at payload place) lba short above below))

-- None is left.
pub all_missed : (payload : List ℕ) (place : ℕ) (r : LbaRange) → range_count payload ≤ place
    → list_any (λ lba. ranges_have (drop place (ranges_of payload)) lba) (range_with_len r.first r.blocks) ≡ false
all_missed payload place r past =
    none_passes (λ lba. ranges_have (drop place (ranges_of payload)) lba) r.first r.blocks
    (λ lba above below. no_range payload place lba past)

-- What it says of a cut that something is left of it.
pub some_left : (cut : Option LbaRange) (P : Type 0) (it : LbaRange) → SomeIff cut P it → is_some cut ≡ true → P
some_left None P it iff is = absurd (false≢true is)
some_left (Some x) P it iff is = iff.0

pub none_left : (cut : Option LbaRange) (P : Type 0) (it : LbaRange) → SomeIff cut P it → is_some cut ≡ false → ¬ P
none_left None P it iff is = iff
none_left (Some x) P it iff is = absurd (false≢true (sym is))
