-- Blocks that are cut from bytes, some of them marked.
use Rattle.std.proofs.Common.{◌≡◌, ◌⊎◌, ℕ, zero, suc, ◌+◌, ◌-◌, ◌*◌, ◌<◌, ◌≤◌, List, [], ◌∷◌, ◌++◌, length, take, drop, replicate, get_or, Bool, true, false, refl, sym, ap, ◌∙◌, subst, arith, inl, inr}
use mathlib.Core.Option.{some-injective, some-ne-none}
use Rattle.std.proofs.lemmas.Bool.{true≢false}
use Rattle.std.proofs.lemmas.List.{drop-append-le, drop-replicate, length-append, length-drop, length-replicate, length-take-le, replicate-append-replicate, take-append-le, take-replicate, take_all}
use Rattle.std.specs.Bool.{if◌then◌else◌}
use Rattle.std.specs.Prelude.{Err, IsOk, Ok, OnOk, Result, is_ok}
use Rattle.std.specs.List.{list_any}
use Rattle.nvm_record.specs.declared.block.Block.{Block}
use Rattle.nvm_record.specs.declared.block.Block.TheVariants.{Bytes, Uncorrectable}
use Rattle.nvm_record.specs.Lists.{IsAt}
use Rattle.nvm_record.specs.Medium.{has_mark, joined}
use Rattle.nvm_record.specs.Step.{block_at}
use Rattle.nvm_store.specs.Inside.Flat.{SizedBlocks, cut, marked_as, with_bytes}
use Rattle.nvm_store.specs.Inside.Rewrite.{IsRewritten, stretch_of, zero_block}
use Rattle.nvm_store.proofs.AtLemmas.{at_append_left, at_below, at_read}
use Rattle.nvm_store.proofs.Data.{none_left}
use Rattle.nvm_store.proofs.FlatBytes.{at_cut, cut_front, drop_cut, joined_stretch, length_cut, length_with_bytes, mul_le, rewritten_cut, span_within, stretch_cut, take_cut, unmarked_cut, unmarked_stretch, zeroed_cut, zeroes_cut}
use Rattle.nvm_store.proofs.Rewrites.{at_append_right, at_take}

length_marked_as : (marks : List Bool) (blocks : List Block) → length (marked_as marks blocks) ≡ length blocks
length_marked_as [] blocks = refl
length_marked_as (mark ∷ marks) [] = refl
length_marked_as (mark ∷ marks) (block ∷ blocks) = ap suc (length_marked_as marks blocks)

-- There is one block for each mark.
pub length_flat : (marks : List Bool) (size : ℕ) (bytes : List ℕ) → length (marked_as marks (cut (length marks) size bytes)) ≡ length marks
length_flat marks size bytes = length_marked_as marks (cut (length marks) size bytes) ∙ length_cut (length marks) size bytes

-- So places among the blocks are places among the marks.
pub flat_within : (marks : List Bool) (size : ℕ) (bytes : List ℕ) (kept : SizedBlocks) (m : ℕ)
    → ◌≡◌ {A = SizedBlocks} (record { size = size; list = marked_as marks (cut (length marks) size bytes) }) kept → m ≤ length kept.list → m ≤ length marks
flat_within marks size bytes kept m is le =
    let len = length_flat marks size bytes in
    let same = ap (λ (k : SizedBlocks). length k.list) is in
    omega (arith, le, len, same)

-- Without a mark they are as they are cut.
unmarked_as : (n : ℕ) (blocks : List Block) → marked_as (replicate n false) blocks ≡ blocks
unmarked_as zero blocks = refl
unmarked_as (suc n) [] = refl
unmarked_as (suc n) (block ∷ blocks) = ap (λ (l : List Block). block ∷ l) (unmarked_as n blocks)

none_marked : (marks : List Bool) (blocks : List Block) → marks ≡ replicate (length marks) false → marked_as marks blocks ≡ blocks
none_marked marks blocks none = ap (λ (m : List Bool). marked_as m blocks) none ∙ unmarked_as (length marks) blocks

marked_nothing : (marks : List Bool) → [] ≡ marked_as marks []
marked_nothing [] = refl
marked_nothing (mark ∷ marks) = refl

drop_marked : (n : ℕ) (marks : List Bool) (blocks : List Block) → drop n (marked_as marks blocks) ≡ marked_as (drop n marks) (drop n blocks)
drop_marked zero marks blocks = refl
drop_marked (suc n) [] blocks = refl
drop_marked (suc n) (mark ∷ marks) [] = marked_nothing (drop n marks)
drop_marked (suc n) (mark ∷ marks) (block ∷ blocks) = drop_marked n marks blocks

take_marked : (n : ℕ) (marks : List Bool) (blocks : List Block) → take n (marked_as marks blocks) ≡ marked_as (take n marks) (take n blocks)
take_marked zero marks blocks = refl
take_marked (suc n) [] blocks = refl
take_marked (suc n) (mark ∷ marks) [] = refl
take_marked (suc n) (mark ∷ marks) (block ∷ blocks) =
    ap (λ (l : List Block). (if mark then Uncorrectable else block) ∷ l) (take_marked n marks blocks)

-- Some of the blocks have the marks of their places.
stretch_marked : (at count : ℕ) (marks : List Bool) (blocks : List Block)
    → stretch_of at count (marked_as marks blocks) ≡ marked_as (take count (drop at marks)) (stretch_of at count blocks)
stretch_marked at count marks blocks = ap (take count) (drop_marked at marks blocks) ∙ take_marked count (drop at marks) (drop at blocks)

-- A block is marked exactly where a mark is set.
module _ (test : Bool → Bool) (yes : test true ≡ true) (no : test false ≡ false) where
  any_marked : (marks : List Bool) (blocks : List Block) → length marks ≡ length blocks → has_mark blocks ≡ false
      → list_any test marks ≡ has_mark (marked_as marks blocks)
  any_marked [] [] len none = refl
  any_marked [] (block ∷ blocks) len none = absurd (omega (arith, len))
  any_marked (mark ∷ marks) [] len none = absurd (omega (arith, len))
  any_marked (true ∷ marks) (block ∷ blocks) len none = rw yes refl
  any_marked (false ∷ marks) (Bytes bytes ∷ blocks) len none = rw no (any_marked marks blocks (omega (arith, len)) none)
  any_marked (false ∷ marks) (Uncorrectable ∷ blocks) len none = absurd (true≢false none)

  pub any_in_stretch : (at count size : ℕ) (marks : List Bool) (bytes : List ℕ) → at + count ≤ length marks
      → list_any test (take count (drop at marks)) ≡ has_mark (stretch_of at count (marked_as marks (cut (length marks) size bytes)))
  any_in_stretch at count size marks bytes within =
      let n = length marks in
      let left : length (drop at marks) ≡ n - at = length-drop at marks in
      let len : length (take count (drop at marks)) ≡ count = length-take-le count (drop at marks) (omega (arith, left, within)) in
      let as_many : length (stretch_of at count (cut n size bytes)) ≡ count =
      ap length (stretch_cut at count n size bytes within) ∙ length_cut count size (drop (at * size) bytes) in
      any_marked (take count (drop at marks)) (stretch_of at count (cut n size bytes)) (len ∙ sym as_many)
      (unmarked_stretch at count n size bytes within)
      ∙ ap has_mark (sym (stretch_marked at count marks (cut n size bytes)))

-- Without a mark no block is marked.
pub none_at_all : (size : ℕ) (marks : List Bool) (bytes : List ℕ) → marks ≡ replicate (length marks) false
    → has_mark (marked_as marks (cut (length marks) size bytes)) ≡ false
none_at_all size marks bytes none =
    ap has_mark (none_marked marks (cut (length marks) size bytes) none) ∙ unmarked_cut (length marks) size bytes

-- So none of a range is.
pub none_in_stretch : (at count size : ℕ) (marks : List Bool) (bytes : List ℕ) → at + count ≤ length marks → marks ≡ replicate (length marks) false
    → false ≡ has_mark (stretch_of at count (marked_as marks (cut (length marks) size bytes)))
none_in_stretch at count size marks bytes within none =
    sym (unmarked_stretch at count (length marks) size bytes within)
    ∙ ap (λ (l : List Block). has_mark (stretch_of at count l)) (sym (none_marked marks (cut (length marks) size bytes) none))

-- Blocks of which none is marked are as they were before the marks.
before_marks : (marks : List Bool) (blocks : List Block) → has_mark (marked_as marks blocks) ≡ false → marked_as marks blocks ≡ blocks
before_marks [] blocks none = refl
before_marks (mark ∷ marks) [] none = refl
before_marks (true ∷ marks) (block ∷ blocks) none = absurd (true≢false none)
before_marks (false ∷ marks) (Uncorrectable ∷ blocks) none = absurd (true≢false none)
before_marks (false ∷ marks) (Bytes bytes ∷ blocks) none = ap (λ (l : List Block). Bytes bytes ∷ l) (before_marks marks blocks none)

-- Their bytes stand side by side.
pub joined_unmarked : (at count size : ℕ) (marks : List Bool) (bytes : List ℕ) → at + count ≤ length marks
    → has_mark (stretch_of at count (marked_as marks (cut (length marks) size bytes))) ≡ false
    → take (count * size) (drop (at * size) bytes) ≡ joined (stretch_of at count (marked_as marks (cut (length marks) size bytes)))
joined_unmarked at count size marks bytes within none =
    let n = length marks in
    let is = stretch_marked at count marks (cut n size bytes) in
    let same = before_marks (take count (drop at marks)) (stretch_of at count (cut n size bytes)) (ap has_mark (sym is) ∙ none) in
    sym (joined_stretch at count n size bytes within) ∙ ap joined (sym same) ∙ ap joined (sym is)

at_marked : (marks : List Bool) (blocks : List Block) (i : ℕ) (mark : Bool) (block : Block) → IsAt marks i mark → IsAt blocks i block
    → IsAt (marked_as marks blocks) i (if mark then Uncorrectable else block)
at_marked [] blocks i mark block is there = absurd (some-ne-none mark (sym is))
at_marked (m ∷ marks) [] i mark block is there = absurd (some-ne-none block (sym there))
at_marked (m ∷ marks) (b ∷ blocks) zero mark block is there =
    rw (← some-injective m mark is, ← some-injective b block there) refl
at_marked (m ∷ marks) (b ∷ blocks) (suc i) mark block is there = at_marked marks blocks i mark block is there

module _ {A : Type 0} where
  at_repeated : (n : ℕ) (x : A) (i : ℕ) → i < n → IsAt (replicate n x) i x
  at_repeated zero x i lt = absurd (omega arith)
  at_repeated (suc n) x zero lt = refl
  at_repeated (suc n) x (suc i) lt = at_repeated n x i (omega arith)

  at_drop : (n : ℕ) (xs : List A) (i : ℕ) (x : A) → IsAt xs (n + i) x → IsAt (drop n xs) i x
  at_drop zero xs i x is = let e : 0 + i ≡ i = omega arith in rw e at is
  at_drop (suc n) [] i x is = is
  at_drop (suc n) (y ∷ xs) i x is = let e : suc n + i ≡ suc (n + i) = omega arith in at_drop n xs i x (rw e at is)

-- the marks with those of `count` blocks from place `at` set so
abbrev with_marks : ℕ → ℕ → Bool → List Bool → List Bool
with_marks at count mark marks = take at marks ++ (replicate count mark ++ drop (at + count) marks)

module _ (at count : ℕ) (mark : Bool) (marks : List Bool) (within : at + count ≤ length marks) where
  before : length (take at marks) ≡ at
  before = length-take-le at marks (omega arith)

  length_with_marks : length (with_marks at count mark marks) ≡ length marks
  length_with_marks =
      let few = length-replicate count mark in
      let rest : length (drop (at + count) marks) ≡ length marks - (at + count) = length-drop (at + count) marks in
      let first = before in
      length-append (take at marks) (replicate count mark ++ drop (at + count) marks)
      ∙ ap (λ (k : ℕ). length (take at marks) + k) (length-append (replicate count mark) (drop (at + count) marks))
      ∙ omega (arith, few, rest, first)

  set_in : (i : ℕ) → i < count → IsAt (with_marks at count mark marks) (at + i) mark
  set_in i lt =
      subst (λ (n : ℕ). IsAt (with_marks at count mark marks) (n + i) mark) before
      (at_append_right (take at marks) (replicate count mark ++ drop (at + count) marks) i mark
      (at_append_left (replicate count mark) (drop (at + count) marks) i mark (at_repeated count mark i lt)))

  set_out : (j : ℕ) (m : Bool) → (j < at) ⊎ (at + count ≤ j) → IsAt marks j m → IsAt (with_marks at count mark marks) j m
  set_out j m (inl low) is =
      at_append_left (take at marks) (replicate count mark ++ drop (at + count) marks) j m (at_take at marks j m is low)
  set_out j m (inr high) is =
      let k = j - (at + count) in
      let there : j ≡ at + count + k = omega (arith, high) in
      let first = before in
      let few = length-replicate count mark in
      let place : length (take at marks) + (length (replicate count mark) + k) ≡ j = omega (arith, first, few, there) in
      subst (λ (n : ℕ). IsAt (with_marks at count mark marks) n m) place
      (at_append_right (take at marks) (replicate count mark ++ drop (at + count) marks) (length (replicate count mark) + k) m
      (at_append_right (replicate count mark) (drop (at + count) marks) k m (at_drop (at + count) marks k m (rw there at is))))

-- There are as many marks.
pub set_keeps : (at count : ℕ) (mark : Bool) (marks others : List Bool) → at + count ≤ length marks → others ≡ with_marks at count mark marks
    → length others ≡ length marks
set_keeps at count mark marks others within is = ap length is ∙ length_with_marks at count mark marks within

-- There are as many bytes.
pub put_keeps : (at count size n : ℕ) (payload old new : List ℕ) → at + count ≤ n → length payload ≡ count * size → length old ≡ n * size
    → new ≡ with_bytes (at * size) payload old → length new ≡ n * size
put_keeps at count size n payload old new within few whole put =
    let span = span_within n size at count within in
    ap length put ∙ length_with_bytes (at * size) payload old (omega (arith, span, few, whole)) ∙ whole

-- Where the blocks are rewritten and their marks are set, the marked blocks are rewritten.
rewritten_marked : (at count : ℕ) (mark : Bool) (marks : List Bool) (news : ℕ → Block) (old new : List Block) → at + count ≤ length marks
    → length old ≡ length marks → IsRewritten at count news old new
    → IsRewritten at count (λ i. if mark then Uncorrectable else news i) (marked_as marks old) (marked_as (with_marks at count mark marks) new)
rewritten_marked at count mark marks news old new within len put = record {
  len = length_marked_as (with_marks at count mark marks) new ∙ put.len ∙ sym (length_marked_as marks old);
  rewritten =
      λ i lt.
      at_marked (with_marks at count mark marks) new (at + i) mark (news i) (set_in at count mark marks within i lt) (put.rewritten i lt);
  others =
      λ j block out is.
      let below = at_below (marked_as marks old) j block is in
      let all = length_marked_as marks old in
      let m = get_or marks j false in
      let b = get_or old j Uncorrectable in
      let has : IsAt marks j m = at_read marks j false (omega (arith, below, all, len)) in
      let there : IsAt old j b = at_read old j Uncorrectable (omega (arith, below, all)) in
      let same : (if m then Uncorrectable else b) ≡ block =
      some-injective (if m then Uncorrectable else b) block (sym (at_marked marks old j m b has there) ∙ is) in
      subst (λ (x : Block). IsAt (marked_as (with_marks at count mark marks) new) j x) same
      (at_marked (with_marks at count mark marks) new j m b (set_out at count mark marks within j m out has) (put.others j b out there));
}

-- The same of blocks that are cut.
cut_marked : (at count size : ℕ) (mark : Bool) (marks others : List Bool) (news : ℕ → Block) (old new : List ℕ) → at + count ≤ length marks
    → others ≡ with_marks at count mark marks → IsRewritten at count news (cut (length marks) size old) (cut (length marks) size new)
    → IsRewritten at count (λ i. if mark then Uncorrectable else news i) (marked_as marks (cut (length marks) size old))
    (marked_as others (cut (length others) size new))
cut_marked at count size mark marks others news old new within is put =
    rw (is, length_with_marks at count mark marks within)
    (rewritten_marked at count mark marks news (cut (length marks) size old) (cut (length marks) size new) within (length_cut (length marks) size old) put)

-- Where none is marked the cut blocks are all there is.
cut_unmarked : (at count size : ℕ) (marks : List Bool) (news : ℕ → Block) (old new : List ℕ) → marks ≡ replicate (length marks) false
    → IsRewritten at count news (cut (length marks) size old) (cut (length marks) size new)
    → IsRewritten at count news (marked_as marks (cut (length marks) size old)) (marked_as marks (cut (length marks) size new))
cut_unmarked at count size marks news old new none put =
    let one = none_marked marks (cut (length marks) size old) none in
    let other = none_marked marks (cut (length marks) size new) none in
    rw (one, other) put

pub put_marked : (at count size : ℕ) (marks others : List Bool) (payload old new : List ℕ) → at + count ≤ length marks → length payload ≡ count * size
    → length old ≡ length marks * size → new ≡ with_bytes (at * size) payload old → others ≡ with_marks at count false marks
    → IsRewritten at count (block_at size payload) (marked_as marks (cut (length marks) size old)) (marked_as others (cut (length others) size new))
put_marked at count size marks others payload old new within few whole put is =
    cut_marked at count size false marks others (block_at size payload) old new within is
    (rw put (rewritten_cut at count (length marks) size payload old within few whole))

pub put_unmarked : (at count size : ℕ) (marks : List Bool) (payload old new : List ℕ) → at + count ≤ length marks → length payload ≡ count * size
    → length old ≡ length marks * size → new ≡ with_bytes (at * size) payload old → marks ≡ replicate (length marks) false
    → IsRewritten at count (block_at size payload) (marked_as marks (cut (length marks) size old)) (marked_as marks (cut (length marks) size new))
put_unmarked at count size marks payload old new within few whole put none =
    cut_unmarked at count size marks (block_at size payload) old new none
    (rw put (rewritten_cut at count (length marks) size payload old within few whole))

zeroed_pages : (at count n size : ℕ) (old new : List ℕ) → at + count ≤ n → length old ≡ n * size → new ≡ with_bytes (at * size) (replicate (count * size) 0) old
    → IsRewritten at count (λ i. zero_block size) (cut n size old) (cut n size new)
zeroed_pages at count n size old new within whole put = rw put (zeroed_cut n size at count old whole within)

pub clear_marked : (at count size : ℕ) (marks others : List Bool) (old new : List ℕ) → at + count ≤ length marks → length old ≡ length marks * size
    → new ≡ with_bytes (at * size) (replicate (count * size) 0) old → others ≡ with_marks at count false marks
    → IsRewritten at count (λ i. zero_block size) (marked_as marks (cut (length marks) size old)) (marked_as others (cut (length others) size new))
clear_marked at count size marks others old new within whole put is =
    cut_marked at count size false marks others (λ i. zero_block size) old new within is
    (zeroed_pages at count (length marks) size old new within whole put)

pub clear_unmarked : (at count size : ℕ) (marks : List Bool) (old new : List ℕ) → at + count ≤ length marks → length old ≡ length marks * size
    → new ≡ with_bytes (at * size) (replicate (count * size) 0) old → marks ≡ replicate (length marks) false
    → IsRewritten at count (λ i. zero_block size) (marked_as marks (cut (length marks) size old)) (marked_as marks (cut (length marks) size new))
clear_unmarked at count size marks old new within whole put none =
    cut_unmarked at count size marks (λ i. zero_block size) old new none (zeroed_pages at count (length marks) size old new within whole put)

pub mark_marked : (at count size : ℕ) (marks others : List Bool) (bytes : List ℕ) → at + count ≤ length marks → others ≡ with_marks at count true marks
    → IsRewritten at count (λ i. Uncorrectable) (marked_as marks (cut (length marks) size bytes)) (marked_as others (cut (length others) size bytes))
mark_marked at count size marks others bytes within is =
    cut_marked at count size true marks others (λ i. block_at size bytes (at + i)) bytes bytes within is
    (record {
      len = refl;
      rewritten = λ i lt. at_cut (length marks) size bytes (at + i) (omega (arith, lt, within));
      others = λ j block out there. there;
    })

-- Blocks of zero bytes of which none is marked.
pub fresh_pages : (count size : ℕ) (marks : List Bool) (bytes : List ℕ) → marks ≡ replicate count false → bytes ≡ replicate (count * size) 0
    → marked_as marks (cut (length marks) size bytes) ≡ replicate count (zero_block size)
fresh_pages count size marks bytes none zeroes = rw (none, zeroes, length-replicate count false, unmarked_as count) (zeroes_cut count size)

-- Blocks side by side, where the first have all their bytes.
flat_append : (size : ℕ) (marks others : List Bool) (bytes rest : List ℕ) → length bytes ≡ length marks * size
    → marked_as (marks ++ others) (cut (length (marks ++ others)) size (bytes ++ rest))
    ≡ marked_as marks (cut (length marks) size bytes) ++ marked_as others (cut (length others) size rest)
flat_append size [] others bytes rest whole =
    let none : 0 * size ≡ 0 = omega arith in
    let empty = none_left bytes (whole ∙ none) in
    rw (← empty) refl
flat_append size (mark ∷ marks) others bytes rest whole =
    let one : suc (length marks) * size ≡ size + length marks * size = grind arith in
    let front : size ≤ length bytes = omega (arith, whole, one) in
    let first : take size (bytes ++ rest) ≡ take size bytes = take-append-le size bytes rest front in
    let behind : drop size (bytes ++ rest) ≡ drop size bytes ++ rest = drop-append-le size bytes rest front in
    let left : length (drop size bytes) ≡ length marks * size = length-drop size bytes ∙ omega (arith, whole, one) in
    rw (first, behind)
    (ap (λ (l : List Block). (if mark then Uncorrectable else Bytes (take size bytes)) ∷ l) (flat_append size marks others (drop size bytes) rest left))

-- Blocks of zero bytes come after the others.
extended : (n size : ℕ) (marks : List Bool) (bytes : List ℕ) → length bytes ≡ length marks * size
    → marked_as (marks ++ replicate n false)
    (cut (length (marks ++ replicate n false)) size (bytes ++ replicate (n * size) 0))
    ≡ marked_as marks (cut (length marks) size bytes) ++ replicate n (zero_block size)
extended n size marks bytes whole =
    flat_append size marks (replicate n false) bytes (replicate (n * size) 0) whole
    ∙ ap (λ (l : List Block). marked_as marks (cut (length marks) size bytes) ++ l)
    (fresh_pages n size (replicate n false) (replicate (n * size) 0) refl refl)

-- all of a list, and more
resized : {A : Type 0} (n : ℕ) (xs : List A) (x : A) (k : ℕ) → n ≡ length xs + k → take n xs ++ replicate (n - length xs) x ≡ xs ++ replicate k x
resized {A = A} n xs x k is =
    let left : n - length xs ≡ k = omega (arith, is) in
    ap (λ (m : ℕ). take n xs ++ replicate m x) left ∙ ap (λ (l : List A). l ++ replicate k x) (take_all n xs (omega (arith, is)))

-- What there is of more blocks, where the bytes and the marks are filled up.
module _ (n size count : ℕ) (marks others : List Bool) (old new : List ℕ) (whole : length old ≡ length marks * size) (is : count ≡ length marks + n)
    (filled : new ≡ take (count * size) old ++ replicate (count * size - length old) 0)
    (set : others ≡ take count marks ++ replicate (count - length marks) false) where
  longer : new ≡ old ++ replicate (n * size) 0
  longer =
      let past : (length marks + n) * size ≡ length marks * size + n * size = grind arith in
      let all : count * size ≡ length old + n * size = ap (λ (k : ℕ). k * size) is ∙ past ∙ ap (λ (k : ℕ). k + n * size) (sym whole) in
      filled ∙ resized (count * size) old 0 (n * size) all

  with_more : others ≡ marks ++ replicate n false
  with_more = set ∙ resized count marks false n is

  count_others : length others ≡ length marks + n
  count_others =
      ap length with_more ∙ length-append marks (replicate n false) ∙ ap (λ (k : ℕ). length marks + k) (length-replicate n false)

  pub extended_pages : marked_as others (cut (length others) size new)
      ≡ marked_as marks (cut (length marks) size old) ++ replicate n (zero_block size)
  extended_pages = rw (with_more, longer) (extended n size marks old whole)

  pub extended_whole : length new ≡ length others * size
  extended_whole =
      let past : (length marks + n) * size ≡ length marks * size + n * size = grind arith in
      ap length longer
      ∙ length-append old (replicate (n * size) 0)
      ∙ ap (λ (k : ℕ). length old + k) (length-replicate (n * size) 0)
      ∙ ap (λ (k : ℕ). k + n * size) whole
      ∙ sym past
      ∙ ap (λ (k : ℕ). k * size) (sym count_others)

  pub extended_none : marks ≡ replicate (length marks) false → others ≡ replicate (length others) false
  extended_none none =
      with_more
      ∙ ap (λ (l : List Bool). l ++ replicate n false) none
      ∙ replicate-append-replicate (length marks) n false
      ∙ ap (λ (k : ℕ). replicate k false) (sym count_others)

-- What is there after a call that succeeds.
pub where_ok : {X E A : Type 0} (r : Result X E) (x a b : A) → IsOk r → x ≡ (if is_ok r then a else b) → x ≡ a
where_ok (Ok y) x a b ok is = is
where_ok (Err e) x a b ok is = absurd (true≢false (sym ok))

pub on_ok : {X E : Type 0} (r : Result X E) (P : Type 0) → P → OnOk r P
on_ok (Ok y) P is = is
on_ok (Err e) P is = tt

-- The first blocks have the first marks and bytes,
pub flat_take : (n size : ℕ) (marks : List Bool) (bytes : List ℕ) → n ≤ length marks
    → marked_as (take n marks) (cut (length (take n marks)) size (take (n * size) bytes)) ≡ take n (marked_as marks (cut (length marks) size bytes))
flat_take n size marks bytes le =
    ap (λ (k : ℕ). marked_as (take n marks) (cut k size (take (n * size) bytes))) (length-take-le n marks le)
    ∙ ap (marked_as (take n marks)) (cut_front n size bytes ∙ sym (take_cut n (length marks) size bytes le))
    ∙ sym (take_marked n marks (cut (length marks) size bytes))

-- and those behind them have the others.
flat_drop : (n size : ℕ) (marks : List Bool) (bytes : List ℕ) → n ≤ length marks
    → marked_as (drop n marks) (cut (length (drop n marks)) size (drop (n * size) bytes)) ≡ drop n (marked_as marks (cut (length marks) size bytes))
flat_drop n size marks bytes le =
    ap (λ (k : ℕ). marked_as (drop n marks) (cut k size (drop (n * size) bytes))) (length-drop n marks)
    ∙ ap (marked_as (drop n marks)) (sym (drop_cut n (length marks) size bytes le))
    ∙ sym (drop_marked n marks (cut (length marks) size bytes))

-- There are as many of their bytes.
pub take_whole : (n size : ℕ) (marks : List Bool) (bytes : List ℕ) → n ≤ length marks → length bytes ≡ length marks * size
    → length (take (n * size) bytes) ≡ length (take n marks) * size
take_whole n size marks bytes le whole =
    let far = mul_le n (length marks) size le in
    length-take-le (n * size) bytes (omega (arith, far, whole)) ∙ ap (λ (k : ℕ). k * size) (sym (length-take-le n marks le))

drop_whole : (n size : ℕ) (marks : List Bool) (bytes : List ℕ) → n ≤ length marks → length bytes ≡ length marks * size
    → length (drop (n * size) bytes) ≡ length (drop n marks) * size
drop_whole n size marks bytes le whole =
    let m = length marks - n in
    let all : length marks ≡ n + m = omega (arith, le) in
    let past : (n + m) * size ≡ n * size + m * size = grind arith in
    length-drop (n * size) bytes
    ∙ ap (λ (k : ℕ). k - n * size) (whole ∙ ap (λ (k : ℕ). k * size) all ∙ past)
    ∙ omega arith
    ∙ ap (λ (k : ℕ). k * size) (sym (length-drop n marks))

-- None of the first is marked where none of all is.
pub take_none : (n : ℕ) (marks : List Bool) → n ≤ length marks → marks ≡ replicate (length marks) false
    → take n marks ≡ replicate (length (take n marks)) false
take_none n marks le none =
    ap (take n) none
    ∙ take-replicate n (length marks) false le
    ∙ ap (λ (k : ℕ). replicate k false) (sym (length-take-le n marks le))

-- the items, of which `count` from place `from` are put over those from place `to`
abbrev copied : {A : Type 0} → ℕ → ℕ → ℕ → List A → List A
copied from to count xs = take to xs ++ (take count (drop from xs) ++ drop (to + count) xs)

module _ {A : Type 0} (from to count : ℕ) (xs : List A) (range : from + count ≤ length xs) (low : to + count ≤ from) where
  length_copied : length (copied from to count xs) ≡ length xs
  length_copied =
      let first : length (take to xs) ≡ to = length-take-le to xs (omega (arith, range, low)) in
      let left : length (drop from xs) ≡ length xs - from = length-drop from xs in
      let few : length (take count (drop from xs)) ≡ count = length-take-le count (drop from xs) (omega (arith, left, range)) in
      let rest : length (drop (to + count) xs) ≡ length xs - (to + count) = length-drop (to + count) xs in
      length-append (take to xs) (take count (drop from xs) ++ drop (to + count) xs)
      ∙ ap (λ (k : ℕ). length (take to xs) + k) (length-append (take count (drop from xs)) (drop (to + count) xs))
      ∙ omega (arith, range, low, first, few, rest)

-- What there is of the blocks where the bytes and the marks of some are put over those of others.
module _ (from to count size : ℕ) (marks others : List Bool) (old new : List ℕ) (range : from + count ≤ length marks) (low : to + count ≤ from)
    (whole : length old ≡ length marks * size) (put : new ≡ copied (from * size) (to * size) (count * size) old)
    (set : others ≡ copied from to count marks) where
  pub copied_flat : marked_as others (cut (length others) size new)
      ≡ copied from to count (marked_as marks (cut (length marks) size old))
  copied_flat =
      let past : to * size + count * size ≡ (to + count) * size = grind arith in
      let all = marked_as marks (cut (length marks) size old) in
      let behind = drop (to + count) marks in
      let behind_bytes = drop ((to + count) * size) old in
      let left : length (drop from marks) ≡ length marks - from = length-drop from marks in
      let within : count ≤ length (drop from marks) = omega (arith, left, range) in
      let some = take count (drop from marks) in
      let some_bytes = take (count * size) (drop (from * size) old) in
      let rest_whole = drop_whole from size marks old (omega (arith, range)) whole in
      rw (put, set, past)
      (flat_append size (take to marks) (some ++ behind) (take (to * size) old) (some_bytes ++ behind_bytes)
      (take_whole to size marks old (omega (arith, range, low)) whole)
      ∙ ap (λ (l : List Block). l ++ marked_as (some ++ behind) (cut (length (some ++ behind)) size (some_bytes ++ behind_bytes)))
      (flat_take to size marks old (omega (arith, range, low)))
      ∙ ap (λ (l : List Block). take to all ++ l)
      (flat_append size some behind some_bytes behind_bytes (take_whole count size (drop from marks) (drop (from * size) old) within rest_whole)
      ∙ ap (λ (l : List Block). l ++ marked_as behind (cut (length behind) size behind_bytes))
      (flat_take count size (drop from marks) (drop (from * size) old) within ∙ ap (take count) (flat_drop from size marks old (omega (arith, range))))
      ∙ ap (λ (l : List Block). take count (drop from all) ++ l) (flat_drop (to + count) size marks old (omega (arith, range, low)))))

  as_many : length others ≡ length marks
  as_many = ap length set ∙ length_copied from to count marks range low

  pub copied_whole : length new ≡ length others * size
  copied_whole =
      let span = span_within (length marks) size from count range in
      let before = span_within from size to count low in
      ap length put
      ∙ length_copied (from * size) (to * size) (count * size) old (omega (arith, span, whole)) before
      ∙ whole
      ∙ ap (λ (k : ℕ). k * size) (sym as_many)

  pub copied_none : marks ≡ replicate (length marks) false → others ≡ replicate (length others) false
  copied_none none =
      let n = length marks in
      let first : take to (replicate n false) ≡ replicate to false = take-replicate to n false (omega (arith, range, low)) in
      let few : take count (drop from (replicate n false)) ≡ replicate count false =
      ap (take count) (drop-replicate from n false) ∙ take-replicate count (n - from) false (omega (arith, range)) in
      let rest : drop (to + count) (replicate n false) ≡ replicate (n - (to + count)) false = drop-replicate (to + count) n false in
      let sum : to + (count + (n - (to + count))) ≡ n = omega (arith, range, low) in
      set
      ∙ ap (copied from to count) none
      ∙ ap (λ (l : List Bool). l ++ (take count (drop from (replicate n false)) ++ drop (to + count) (replicate n false))) first
      ∙ ap (λ (l : List Bool). replicate to false ++ (l ++ drop (to + count) (replicate n false))) few
      ∙ ap (λ (l : List Bool). replicate to false ++ (replicate count false ++ l)) rest
      ∙ ap (λ (l : List Bool). replicate to false ++ l) (replicate-append-replicate count (n - (to + count)) false)
      ∙ replicate-append-replicate to (count + (n - (to + count))) false
      ∙ ap (λ (k : ℕ). replicate k false) (sum ∙ sym as_many)
