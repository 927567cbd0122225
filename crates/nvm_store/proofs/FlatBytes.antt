-- Blocks that are cut from bytes, and what new bytes do to them.
use Rattle.std.proofs.Common.{◌≡◌, ℕ, zero, suc, ◌+◌, ◌-◌, ◌*◌, ◌<◌, ◌≤◌, List, ◌∷◌, ◌++◌, length, take, drop, replicate, false, refl, sym, ap, ◌∙◌, subst, arith, inl, inr}
use mathlib.Core.Option.{some-injective}
use Rattle.std.proofs.Math.Nat.{mul-le-mul_left}
use Rattle.std.proofs.Math.Seq.{drop-append-add, take-add}
use Rattle.std.proofs.lemmas.List.{drop-append-le, drop-drop, drop-replicate, drop-take, length-append, length-drop, length-replicate, length-take-le, take-append-le, take-replicate, take-take}
use Rattle.std.specs.List.{slice_range}
use Rattle.nvm_record.specs.declared.block.Block.{Block}
use Rattle.nvm_record.specs.declared.block.Block.TheVariants.{Bytes}
use Rattle.nvm_record.specs.Lists.{IsAt}
use Rattle.nvm_record.specs.Medium.{has_mark, joined}
use Rattle.nvm_record.specs.Step.{block_at}
use Rattle.nvm_store.specs.Inside.Flat.{cut, with_bytes}
use Rattle.nvm_store.specs.Inside.Rewrite.{IsRewritten, stretch_of, zero_block}
use Rattle.nvm_store.proofs.Rewrites.{at_below}

pub length_cut : (n s : ℕ) (bytes : List ℕ) → length (cut n s bytes) ≡ n
length_cut zero s bytes = refl
length_cut (suc n) s bytes = ap suc (length_cut n s (drop s bytes))

more : (i s : ℕ) → suc i * s ≡ s + i * s
more i s = grind arith

-- the bytes from the next block on
next : (i s : ℕ) (bytes : List ℕ) → drop (i * s) (drop s bytes) ≡ drop (suc i * s) bytes
next i s bytes = drop-drop (i * s) s bytes ∙ ap (λ (k : ℕ). drop k bytes) (sym (more i s))

pub at_cut : (n s : ℕ) (bytes : List ℕ) (i : ℕ) → i < n → IsAt (cut n s bytes) i (block_at s bytes i)
at_cut zero s bytes i lt = absurd (omega arith)
at_cut (suc n) s bytes zero lt = let none : 0 * s ≡ 0 = omega arith in rw none refl
at_cut (suc n) s bytes (suc i) lt =
    subst (λ (l : List ℕ). IsAt (cut n s (drop s bytes)) i (Bytes (take s l))) (next i s bytes) (at_cut n s (drop s bytes) i (omega arith))

-- It is the one that stands there.
pub is_at_cut : (n s : ℕ) (bytes : List ℕ) (i : ℕ) (block : Block) → IsAt (cut n s bytes) i block → (i < n) × (block ≡ block_at s bytes i)
is_at_cut n s bytes i block is =
    let below = at_below (cut n s bytes) i block is in
    let lt : i < n = omega (arith, below, length_cut n s bytes) in
    (lt, some-injective block (block_at s bytes i) (sym is ∙ at_cut n s bytes i lt))

pub zeroes_cut : (n s : ℕ) → cut n s (replicate (n * s) 0) ≡ replicate n (zero_block s)
zeroes_cut zero s = refl
zeroes_cut (suc n) s =
    let front : take s (replicate {A = ℕ} (s + n * s) 0) ≡ replicate s 0 = take-replicate s (s + n * s) 0 (omega arith) in
    let left : s + n * s - s ≡ n * s = omega arith in
    let rest : drop s (replicate {A = ℕ} (s + n * s) 0) ≡ replicate (n * s) 0 =
    drop-replicate s (s + n * s) 0 ∙ ap (λ (k : ℕ). replicate {A = ℕ} k 0) left in
    rw (more n s, front, rest) (ap (λ (l : List Block). zero_block s ∷ l) (zeroes_cut n s))

pub drop_cut : (at n s : ℕ) (bytes : List ℕ) → at ≤ n → drop at (cut n s bytes) ≡ cut (n - at) s (drop (at * s) bytes)
drop_cut zero n s bytes le = let none : 0 * s ≡ 0 = omega arith in let all : n - 0 ≡ n = omega arith in rw (none, all) refl
drop_cut (suc at) zero s bytes le = absurd (omega arith)
drop_cut (suc at) (suc n) s bytes le =
    let left : suc n - suc at ≡ n - at = omega arith in
    rw left (drop_cut at n s (drop s bytes) (omega arith) ∙ ap (λ (l : List ℕ). cut (n - at) s l) (next at s bytes))

pub take_cut : (count n s : ℕ) (bytes : List ℕ) → count ≤ n → take count (cut n s bytes) ≡ cut count s bytes
take_cut zero n s bytes le = refl
take_cut (suc count) zero s bytes le = absurd (omega arith)
take_cut (suc count) (suc n) s bytes le = ap (λ (l : List Block). Bytes (take s bytes) ∷ l) (take_cut count n s (drop s bytes) (omega arith))

-- They have no bytes behind theirs.
pub cut_front : (n s : ℕ) (bytes : List ℕ) → cut n s (take (n * s) bytes) ≡ cut n s bytes
cut_front zero s bytes = refl
cut_front (suc n) s bytes =
    let first : take s (take (s + n * s) bytes) ≡ take s bytes = take-take s (s + n * s) bytes (omega arith) in
    let rest : drop s (take (s + n * s) bytes) ≡ take (n * s) (drop s bytes) = drop-take s (n * s) bytes in
    rw (more n s, first, rest) (ap (λ (l : List Block). Bytes (take s bytes) ∷ l) (cut_front n s (drop s bytes)))

-- Some of them are cut from the bytes from there on.
pub stretch_cut : (at count n s : ℕ) (bytes : List ℕ) → at + count ≤ n → stretch_of at count (cut n s bytes) ≡ cut count s (drop (at * s) bytes)
stretch_cut at count n s bytes within =
    ap (take count) (drop_cut at n s bytes (omega arith)) ∙ take_cut count (n - at) s (drop (at * s) bytes) (omega arith)

joined_cut : (n s : ℕ) (bytes : List ℕ) → joined (cut n s bytes) ≡ take (n * s) bytes
joined_cut zero s bytes = let none : 0 * s ≡ 0 = omega arith in rw none refl
joined_cut (suc n) s bytes =
    rw (more n s) (ap (λ (l : List ℕ). take s bytes ++ l) (joined_cut n s (drop s bytes)) ∙ sym (take-add s (n * s) bytes))

-- The bytes of some of them stand side by side.
pub joined_stretch : (at count n s : ℕ) (bytes : List ℕ) → at + count ≤ n
    → joined (stretch_of at count (cut n s bytes)) ≡ take (count * s) (drop (at * s) bytes)
joined_stretch at count n s bytes within = ap joined (stretch_cut at count n s bytes within) ∙ joined_cut count s (drop (at * s) bytes)

-- None of them is marked.
pub unmarked_cut : (n s : ℕ) (bytes : List ℕ) → has_mark (cut n s bytes) ≡ false
unmarked_cut zero s bytes = refl
unmarked_cut (suc n) s bytes = unmarked_cut n s (drop s bytes)

-- So none of a range is.
pub unmarked_stretch : (at count n s : ℕ) (bytes : List ℕ) → at + count ≤ n → has_mark (stretch_of at count (cut n s bytes)) ≡ false
unmarked_stretch at count n s bytes within = ap has_mark (stretch_cut at count n s bytes within) ∙ unmarked_cut count s (drop (at * s) bytes)

module _ (from : ℕ) (new bytes : List ℕ) (within : from + length new ≤ length bytes) where
  front : length (take from bytes) ≡ from
  front = length-take-le from bytes (omega (arith, within))

  pub length_with_bytes : length (with_bytes from new bytes) ≡ length bytes
  length_with_bytes =
      let behind = drop (from + length new) bytes in
      let all : length (with_bytes from new bytes) ≡ length (take from bytes) + (length new + length behind) =
      length-append (take from bytes) (new ++ behind) ∙ ap (λ (k : ℕ). length (take from bytes) + k) (length-append new behind) in
      let left = length-drop (from + length new) bytes in
      let first = front in
      omega (arith, all, left, first, within)

  -- the bytes before the new ones
  pub before_new : (k n : ℕ) → k + n ≤ from → take n (drop k (with_bytes from new bytes)) ≡ take n (drop k bytes)
  before_new k n le =
      let rest = new ++ drop (from + length new) bytes in
      let first = front in
      let m = from - k in
      let whole : from ≡ k + m = omega (arith, le) in
      let kept : drop k (take from bytes) ≡ take m (drop k bytes) = ap (λ (f : ℕ). drop k (take f bytes)) whole ∙ drop-take k m bytes in
      let len : length (drop k (take from bytes)) ≡ from - k = length-drop k (take from bytes) ∙ ap (λ (f : ℕ). f - k) first in
      ap (take n) (drop-append-le k (take from bytes) rest (omega (arith, le, first)))
      ∙ take-append-le n (drop k (take from bytes)) rest (omega (arith, le, len))
      ∙ ap (take n) kept
      ∙ take-take n m (drop k bytes) (omega (arith, le))

  -- the new bytes
  pub among_new : (k n : ℕ) → k + n ≤ length new → take n (drop (from + k) (with_bytes from new bytes)) ≡ take n (drop k new)
  among_new k n le =
      let rest = drop (from + length new) bytes in
      let first = front in
      let there : drop (from + k) (with_bytes from new bytes) ≡ drop k (new ++ rest) =
      ap (λ (f : ℕ). drop (f + k) (with_bytes from new bytes)) (sym first) ∙ drop-append-add (take from bytes) (new ++ rest) k in
      let len = length-drop k new in
      ap (take n) (there ∙ drop-append-le k new rest (omega (arith, le)))
      ∙ take-append-le n (drop k new) rest (omega (arith, le, len))

  -- the bytes behind them
  pub behind_new : (k : ℕ) → from + length new ≤ k → drop k (with_bytes from new bytes) ≡ drop k bytes
  behind_new k le =
      let past = from + length new in
      let rest = drop past bytes in
      let first = front in
      let m = k - past in
      let far : k ≡ length (take from bytes) + (length new + m) = omega (arith, le, first) in
      let whole : past + m ≡ k = omega (arith, le) in
      ap (λ (f : ℕ). drop f (with_bytes from new bytes)) far
      ∙ drop-append-add (take from bytes) (new ++ rest) (length new + m)
      ∙ drop-append-add new rest m
      ∙ drop-drop m past bytes
      ∙ ap (λ (f : ℕ). drop f bytes) whole

pub mul_le : (a b s : ℕ) → a ≤ b → a * s ≤ b * s
mul_le a b s le =
    let left = mul-le-mul_left s le in
    let one : s * a ≡ a * s = grind arith in
    let other : s * b ≡ b * s = grind arith in
    omega (arith, left, one, other)

-- The blocks whose bytes are new are rewritten, and the others stay.
pub rewritten_cut : (at count n s : ℕ) (new bytes : List ℕ) → at + count ≤ n → length new ≡ count * s → length bytes ≡ n * s
    → IsRewritten at count (block_at s new) (cut n s bytes) (cut n s (with_bytes (at * s) new bytes))
rewritten_cut at count n s new bytes within few whole =
    let past : (at + count) * s ≡ at * s + count * s = grind arith in
    let far = mul_le (at + count) n s within in
    let inside : at * s + length new ≤ length bytes = omega (arith, past, far, few, whole) in
    record {
      len = length_cut n s (with_bytes (at * s) new bytes) ∙ sym (length_cut n s bytes);
      rewritten =
          λ i lt.
          let there : (at + i) * s ≡ at * s + i * s = grind arith in
          let end = mul_le (suc i) count s lt in
          let end' = more i s in
          let same : take s (drop ((at + i) * s) (with_bytes (at * s) new bytes)) ≡ take s (drop (i * s) new) =
          ap (λ (k : ℕ). take s (drop k (with_bytes (at * s) new bytes))) there
          ∙ among_new (at * s) new bytes inside (i * s) s (omega (arith, end, end', few)) in
          subst (λ (l : List ℕ). IsAt (cut n s (with_bytes (at * s) new bytes)) (at + i) (Bytes l)) same
          (at_cut n s (with_bytes (at * s) new bytes) (at + i) (omega (arith, lt, within)));
      others =
          λ j block out is.
          let here = is_at_cut n s bytes j block is in
          let same : take s (drop (j * s) (with_bytes (at * s) new bytes)) ≡ take s (drop (j * s) bytes) =
          elim out [
            | inl low ↦
                let end = mul_le (suc j) at s low in
                let end' = more j s in
                before_new (at * s) new bytes inside (j * s) s (omega (arith, end, end'))
            | inr high ↦
                let start = mul_le (at + count) j s high in
                ap (take s) (behind_new (at * s) new bytes inside (j * s) (omega (arith, start, past, few)))
          ] in
          subst (λ (b : Block). IsAt (cut n s (with_bytes (at * s) new bytes)) j b) (ap Bytes same ∙ sym here.1)
          (at_cut n s (with_bytes (at * s) new bytes) j here.0);
    }

-- The bytes of some of the blocks are few, and lie among all.
pub span_within : (all s at count : ℕ) → at + count ≤ all → at * s + count * s ≤ all * s
span_within all s at count within =
    let past : (at + count) * s ≡ at * s + count * s = grind arith in
    let far = mul_le (at + count) all s within in
    omega (arith, past, far)

-- Zero bytes are those of zero blocks.
pub zeroed_cut : (n s at count : ℕ) (bytes : List ℕ) → length bytes ≡ n * s → at + count ≤ n
    → IsRewritten at count (λ i. zero_block s) (cut n s bytes) (cut n s (with_bytes (at * s) (replicate (count * s) 0) bytes))
zeroed_cut n s at count bytes whole within =
    let new = replicate {A = ℕ} (count * s) 0 in
    let put = rewritten_cut at count n s new bytes within (length-replicate (count * s) 0) whole in
    record {
      len = put.len;
      rewritten =
          λ i lt.
          let end = mul_le (suc i) count s lt in
          let end' = more i s in
          let same : take s (drop (i * s) new) ≡ replicate s 0 =
          ap (take s) (drop-replicate (i * s) (count * s) 0) ∙ take-replicate s (count * s - i * s) 0 (omega (arith, end, end')) in
          subst (λ (l : List ℕ). IsAt (cut n s (with_bytes (at * s) new bytes)) (at + i) (Bytes l)) same (put.rewritten i lt);
      others = put.others;
    }

-- Some of the bytes that are all zero.
pub zeroes_part : (at count n s : ℕ) → at + count ≤ n → take (count * s) (drop (at * s) (replicate {A = ℕ} (n * s) 0)) ≡ replicate (count * s) 0
zeroes_part at count n s within =
    let span = span_within n s at count within in
    ap (take (count * s)) (drop-replicate (at * s) (n * s) 0) ∙ take-replicate (count * s) (n * s - at * s) 0 (omega (arith, span))

-- A block of a part of data is one of the data.
pub block_of_part : (size from count : ℕ) (xs : List ℕ) (i : ℕ) → i < count
    → block_at size (slice_range xs (from * size) (from * size + count * size)) i ≡ block_at size xs (from + i)
block_of_part size from count xs i lt =
    let m = count * size in
    let rest = drop (from * size) xs in
    let len : from * size + count * size - from * size ≡ m = omega arith in
    let far = mul_le (suc i) count size (omega arith) in
    let e = more i size in
    let whole : m ≡ i * size + (m - i * size) = omega (arith, far, e) in
    let there : from * size + i * size ≡ (from + i) * size = grind arith in
    ap (λ (k : ℕ). Bytes (take size (drop (i * size) (take k rest)))) (len ∙ whole)
    ∙ ap (λ (l : List ℕ). Bytes (take size l)) (drop-take (i * size) (m - i * size) rest)
    ∙ ap Bytes (take-take size (m - i * size) (drop (i * size) rest) (omega (arith, far, e)))
    ∙ ap (λ (l : List ℕ). Bytes (take size l)) (drop-drop (i * size) (from * size) xs)
    ∙ ap (λ (k : ℕ). Bytes (take size (drop k xs))) there
