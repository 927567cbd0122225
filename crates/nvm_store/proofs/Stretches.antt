-- Ranges of blocks, stretch by stretch.
use Rattle.std.proofs.Common.{◌≡◌, ℕ, zero, suc, ◌+◌, ◌-◌, ◌<◌, ◌≤◌, List, [], ◌∷◌, ◌++◌, length, take, drop, ◌||◌, All, append_assoc, refl, sym, ap, ◌∙◌, subst, arith}
use mathlib.Core.Option.{some, some-ne-none}
use Rattle.std.proofs.Math.Seq.{take-add}
use Rattle.std.proofs.lemmas.List.{drop-drop, drop-take, take-take, length-take-le}
use Rattle.std.proofs.lemmas.List.Elements.{All-head, All-tail}
use Rattle.nvm_record.specs.declared.block.Block.{Block}
use Rattle.nvm_record.specs.declared.block.Block.TheVariants.{Bytes, Uncorrectable}
use Rattle.nvm_record.specs.Lists.{IsAt}
use Rattle.nvm_record.specs.Medium.{has_mark, joined, bytes_of}
use Rattle.nvm_store.specs.Inside.Tree.{IsStretch}
use Rattle.nvm_store.specs.Inside.Rewrite.{stretch_of}
use Rattle.nvm_store.proofs.Rewrites.{at_take_back}

-- The front of a stretch of the tree is one of the blocks that count.
pub front_of_stretch : (all : List Block) (count from n : ℕ) (stretch : List Block) → IsStretch all from stretch → n ≤ length stretch → from + n ≤ count
    → stretch_of from (length (take n stretch)) (take count all) ≡ take n stretch
front_of_stretch all count from n stretch is few within =
    let len : length (take n stretch) ≡ n = length-take-le n stretch few in
    let m = count - from in
    let whole : count ≡ from + m = omega arith in
    let kept : drop from (take count all) ≡ take m (drop from all) = ap (λ (k : ℕ). drop from (take k all)) whole ∙ drop-take from m all in
    rw len
    (ap (take n) kept ∙ take-take n m (drop from all) (omega arith)
    ∙ sym (ap (take n) (sym is.is) ∙ take-take n (length stretch) (drop from all) few))

-- A range is its stretch and what is after it.
pub next_stretch : (blocks stretch : List Block) (from left n : ℕ) → stretch_of from n blocks ≡ stretch → n ≤ left
    → stretch_of from left blocks ≡ stretch ++ stretch_of (from + n) (left - n) blocks
next_stretch blocks stretch from left n is le =
    let m = left - n in
    let whole : left ≡ n + m = omega arith in
    ap (λ (k : ℕ). take k (drop from blocks)) whole
    ∙ take-add n m (drop from blocks)
    ∙ ap (λ (bs : List Block). bs ++ take m (drop n (drop from blocks))) is
    ∙ ap (λ (bs : List Block). stretch ++ take m bs) (drop-drop n from blocks)

pub has_mark-append : (xs ys : List Block) → has_mark (xs ++ ys) ≡ (has_mark xs || has_mark ys)
has_mark-append [] ys = refl
has_mark-append (Bytes bytes ∷ xs) ys = has_mark-append xs ys
has_mark-append (Uncorrectable ∷ xs) ys = refl

pub joined-append : (xs ys : List Block) → joined (xs ++ ys) ≡ joined xs ++ joined ys
joined-append [] ys = refl
joined-append (x ∷ xs) ys =
    ap (λ (l : List ℕ). bytes_of x ++ l) (joined-append xs ys) ∙ sym (append_assoc (bytes_of x) (joined xs) (joined ys))

-- The bytes of a range are those of its stretch, and of what is after it.
pub joined_stretches : (blocks stretch : List Block) (from left n : ℕ) → stretch_of from n blocks ≡ stretch → n ≤ left
    → joined (stretch_of from left blocks) ≡ joined stretch ++ joined (stretch_of (from + n) (left - n) blocks)
joined_stretches blocks stretch from left n is le =
    ap joined (next_stretch blocks stretch from left n is le) ∙ joined-append stretch (stretch_of (from + n) (left - n) blocks)

-- A stretch of one block, again and again, has it at each place.
at_drop_back : (from : ℕ) (blocks : List Block) (i : ℕ) (block : Block) → IsAt (drop from blocks) i block → IsAt blocks (from + i) block
at_drop_back zero blocks i block is = let n : 0 + i ≡ i = omega arith in rw n is
at_drop_back (suc from) [] i block is = absurd (some-ne-none block (sym is))
at_drop_back (suc from) (x ∷ blocks) i block is = let n : suc from + i ≡ suc (from + i) = omega arith in rw n (at_drop_back from blocks i block is)

all_at : (blocks : List Block) (i : ℕ) (block : Block) → All (λ b. b ≡ block) blocks → i < length blocks → IsAt blocks i block
all_at [] i block all lt = absurd (omega arith)
all_at (x ∷ blocks) zero block all lt = ap some (All-head (λ b. b ≡ block) x blocks all)
all_at (x ∷ blocks) (suc i) block all lt = all_at blocks i block (All-tail (λ b. b ≡ block) x blocks all) (omega arith)

pub at_stretch_of_one : (blocks stretch : List Block) (from n i : ℕ) (block : Block) → stretch_of from n blocks ≡ stretch → All (λ b. b ≡ block) stretch
    → i < length stretch → IsAt blocks (from + i) block
at_stretch_of_one blocks stretch from n i block is all lt =
    let there = subst (λ (bs : List Block). IsAt bs i block) (sym is) (all_at stretch i block all lt) in
    at_drop_back from blocks i block (at_take_back n (drop from blocks) i block there).0
