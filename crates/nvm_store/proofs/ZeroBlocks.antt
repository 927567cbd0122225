-- Blocks of zeroes that take no memory, and memory that is theirs alone.
use Rattle.std.proofs.Common.{◌≡◌, ℕ, ◌+◌, ◌*◌, ◌≤◌, List, length, replicate, false, sym, ◌∙◌, subst, arith}
use Rattle.std.proofs.lemmas.List.{length-replicate}
use Rattle.nvm_record.specs.declared.block.Block.{Block}
use Rattle.nvm_record.specs.Medium.{has_mark, joined}
use Rattle.nvm_store.specs.Inside.Rewrite.{IsRewritten, stretch_of, zero_block}
use Rattle.nvm_store.proofs.Gathering.{at_replicate}
use Rattle.nvm_store.proofs.FlatBytes.{joined_stretch, unmarked_stretch, zeroes_cut, zeroes_part}
use Rattle.nvm_store.proofs.Rewrites.{rewritten_all, rewritten_as_they_were}

-- None is marked.
pub zero_unmarked : (n s at count : ℕ) → at + count ≤ n → has_mark (stretch_of at count (replicate n (zero_block s))) ≡ false
zero_unmarked n s at count within =
    subst (λ (l : List Block). has_mark (stretch_of at count l) ≡ false) (zeroes_cut n s) (unmarked_stretch at count n s (replicate (n * s) 0) within)

-- Their bytes are zeroes.
pub zero_joined : (n s at count : ℕ) → at + count ≤ n → joined (stretch_of at count (replicate n (zero_block s))) ≡ replicate (count * s) 0
zero_joined n s at count within =
    subst (λ (l : List Block). joined (stretch_of at count l) ≡ replicate (count * s) 0) (zeroes_cut n s)
    (joined_stretch at count n s (replicate (n * s) 0) within ∙ zeroes_part at count n s within)

-- Zeroed, they are as they were.
pub zero_still : (n s at count : ℕ) → at + count ≤ n
    → IsRewritten at count (λ _. zero_block s) (replicate n (zero_block s)) (replicate n (zero_block s))
zero_still n s at count within =
    rewritten_as_they_were at count (λ _. zero_block s) (replicate n (zero_block s))
    (λ i j lt. at_replicate n (zero_block s) (at + i) (omega (arith, within, lt)))

-- All blocks became zeroes.
pub all_zero : (at n s : ℕ) (old : List Block) → at + n ≤ length old → n ≡ length old → IsRewritten at n (λ _. zero_block s) old (replicate n (zero_block s))
all_zero at n s old within same =
    let none : 0 ≡ at = omega (arith, within, same) in
    let few = length-replicate n (zero_block s) in
    subst (λ (p : ℕ). IsRewritten p n (λ _. zero_block s) old (replicate n (zero_block s))) none
    (rewritten_all n (λ _. zero_block s) old (replicate n (zero_block s)) few (sym same) (λ i lt. at_replicate n (zero_block s) i lt))
