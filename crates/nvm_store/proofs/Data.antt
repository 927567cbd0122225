-- Data that begins with the bytes of blocks, and zero bytes.
use Rattle.std.proofs.Common.{◌≡◌, ℕ, zero, suc, ◌+◌, ◌-◌, ◌<◌, List, [], ◌∷◌, ◌++◌, length, take, drop, replicate, Bool, true, false, get_or, add-one, drop-cons, append_assoc, refl, sym, ap, ◌∙◌, arith}
use Rattle.std.specs.Str.{bytes_eq}
use Rattle.nvm_record.specs.declared.block.Block.{Block}
use Rattle.nvm_record.specs.Medium.{bytes_of, joined}
use Rattle.std.specs.Bool.{Decides, ◌==◌}
use Rattle.std.proofs.lemmas.Bool.{true≢false}
use Rattle.std.proofs.lemmas.Bool.Decides.{Decides-eqb}
use Rattle.std.proofs.lemmas.Slice.Eq.{bytes_eq-Decides}
use Rattle.std.proofs.Math.Seq.{take-append_seam, take-length}

-- Bytes are all zero where the first is and each is as the one before it.
pub zeroes_by_shift : (x : ℕ) (xs : List ℕ) → x ≡ 0 → xs ≡ take (length xs) (x ∷ xs) → x ∷ xs ≡ replicate {A = ℕ} (suc (length xs)) 0
zeroes_by_shift x [] e shift = ap (λ (n : ℕ). n ∷ []) e
zeroes_by_shift x (y ∷ ys) e shift =
    let first : y ≡ x = ap (λ (l : List ℕ). get_or l 0 0) shift in
    let rest : ys ≡ take (length ys) (y ∷ ys) = ap (drop 1) shift in
    rw e (ap (λ (l : List ℕ). 0 ∷ l) (zeroes_by_shift y ys (first ∙ e) rest))

pub shift_of_zeroes : (n : ℕ) → replicate {A = ℕ} n 0 ≡ take n (replicate {A = ℕ} (suc n) 0)
shift_of_zeroes zero = refl
shift_of_zeroes (suc n) = ap (λ (l : List ℕ). 0 ∷ l) (shift_of_zeroes n)

-- the test of the code
pub zero_test : (xs : List ℕ) (b : Bool) → (length xs ≡ 0 → ⊥) → get_or xs 0 0 ≡ 0
    → b ≡ bytes_eq (take (length xs - 1) (drop 1 xs)) (take (length xs - 1) xs) → Decides b (xs ≡ replicate {A = ℕ} (length xs) 0)
zero_test [] b some first is = absurd (some refl)
zero_test (x ∷ xs) b some first is =
    let n = length xs in
    let last : length (x ∷ xs) - 1 ≡ n = omega arith in
    let is' : b ≡ bytes_eq xs (take n (x ∷ xs)) = rw (last, take-length) at is in
    let tells : Decides (bytes_eq xs (take n (x ∷ xs))) (xs ≡ take n (x ∷ xs)) = bytes_eq-Decides xs (take n (x ∷ xs)) in (
      λ yes. zeroes_by_shift x xs first (tells.0 (sym is' ∙ yes)),
      λ zeroes. is' ∙ tells.1 (ap (drop 1) zeroes ∙ shift_of_zeroes n ∙ ap (take n) (sym zeroes)),
    )

-- Data whose front differs does not begin with the bytes.
pub no_front : (own payload rest : List ℕ) → bytes_eq (take (length own) payload) own ≡ false → own ++ rest ≡ payload → ⊥
no_front own payload rest differ e =
    let front : take (length own) payload ≡ own = ap (take (length own)) (sym e) ∙ take-append_seam own rest in
    true≢false (sym ((bytes_eq-Decides (take (length own) payload) own).1 front) ∙ differ)

-- The bytes of the blocks from place i on begin with those of the block there.
pub next_begins : (blocks : List Block) (i : ℕ) (b : Block) → i < length blocks → get_or blocks i b ≡ b
    → (r : List ℕ) → joined (drop i blocks) ++ r ≡ bytes_of b ++ (joined (drop (i + 1) blocks) ++ r)
next_begins blocks i b lt is r =
    let next : drop i blocks ≡ b ∷ drop (i + 1) blocks = drop-cons blocks i b lt ∙ (rw (is, add-one) refl) in
    rw next (append_assoc (bytes_of b) (joined (drop (i + 1) blocks)) r)

is_false : (b : Bool) → (b ≡ true → ⊥) → b ≡ false
is_false true not = absurd (not refl)
is_false false not = refl

-- Bytes that aren't the same compare so.
pub tells_other : (xs ys : List ℕ) → (xs ≡ ys → ⊥) → false ≡ bytes_eq xs ys
tells_other xs ys differ = sym (is_false (bytes_eq xs ys) (λ same. differ ((bytes_eq-Decides xs ys).0 same)))

pub none_left : (xs : List ℕ) → length xs ≡ 0 → [] ≡ xs
none_left [] e = refl
none_left (x ∷ xs) e = absurd (omega arith)

-- No byte is left exactly where the length is zero.
pub empty_tells : (b : Bool) (xs : List ℕ) → b ≡ (length xs == 0) → Decides b ([] ≡ xs)
empty_tells b xs is =
    let tells = Decides-eqb (length xs) 0 in
    (λ yes. none_left xs (tells.0 (sym is ∙ yes)), λ none. is ∙ tells.1 (sym (ap length none)))
