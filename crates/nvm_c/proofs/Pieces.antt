-- What a window keeps of bytes that come one after the other.
use Rattle.std.proofs.Common.{◌≡◌, ◌∙◌, ◌++◌, ℕ, ◌-◌, List, [], ◌∷◌, length, take, drop, zero, suc, ap, refl, arith}
use Rattle.std.proofs.lemmas.List.{length-take}
use Rattle.nvm_c.specs.Inside.Pieces.{piece_of}
use Rattle.nvm_c.specs.Inside.Window.{IsHanded}
use Rattle.nvm_c.specs.Told.{overwritten}
use Rattle.nvm_c.specs.declared.window.Window.{Window}

drop_both : (k : ℕ) (xs ys : List ℕ) → drop k (xs ++ ys) ≡ drop k xs ++ drop (k - length xs) ys
drop_both zero [] ys = refl
drop_both (suc k) [] ys = let e : suc k - 0 ≡ suc k = omega arith in rw e refl
drop_both zero (x ∷ xs) ys = let e : 0 - length (x ∷ xs) ≡ 0 = omega arith in rw e refl
drop_both (suc k) (x ∷ xs) ys = let e : suc k - length (x ∷ xs) ≡ k - length xs = omega arith in rw e (drop_both k xs ys)

take_both : (k : ℕ) (xs ys : List ℕ) → take k (xs ++ ys) ≡ take k xs ++ take (k - length xs) ys
take_both zero [] ys = refl
take_both (suc k) [] ys = let e : suc k - 0 ≡ suc k = omega arith in rw e refl
take_both zero (x ∷ xs) ys = let e : 0 - length (x ∷ xs) ≡ 0 = omega arith in rw e refl
take_both (suc k) (x ∷ xs) ys = let e : suc k - length (x ∷ xs) ≡ k - length xs = omega arith in rw e (ap (λ l. x ∷ l) (take_both k xs ys))

-- The piece of more bytes has so many of them as it has room for yet, from where it begins in them.
pub piece_more : (from most : ℕ) (xs ys : List ℕ)
    → piece_of from most (xs ++ ys) ≡ piece_of from most xs ++ piece_of (from - length xs) (most - length (piece_of from most xs)) ys
piece_more from most xs ys =
    let left : most - length (drop from xs) ≡ most - length (take most (drop from xs)) = let e = length-take most (drop from xs) in omega (arith, e) in
    ap (take most) (drop_both from xs ys) ∙ take_both most (drop from xs) (drop (from - length xs) ys)
    ∙ ap (λ (n : ℕ). take most (drop from xs) ++ take n (drop (from - length xs) ys)) left

-- Of bytes a buffer takes no more than it is long.
over_front : (xs buffer : List ℕ) → overwritten (take (length buffer) xs) buffer ≡ overwritten xs buffer
over_front [] [] = refl
over_front [] (b ∷ buffer) = refl
over_front (x ∷ xs) [] = refl
over_front (x ∷ xs) (b ∷ buffer) = ap (λ l. x ∷ l) (over_front xs buffer)

-- A piece as long as the buffer is written as the bytes from where it begins.
pub over_piece : (w : Window) (from : ℕ) (bytes buffer : List ℕ) → IsHanded w from (length buffer) bytes
    → overwritten (piece_of w.from w.most w.handed.bytes) buffer ≡ overwritten (drop from bytes) buffer
over_piece w from bytes buffer of =
    (λ i. overwritten (piece_of (of.begins i) (of.limit i) (of.taken i)) buffer) ∙ over_front (drop from bytes) buffer
