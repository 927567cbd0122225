-- Numbers that follow one another.
use Rattle.std.proofs.Common.{◌≡◌, ℕ, zero, suc, ◌+◌, [], ◌∷◌, ◌++◌, ap, ◌∙◌, arith}
use Rattle.std.specs.List.{range_with_len}

pub range_join : (a n m j : ℕ) → a + n ≡ j → range_with_len a (n + m) ≡ range_with_len a n ++ range_with_len j m
range_join a zero m j e =
    let same : a ≡ j = omega arith in
    let none : zero + m ≡ m = omega arith in ap (range_with_len a) none ∙ ap (λ k. range_with_len k m) same
range_join a (suc n) m j e =
    let more : suc n + m ≡ suc (n + m) = omega arith in ap (range_with_len a) more ∙ ap (λ l. a ∷ l) (range_join (a + 1) n m j (omega arith))

pub range_more : (a n j : ℕ) → a + n ≡ j → range_with_len a (n + 1) ≡ range_with_len a n ++ j ∷ []
range_more a n j e = range_join a n 1 j e
