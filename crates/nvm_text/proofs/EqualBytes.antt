-- Equal bytes at the front, by their places.
use Rattle.std.proofs.Common.{◌≡◌, ◌≢◌, ℕ, zero, suc, ◌+◌, ◌-◌, ◌<◌, ◌≤◌, List, ◌∷◌, ◌++◌, length, take, drop, get_or, replicate, sym, ap, ◌∙◌, subst, arith, below_more}
use Rattle.std.proofs.lemmas.List.{get_or-take, get_or-drop, get_or-replicate, length-replicate, length-take-le, take-append-drop, ext_get_or, length-drop}
use Rattle.nvm_text.specs.Runs.{run_of, runs}
use Rattle.nvm_text.proofs.RunLemmas.{Apart, runs_replicate, apart_runs}

-- the first n bytes are equal
pub record AreEqual (bytes : List ℕ) (n : ℕ) : Type 0 where
  pub some : 0 < n
  pub within : n ≤ length bytes
  pub equal : (k : ℕ) → k < n → get_or bytes k 0 ≡ get_or bytes 0 0

pub one_equal : (bytes : List ℕ) → 0 < length bytes → AreEqual bytes 1
one_equal bytes h = record {
  some = omega arith;
  within = omega arith;
  equal = λ k below. let e : k ≡ 0 = omega arith in ap (λ (i : ℕ). get_or bytes i 0) e;
}

pub one_more_equal : (bytes : List ℕ) (n : ℕ) → AreEqual bytes n → n < length bytes → get_or bytes n 0 ≡ get_or bytes 0 0 → AreEqual bytes (n + 1)
one_more_equal bytes n h short here = record {
  some = omega arith;
  within = omega arith;
  equal = below_more (λ (k : ℕ). get_or bytes k 0 ≡ get_or bytes 0 0) n h.equal here;
}

-- the byte at place j of equal pieces
pieces_at : (bytes : List ℕ) (a b m j : ℕ) → j < m → take m (drop a bytes) ≡ take m (drop b bytes) → get_or bytes (a + j) 0 ≡ get_or bytes (b + j) 0
pieces_at bytes a b m j below same =
    sym (get_or-drop a bytes j 0) ∙ sym (get_or-take m (drop a bytes) j 0 below) ∙ ap (λ (x : List ℕ). get_or x j 0) same
    ∙ get_or-take m (drop b bytes) j 0 below ∙ get_or-drop b bytes j 0

-- A piece that equals the piece one place before it continues the equal bytes.
some_more_equal : (bytes : List ℕ) (n m : ℕ) → AreEqual bytes n → n + m ≤ length bytes → take m (drop n bytes) ≡ take m (drop (n - 1) bytes) → (j : ℕ) → j ≤ m → AreEqual bytes (n + j)
some_more_equal bytes n m h enough same zero fits = subst (λ (k : ℕ). AreEqual bytes k) (let e : n ≡ n + 0 = omega arith in e) h
some_more_equal bytes n m h enough same (suc j) fits =
    let before : AreEqual bytes (n + j) = some_more_equal bytes n m h enough same j (omega arith) in
    let some : 0 < n = h.some in
    let last : get_or bytes (n - 1 + j) 0 ≡ get_or bytes 0 0 = before.equal (n - 1 + j) (omega arith) in
    let here : get_or bytes (n + j) 0 ≡ get_or bytes 0 0 = pieces_at bytes n (n - 1) m j (omega arith) same ∙ last in
    subst (λ (k : ℕ). AreEqual bytes k) (let e : n + j + 1 ≡ n + suc j = omega arith in e) (one_more_equal bytes (n + j) before (omega arith) here)

pub piece_equal : (bytes : List ℕ) (n m : ℕ) → AreEqual bytes n → n + m ≤ length bytes → take m (drop n bytes) ≡ take m (drop (n - 1) bytes) → AreEqual bytes (n + m)
piece_equal bytes n m h enough same = some_more_equal bytes n m h enough same m (omega arith)

-- equal bytes, and then the rest
front_and_rest : (bytes : List ℕ) (n : ℕ) → AreEqual bytes n → bytes ≡ replicate n (get_or bytes 0 0) ++ drop n bytes
front_and_rest bytes n h =
    let b : ℕ = get_or bytes 0 0 in
    let long : length (take n bytes) ≡ n = length-take-le n bytes h.within in
    let same : take n bytes ≡ replicate n b = ext_get_or 0 (take n bytes) (replicate n b) (long ∙ sym (length-replicate n b))
    (λ i below. let low : i < n = subst (λ (k : ℕ). i < k) long below in get_or-take n bytes i 0 low ∙ h.equal i low ∙ sym (get_or-replicate n i b 0 low)) in
    sym (take-append-drop n bytes) ∙ ap (λ (x : List ℕ). x ++ drop n bytes) same

-- As many equal bytes as there are at the front are the first run, and the rest has the others.
pub first_run_is : (bytes : List ℕ) (n : ℕ) → AreEqual bytes n → (n < length bytes → get_or bytes n 0 ≢ get_or bytes 0 0) → runs bytes ≡ run_of n (get_or bytes 0 0) ∷ runs (drop n bytes)
first_run_is bytes n h longest =
    let b : ℕ = get_or bytes 0 0 in
    let next : get_or (drop n bytes) 0 0 ≡ get_or bytes (n + 0) 0 = get_or-drop n bytes 0 0 in
    let place : n + 0 ≡ n = omega arith in
    let apart : Apart b (runs (drop n bytes)) = apart_runs b (drop n bytes)
    (λ left. λ e. longest (omega (arith, length-drop n bytes)) (ap (λ (k : ℕ). get_or bytes k 0) (sym place) ∙ sym next ∙ e)) in
    ap (λ (x : List ℕ). runs x) (front_and_rest bytes n h) ∙ runs_replicate n b (drop n bytes) h.some apart
