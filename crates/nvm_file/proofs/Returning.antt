-- What is spelled is read again: numbers, runs of bytes and lists.
use Rattle.std.proofs.Common.{◌≡◌, ℕ, suc, ◌+◌, ◌^◌, ◌<◌, ◌≤◌, false, ltb, List, [], ◌∷◌, ◌++◌, length, Result, Ok, refl, sym, ap, subst, ◌∙◌, append_assoc, arith}
use Rattle.std.specs.List.{flat_map, AllByRecursion}
use Rattle.std.proofs.lemmas.Bool.{le-ltb, lt-ltb, or_from}
use Rattle.std.proofs.lemmas.List.{take_at, drop_at, length-append}
use Rattle.std.proofs.lemmas.List.Concat.{flat_map-cons}
use Rattle.byteorder.specs.Endian.{little_bytes}
use Rattle.byteorder.specs.Numbers.{length-bytes_low_first, little_number-reads_back}
use Rattle.nvm_record.specs.Lists.{IsAt}
use Rattle.nvm_file.specs.Fields.{◌>>=◌, bytes_at, number_at, number_in, number_below, items_at}

long : (n : ℕ) (text rest : List ℕ) → length text ≡ n → ltb (length (text ++ rest)) n ≡ false
long n text rest len = le-ltb _ _ (omega (arith, len, length-append text rest))

pub number_returns : (total n x : ℕ) (rest : List ℕ) → x < 256 ^ n → number_at total n (little_bytes n x ++ rest) ≡ Ok (x, rest)
unfolding number_at
number_returns total n x rest lt =
    let len = length-bytes_low_first 0 n x in
    rw (long n (little_bytes n x) rest len, drop_at (little_bytes n x) rest n len, little_number-reads_back n x rest lt) refl

pub number_in_returns : (total n low high x : ℕ) (rest : List ℕ) → x < 256 ^ n → low ≤ x → x ≤ high
    → number_in total n low high (little_bytes n x ++ rest) ≡ Ok (x, rest)
unfolding number_in
number_in_returns total n low high x rest lt above below =
    rw (number_returns total n x rest lt, or_from (ltb x low) (ltb high x) (le-ltb x low above) (le-ltb high x below)) refl

pub number_below_returns : (total n end x : ℕ) (rest : List ℕ) → x < 256 ^ n → x < end
    → number_below total n end (little_bytes n x ++ rest) ≡ Ok (x, rest)
unfolding number_below
number_below_returns total n end x rest lt below = rw (number_returns total n x rest lt, lt-ltb x end below) refl

pub bytes_return : (total n : ℕ) (text rest : List ℕ) → length text ≡ n → bytes_at total n (text ++ rest) ≡ Ok (text, rest)
unfolding bytes_at
bytes_return total n text rest len = rw (long n text rest len, take_at text rest n len, drop_at text rest n len) refl

-- What comes before was read, and then what follows it.
pub read_then : {A B E : Type 0} (r : Result A E) (f : A → Result B E) (x : A) (y : B) → r ≡ Ok x → f x ≡ Ok y
    → (r >>= f) ≡ Ok y
read_then {A} {B} {E} r f x y e g = subst (λ (s : Result A E). (s >>= f) ≡ Ok y) (sym e) g

-- a byte by itself is a number of one byte
pub byte_returns : (total b : ℕ) (rest : List ℕ) → b < 256 → number_at total 1 (b ∷ rest) ≡ Ok (b, rest)
byte_returns total b rest lt =
    let one : little_bytes 1 b ≡ b ∷ [] = ap (λ (n : ℕ). n ∷ []) (omega (arith, lt)) in
    ap (λ (l : List ℕ). number_at total 1 (l ++ rest)) (sym one) ∙ number_returns total 1 b rest lt

module _ {A E : Type 0} where
  pub items_return : (text : A → List ℕ) (P : A → Type 0) (item : ℕ → List ℕ → Result (A × List ℕ) E)
      → ((i : ℕ) (x : A) (rest : List ℕ) → P x → item i (text x ++ rest) ≡ Ok (x, rest))
      → (place : ℕ) (xs : List A) (rest : List ℕ) → AllByRecursion P xs
      → items_at item place (length xs) (flat_map text xs ++ rest) ≡ Ok (xs, rest)
  unfolding items_at
  items_return text P item returns place [] rest all = refl
  items_return text P item returns place (x ∷ xs) rest all =
      let regrouped : flat_map text (x ∷ xs) ++ rest ≡ text x ++ (flat_map text xs ++ rest) =
      ap (λ (w : List ℕ). w ++ rest) (flat_map-cons text x xs) ∙ append_assoc (text x) (flat_map text xs) rest in
      ap (items_at item place (suc (length xs))) regrouped
      ∙ rw (returns place x (flat_map text xs ++ rest) all.0, items_return text P item returns (place + 1) xs rest all.1) refl

  -- The same where what is read of an item depends on its place.
  pub each_returns : (text : A → List ℕ) (P : ℕ → A → Type 0) (item : ℕ → List ℕ → Result (A × List ℕ) E)
      → ((i : ℕ) (x : A) (rest : List ℕ) → P i x → item i (text x ++ rest) ≡ Ok (x, rest))
      → (place : ℕ) (xs : List A) (rest : List ℕ) → ((i : ℕ) (x : A) → IsAt xs i x → P (place + i) x)
      → items_at item place (length xs) (flat_map text xs ++ rest) ≡ Ok (xs, rest)
  unfolding items_at
  each_returns text P item returns place [] rest all = refl
  each_returns text P item returns place (x ∷ xs) rest all =
      let regrouped : flat_map text (x ∷ xs) ++ rest ≡ text x ++ (flat_map text xs ++ rest) =
      ap (λ (w : List ℕ). w ++ rest) (flat_map-cons text x xs) ∙ append_assoc (text x) (flat_map text xs) rest in
      let here : place + 0 ≡ place = omega arith in
      let first = returns place x (flat_map text xs ++ rest) (subst (λ (k : ℕ). P k x) here (all 0 x refl)) in
      let later : (i : ℕ) (y : A) → IsAt xs i y → P (place + 1 + i) y =
      λ i y at. let next : place + suc i ≡ place + 1 + i = omega arith in subst (λ (k : ℕ). P k y) next (all (suc i) y at) in
      let others = each_returns text P item returns (place + 1) xs rest later in
      ap (items_at item place (suc (length xs))) regrouped ∙ rw (first, others) refl
