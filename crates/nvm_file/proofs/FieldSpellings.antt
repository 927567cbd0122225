-- Fields that were read are spelled so.
use Rattle.std.proofs.Common.{◌≡◌, ℕ, zero, suc, ◌+◌, ◌%◌, ◌≤◌, ◌||◌, cond, ltb, List, [], ◌∷◌, ◌++◌, length, take, drop, take-append-drop, append_assoc, Result, Ok, refl, sym, ap, subst, ◌∙◌, arith}
use Rattle.std.specs.List.{flat_map}
use Rattle.std.proofs.lemmas.Bool.{ltb-false}
use Rattle.std.proofs.lemmas.List.Concat.{flat_map-cons}
use Rattle.byteorder.specs.Endian.{little_bytes, little_number}
use Rattle.nvm_file.specs.declared.record_fault.RecordFault.TheVariants.{Truncated, BadValue}
use Rattle.nvm_file.specs.Counted.{counted}
use Rattle.nvm_file.specs.Fields.{◌>>=◌, offset, refused, bytes_at, number_at, number_in, number_below, items_at}
use Rattle.nvm_file.proofs.NumberBytes.{IsBytes, bytes_again}
use Rattle.nvm_file.proofs.Readings.{bind_ok, each_holds, kept, ok_same, took}

-- The bytes are the piece, and then the rest.
pub record Takes (bytes piece rest : List ℕ) : Type 0 where
  pub parts : bytes ≡ piece ++ rest
  pub rest_are : IsBytes rest

pub dropped : (n : ℕ) (bytes : List ℕ) → IsBytes bytes → IsBytes (drop n bytes)
dropped zero bytes are = are
dropped (suc n) [] are = are
dropped (suc n) (b ∷ bs) are = dropped n bs are.1

pub taken : (n : ℕ) (bytes : List ℕ) → IsBytes bytes → IsBytes (take n bytes)
taken zero bytes are = tt
taken (suc n) [] are = tt
taken (suc n) (b ∷ bs) are = (are.0, taken n bs are.1)

-- One piece, and then another.
pub and_then : (a p b q c : List ℕ) → Takes a p b → Takes b q c → Takes a (p ++ q) c
and_then a p b q c first second =
    record {
      parts = first.parts ∙ ap (λ l. p ++ l) second.parts ∙ sym (append_assoc p q c);
      rest_are = second.rest_are;
    }

pub spelled_as : (a p q b : List ℕ) → p ≡ q → Takes a p b → Takes a q b
spelled_as a p q b e t = subst (λ l. Takes a l b) e t

pub number_takes : (total n : ℕ) (bytes : List ℕ) (x : ℕ × List ℕ) → IsBytes bytes → number_at total n bytes ≡ Ok x
    → Takes bytes (little_bytes n x.0) x.1
unfolding number_at
number_takes total n bytes x are e =
    let g = kept (ltb (length bytes) n) (Truncated (offset total bytes)) (little_number n bytes, drop n bytes) x e in
    subst (λ (y : ℕ × List ℕ). Takes bytes (little_bytes n y.0) y.1) g.1
    (record { parts = bytes_again n bytes are (ltb-false _ _ g.0); rest_are = dropped n bytes are })

pub in_takes : (total n low high : ℕ) (bytes : List ℕ) (x : ℕ × List ℕ) → IsBytes bytes → number_in total n low high bytes ≡ Ok x
    → Takes bytes (little_bytes n x.0) x.1
unfolding number_in
in_takes total n low high bytes x are e =
    let a = bind_ok (number_at total n bytes) (λ m. cond (ltb m.0 low || ltb high m.0) (refused total bytes) (Ok m)) x e in
    let g = kept (ltb a.0.0 low || ltb high a.0.0) (BadValue (offset total bytes)) a.0 x a.2 in
    number_takes total n bytes x are (a.1 ∙ ap Ok g.1)

pub below_takes : (total n end : ℕ) (bytes : List ℕ) (x : ℕ × List ℕ) → IsBytes bytes → number_below total n end bytes ≡ Ok x
    → Takes bytes (little_bytes n x.0) x.1
unfolding number_below
below_takes total n end bytes x are e =
    let a = bind_ok (number_at total n bytes) (λ m. cond (ltb m.0 end) (Ok m) (refused total bytes)) x e in
    let g = took (ltb a.0.0 end) (BadValue (offset total bytes)) a.0 x a.2 in
    number_takes total n bytes x are (a.1 ∙ ap Ok g.1)

pub run_takes : (total n : ℕ) (bytes : List ℕ) (x : List ℕ × List ℕ) → IsBytes bytes → bytes_at total n bytes ≡ Ok x
    → Takes bytes x.0 x.1
unfolding bytes_at
run_takes total n bytes x are e =
    let g = kept (ltb (length bytes) n) (Truncated (offset total bytes)) (take n bytes, drop n bytes) x e in
    subst (λ (y : List ℕ × List ℕ). Takes bytes y.0 y.1) g.1
    (record { parts = sym (take-append-drop n bytes); rest_are = dropped n bytes are })

pub run_are : (total n : ℕ) (bytes : List ℕ) (x : List ℕ × List ℕ) → IsBytes bytes → bytes_at total n bytes ≡ Ok x → IsBytes x.0
unfolding bytes_at
run_are total n bytes x are e =
    let g = kept (ltb (length bytes) n) (Truncated (offset total bytes)) (take n bytes, drop n bytes) x e in
    subst (λ (y : List ℕ × List ℕ). IsBytes y.0) g.1 (taken n bytes are)

module _ {A E : Type 0} (spelled : A → List ℕ) (item : ℕ → List ℕ → Result (A × List ℕ) E)
    (takes : (i : ℕ) (bytes : List ℕ) (x : A × List ℕ) → IsBytes bytes → item i bytes ≡ Ok x → Takes bytes (spelled x.0) x.1) where
  pub items_take : (place count : ℕ) (bytes : List ℕ) (x : List A × List ℕ) → IsBytes bytes → items_at item place count bytes ≡ Ok x
      → Takes bytes (flat_map spelled x.0) x.1
  unfolding items_at
  items_take place zero bytes x are e =
      subst (λ (y : List A × List ℕ). Takes bytes (flat_map spelled y.0) y.1) (ok_same ([], bytes) x e)
      (record { parts = refl; rest_are = are })
  items_take place (suc count) bytes x are e =
      let a = bind_ok (item place bytes) (λ first. items_at item (place + 1) count first.1 >>= λ others. Ok (first.0 ∷ others.0, others.1)) x e in
      let b = bind_ok (items_at item (place + 1) count a.0.1) (λ others. Ok (a.0.0 ∷ others.0, others.1)) x a.2 in
      let first = takes place bytes a.0 are a.1 in
      let others = items_take (place + 1) count a.0.1 b.0 first.rest_are b.1 in
      let both = and_then bytes (spelled a.0.0) a.0.1 (flat_map spelled b.0.0) b.0.1 first others in
      subst (λ (y : List A × List ℕ). Takes bytes (flat_map spelled y.0) y.1) (ok_same (a.0.0 ∷ b.0.0, b.0.1) x b.2)
      (spelled_as bytes (spelled a.0.0 ++ flat_map spelled b.0.0) (flat_map spelled (a.0.0 ∷ b.0.0)) b.0.1
      (sym (flat_map-cons spelled a.0.0 b.0.0)) both)

module _ {A E : Type 0} where
  -- There are as many items as were asked for.
  pub how_many : (item : ℕ → List ℕ → Result (A × List ℕ) E) (place count : ℕ) (bytes : List ℕ) (x : List A × List ℕ)
      → items_at item place count bytes ≡ Ok x → length x.0 ≡ count
  how_many item place count bytes x e = (each_holds (λ _. Unit {0}) item (λ i l y h. tt) place count bytes x e).1

  -- a count of four bytes, and then the items
  pub counted_takes : (spelled : A → List ℕ) (item : ℕ → List ℕ → Result (A × List ℕ) E)
      → ((i : ℕ) (bytes : List ℕ) (x : A × List ℕ) → IsBytes bytes → item i bytes ≡ Ok x → Takes bytes (spelled x.0) x.1)
      → (bytes : List ℕ) (count : ℕ × List ℕ) (x : List A × List ℕ) → Takes bytes (little_bytes 4 count.0) count.1
      → items_at item 0 count.0 count.1 ≡ Ok x → Takes bytes (counted spelled x.0) x.1
  counted_takes spelled item takes bytes count x first e =
      let many = how_many item 0 count.0 count.1 x e in
      let number = spelled_as bytes (little_bytes 4 count.0) (little_bytes 4 (length x.0)) count.1 (ap (little_bytes 4) (sym many)) first in
      and_then _ _ _ _ _ number (items_take spelled item takes 0 count.0 count.1 x first.rest_are e)

one_byte : (bytes : List ℕ) → IsBytes bytes → 1 ≤ length bytes → little_number 1 bytes % 256 ≡ little_number 1 bytes
one_byte [] are long = absurd (omega (arith, long))
one_byte (b ∷ bs) are long = omega (arith, are.0)

-- a number of one byte is that byte
pub small_byte : (total : ℕ) (bytes : List ℕ) (x : ℕ × List ℕ) → IsBytes bytes → number_at total 1 bytes ≡ Ok x → x.0 % 256 ≡ x.0
unfolding number_at
small_byte total bytes x are e =
    let g = kept (ltb (length bytes) 1) (Truncated (offset total bytes)) (little_number 1 bytes, drop 1 bytes) x e in
    subst (λ (y : ℕ × List ℕ). y.0 % 256 ≡ y.0) g.1 (one_byte bytes are (ltb-false _ _ g.0))
