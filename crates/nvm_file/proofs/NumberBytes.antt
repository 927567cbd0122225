-- The bytes of the number that bytes are read as.
use Rattle.std.proofs.Common.{◌≡◌, ℕ, zero, suc, ◌+◌, ◌*◌, ◌/◌, ◌%◌, ◌^◌, ◌<◌, ◌≤◌, List, [], ◌∷◌, ◌++◌, length, drop, refl, sym, ap, ◌∙◌, arith}
use Rattle.std.proofs.Math.Nat.{div-div-eq-div-mul, div-one, pow-succ'}
use Rattle.std.specs.Int.{byte_at, bytes_low_first}
use Rattle.std.specs.List.{AllByRecursion}
use Rattle.byteorder.specs.Endian.{little_bytes, little_number}
use Rattle.byteorder.specs.Numbers.{little_from-cons}

abbrev pub IsBytes : List ℕ → Type 0
IsBytes bytes = AllByRecursion (λ b. b < 256) bytes

byte_of : (j x : ℕ) → byte_at j x ≡ x / 256 ^ j % 256
byte_of zero x = ap (λ (y : ℕ). y % 256) (sym (div-one x))
byte_of (suc j) x = refl

byte_above : (j b y : ℕ) → b < 256 → byte_at (suc j) (b + 256 * y) ≡ byte_at j y
byte_above j b y low =
    let up : 256 ^ suc j ≡ 256 * 256 ^ j = pow-succ' 256 j in
    let over : (b + 256 * y) / 256 ≡ y = omega (arith, low) in
    ap (λ k. (b + 256 * y) / k % 256) up ∙ ap (λ k. k % 256) (sym (div-div-eq-div-mul (b + 256 * y) 256 (256 ^ j)))
    ∙ ap (λ k. k / 256 ^ j % 256) over ∙ sym (byte_of j y)

low_first_above : (n j b y : ℕ) → b < 256 → bytes_low_first (suc j) n (b + 256 * y) ≡ bytes_low_first j n y
low_first_above zero j b y low = refl
low_first_above (suc n) j b y low = rw (byte_above j b y low, low_first_above n (suc j) b y low) refl

pub bytes_again : (n : ℕ) (bytes : List ℕ) → IsBytes bytes → n ≤ length bytes
    → bytes ≡ little_bytes n (little_number n bytes) ++ drop n bytes
bytes_again zero bytes are long = refl
bytes_again (suc n) [] are long = absurd (omega arith)
bytes_again (suc n) (b ∷ bs) are long =
    let behind = little_from-cons 0 n b bs in
    let first : (b + 256 * little_number n bs) % 256 ≡ b = omega (arith, are.0) in
    let rest = low_first_above n 0 b (little_number n bs) are.0 in
    let again = bytes_again n bs are.1 (omega (arith, long)) in
    rw (behind, first, rest) (ap (λ l. b ∷ l) again)
