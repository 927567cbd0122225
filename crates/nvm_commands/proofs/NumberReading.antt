-- A number is read digit by digit, and not further than the digit that takes it above 64 bits.
use Rattle.std.proofs.Common.{◌≡◌, ℕ, ◌+◌, ◌*◌, ◌≤◌, Bool, true, false, cond, nat_lt, List, [], ◌∷◌, Some, None, refl, arith}
use Rattle.std.proofs.Math.Nat.{le-mul_of_pos_right}
use Rattle.std.proofs.lemmas.Bool.{cond-false, ltb-false, le-ltb}
use Rattle.nvm_commands.specs.Numbers.{digit_value, value_after, within}

-- digits more make no number less
pub grows : (radix n : ℕ) (bytes : List ℕ) → 1 ≤ radix → n ≤ value_after radix n bytes
grows radix n [] some = omega arith
grows radix n (byte ∷ bytes) some =
    let m : ℕ = n * radix + digit_value byte in
    let more : m ≤ value_after radix m bytes = grows radix m bytes some in
    let times : n ≤ n * radix = le-mul_of_pos_right n some in omega arith

too_large : (test : Bool) (n : ℕ) → cond test (Some n) None ≡ None → test ≡ false
too_large true n e = absurd cc
too_large false n e = refl

-- what 64 bits don't hold, no larger number does
pub none_above : (m n : ℕ) → within m ≡ None → m ≤ n → within n ≡ None
none_above m n none above =
    let high : 18446744073709551616 ≤ m = ltb-false m 18446744073709551616 (too_large (nat_lt m 18446744073709551616) m none) in
    let higher : 18446744073709551616 ≤ n = omega arith in
    cond-false (nat_lt n 18446744073709551616) (Some n) None (le-ltb n 18446744073709551616 higher)
