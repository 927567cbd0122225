-- Numbers as words write them: in decimal digits, and bytes in two hexadecimal ones.
use Rattle.std.specs.Prelude.{ℕ, ◌+◌, ◌-◌, ◌*◌, nat_lt, nat_le, if◌then◌else◌, Bool, ◌&&◌, List, [], ◌∷◌, length, Option, Some, None}
use Rattle.std.specs.Char.{is_ascii_digit}
use Rattle.std.specs.Str.{all_ascii_digits}

-- the number that digits write after those of n
abbrev pub value_after : ℕ → List ℕ → ℕ
value_after n [] = n
value_after n (digit ∷ digits) = value_after (n * 10 + (digit - 48)) digits

-- one decimal digit or more, of a number that is at most `most`
abbrev pub is_number : ℕ → List ℕ → Bool
is_number most word = (nat_lt 0 (length word) && all_ascii_digits word) && nat_le (value_after 0 word) most

abbrev pub number : ℕ → List ℕ → Option ℕ
number most word = if is_number most word then Some (value_after 0 word) else None

-- the number with a digit more, where it is still at most `most`
abbrev pub with_digit : ℕ → ℕ → ℕ → Option ℕ
with_digit most n digit =
    if is_ascii_digit digit && nat_le (n * 10 + (digit - 48)) most then Some (n * 10 + (digit - 48)) else None

-- `0` to `9`, `a` to `f` and `A` to `F`
abbrev pub hex_value : ℕ → Option ℕ
hex_value digit =
    if nat_le 48 digit && nat_le digit 57 then Some (digit - 48) else
    if nat_le 97 digit && nat_le digit 102 then Some (digit - 87) else
    if nat_le 65 digit && nat_le digit 70 then Some (digit - 55) else None

abbrev pub byte_of : Option ℕ → Option ℕ → Option ℕ
byte_of None low = None
byte_of (Some high) None = None
byte_of (Some high) (Some low) = Some (high * 16 + low)

-- two hexadecimal digits, and nothing else
abbrev pub hex_byte : List ℕ → Option ℕ
hex_byte [] = None
hex_byte (high ∷ []) = None
hex_byte (high ∷ low ∷ []) = byte_of (hex_value high) (hex_value low)
hex_byte (high ∷ low ∷ more ∷ rest) = None
