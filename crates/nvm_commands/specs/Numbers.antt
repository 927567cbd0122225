-- Numbers as the words of a command line write them.
use Rattle.std.specs.Prelude.{◌≡◌, ℕ, ◌+◌, ◌-◌, ◌*◌, nat_lt, nat_le, ◌==◌, if◌then◌else◌, Bool, true, ◌&&◌, ◌||◌, List, [], ◌∷◌, length, take, drop, get_or, Option, Some, None, Result, Ok, Err}
use Rattle.nvm_commands.specs.declared.front.number_options.Expected.{Expected}
use Rattle.nvm_commands.specs.declared.front.number_options.Expected.TheVariants as expected

-- what the letters `k`, `m` and `g` stand for, in either case, and 1 for any other byte
abbrev pub unit_letter : ℕ → ℕ
unit_letter byte =
    if byte == 107 || byte == 75 then 1024 else
    if byte == 109 || byte == 77 then 1048576 else
    if byte == 103 || byte == 71 then 1073741824 else 1

-- how many times the number is taken, by the last byte
abbrev pub unit_of : List ℕ → ℕ
unit_of word = unit_letter (get_or word (length word - 1) 0)

-- the word without the letter after it
abbrev pub without_unit : List ℕ → List ℕ
without_unit word = if unit_of word == 1 then word else take (length word - 1) word

-- and without a `+` before it
abbrev pub body_of : List ℕ → List ℕ
body_of word = if get_or (without_unit word) 0 0 == 43 then drop 1 (without_unit word) else without_unit word

-- `0x` or `0X` comes before the digits
abbrev pub is_hexadecimal : List ℕ → Bool
is_hexadecimal body = nat_le 2 (length body) && (get_or body 0 0 == 48 && (get_or body 1 0 == 120 || get_or body 1 0 == 88))

abbrev pub radix_of : List ℕ → ℕ
radix_of word = if is_hexadecimal (body_of word) then 16 else 10

abbrev pub digits_of : List ℕ → List ℕ
digits_of word = if is_hexadecimal (body_of word) then drop 2 (body_of word) else body_of word

-- `0` to `9`, `a` to `f` and `A` to `F`, and 16 for what is no digit
abbrev pub digit_value : ℕ → ℕ
digit_value byte =
    if nat_le 48 byte && nat_le byte 57 then byte - 48 else
    if nat_le 97 byte && nat_le byte 102 then byte - 87 else
    if nat_le 65 byte && nat_le byte 70 then byte - 55 else 16

abbrev pub are_digits : ℕ → List ℕ → Bool
are_digits radix [] = true
are_digits radix (byte ∷ bytes) = nat_lt (digit_value byte) radix && are_digits radix bytes

-- one digit or more
abbrev pub is_numeral : ℕ → List ℕ → Bool
is_numeral radix bytes = nat_lt 0 (length bytes) && are_digits radix bytes

-- the number that digits write after those of n
abbrev pub value_after : ℕ → ℕ → List ℕ → ℕ
value_after radix n [] = n
value_after radix n (byte ∷ bytes) = value_after radix (n * radix + digit_value byte) bytes

-- the number that the word says, where its digits are some
abbrev pub value_of : List ℕ → ℕ
value_of word = value_after (radix_of word) 0 (digits_of word) * unit_of word

-- the number, where 64 bits hold it
abbrev pub within : ℕ → Option ℕ
within n = if nat_lt n 18446744073709551616 then Some n else None

-- the number, where it is one from `least` to `most`
abbrev pub taken : ℕ → ℕ → ℕ → Result ℕ Expected
taken least most n = if nat_le least n && nat_le n most then Ok n else Err (expected.Between least most)

abbrev pub number : ℕ → ℕ → List ℕ → Result ℕ Expected
number least most word =
    if is_numeral (radix_of word) (digits_of word) then taken least most (value_of word) else Err expected.Number

-- An option's value, if it has one, says this number.
abbrev pub IsGiven : ℕ → ℕ → Option (List ℕ) → Option ℕ → Type 0
IsGiven least most None given = given ≡ None
IsGiven least most (Some word) given = (n : ℕ) × (number least most word ≡ Ok n) × (given ≡ Some n)
