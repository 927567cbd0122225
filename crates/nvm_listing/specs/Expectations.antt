-- What a list expects, line by line.
use Rattle.std.specs.Prelude.{ℕ, ◌+◌, nat_lt, if◌then◌else◌, Bool, List, [], ◌∷◌, length, map, Option, Result, Ok, Err}
use Rattle.std.specs.List.{join_with_byte}
use Rattle.nvm_record.specs.declared.status.Status.{Status}
use Rattle.nvm_list.specs.Words.{text_lines, words}
use Rattle.nvm_listing.specs.Expectation.{front, expectation}
use Rattle.nvm_listing.specs.declared.expectation_fault.Expected.{Expected}
use Rattle.nvm_listing.specs.declared.expectation_fault.ExpectationFault.{ExpectationFault}
use Rattle.nvm_listing.specs.declared.expectation_fault.ExpectationFault.TheVariants.{Line}

-- the list without its expectations
abbrev pub without_expectations : List ℕ → List ℕ
without_expectations list = join_with_byte 10 (map front (text_lines list))

abbrev pub has_words : List ℕ → Bool
has_words line = nat_lt 0 (length (words line))

-- what a line expects, and then what those after it do; the first wrong expectation is the fault
abbrev pub followed_by : ℕ → Result (Option Status) Expected → Result (List (Option Status)) ExpectationFault → Result (List (Option Status)) ExpectationFault
followed_by line (Err expected) behind = Err (Line line expected)
followed_by line (Ok one) (Err fault) = Err fault
followed_by line (Ok one) (Ok more) = Ok (one ∷ more)

-- what the lines that have words expect, of which the first is line `line`
abbrev pub expectations_from : ℕ → List (List ℕ) → Result (List (Option Status)) ExpectationFault
expectations_from line [] = Ok []
expectations_from line (text ∷ texts) =
    if has_words text
    then followed_by line (expectation text) (expectations_from (line + 1) texts)
    else expectations_from (line + 1) texts

-- what each command of a list expects
abbrev pub expectations : List ℕ → Result (List (Option Status)) ExpectationFault
expectations list = expectations_from 1 (text_lines list)
