-- What one line of a list expects: its command is followed by the word `expect` and a status, as in `read 0 1 expect 2/81`. Only a
-- word before the comment counts.
use Rattle.std.specs.Prelude.{ℕ, ◌+◌, if◌then◌else◌, List, [], ◌∷◌, take, drop, length, codes, Option, Some, None, option_map, Result, Ok, Err}
use Rattle.std.specs.List.{slice_split, before_first, after_first}
use Rattle.std.specs.Str.{bytes_eq}
use Rattle.nvm_record.specs.declared.status.Status.{Status}
use Rattle.nvm_list.specs.Numbers.{number, hex_byte}
use Rattle.nvm_list.specs.Words.{is, is_blank, first, others, words_in}
use Rattle.nvm_listing.specs.declared.expectation_fault.Expected.{Expected}
use Rattle.nvm_listing.specs.declared.expectation_fault.Expected.TheVariants as expecting

-- where the first `expect` begins among pieces with a blank between each two, counted in bytes
abbrev pub place_among : List (List ℕ) → Option ℕ
place_among [] = None
place_among (piece ∷ pieces) =
    if bytes_eq piece (codes "expect") then Some 0 else option_map (λ place. length piece + 1 + place) (place_among pieces)

-- the line before its comment
abbrev pub uncommented : List ℕ → List ℕ
uncommented line = before_first (is 35) line

-- where the word `expect` begins in a line, if it has one
abbrev pub expect_place : List ℕ → Option ℕ
expect_place line = place_among (slice_split is_blank (uncommented line))

abbrev pub front_at : Option ℕ → List ℕ → List ℕ
front_at None line = line
front_at (Some place) line = take place line

-- the line without its expectation: what is before the word `expect`, or the whole line
abbrev pub front : List ℕ → List ℕ
front line = front_at (expect_place line) line

abbrev pub status_of : Option ℕ → Option ℕ → Option Status
status_of None code = None
status_of (Some sct) None = None
status_of (Some sct) (Some sc) = Some (record { sct = sct; sc = sc })

-- the status code type, `/`, and the status code
abbrev pub status : List ℕ → Option Status
status word = status_of (number 255 (before_first (is 47) word)) (hex_byte (after_first (is 47) word))

-- a status, and no words after it
abbrev pub last_status : Option Status → List (List ℕ) → Result (Option Status) Expected
last_status None words = Err expecting.Status
last_status (Some s) [] = Ok (Some s)
last_status (Some s) (word ∷ words) = Err expecting.End

-- what is expected where these words come before `expect`, and those after it
abbrev pub expected_of : List (List ℕ) → List (List ℕ) → Result (Option Status) Expected
expected_of [] after = Err expecting.Command
expected_of (word ∷ words) after = last_status (status (first after)) (others after)

abbrev pub expectation_at : Option ℕ → List ℕ → Result (Option Status) Expected
expectation_at None text = Ok None
expectation_at (Some place) text = expected_of (words_in (take place text)) (words_in (drop (place + 6) text))

-- the status that a line expects, if it has the word `expect`
abbrev pub expectation : List ℕ → Result (Option Status) Expected
expectation line = expectation_at (expect_place line) (uncommented line)
