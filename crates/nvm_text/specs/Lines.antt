-- What is printed of a command and its completion.
use Rattle.std.specs.Prelude.{ℕ, ◌+◌, ◌/◌, ◌%◌, ◌==◌, nat_lt, length, if◌then◌else◌, List, [], ◌∷◌, ◌++◌, Option, Some, None, codes, decimal}
use Rattle.nvm_record.specs.declared.op.Op.{Op}
use Rattle.nvm_record.specs.declared.op.Op.TheVariants.{Write, Read, WriteUncorrectable, Compare, WriteZeroes, Dataset, Other}
use Rattle.nvm_record.specs.declared.status.Status.{Status}
use Rattle.nvm_record.specs.declared.status.Statuses.{Statuses}
use Rattle.nvm_record.specs.declared.status.Statuses.TheVariants.{One, Two}
use Rattle.nvm_record.specs.declared.completion.Completion.{Completion}
use Rattle.nvm_text.specs.Runs.{Run, runs}

-- a hexadecimal digit, `0` to `9` and `a` to `f`
abbrev pub hex_digit : ℕ → ℕ
hex_digit digit = if nat_lt digit 10 then 48 + digit else 87 + digit

-- a byte as two hexadecimal digits
abbrev pub hex2 : ℕ → List ℕ
hex2 byte = hex_digit (byte / 16) ∷ hex_digit (byte % 16) ∷ []

-- the word for an operation, and what is before the opcode of one that has no other name
abbrev pub word_of : Op → List ℕ
word_of Write = codes "write"
word_of Read = codes "read"
word_of WriteUncorrectable = codes "uncorrectable"
word_of Compare = codes "compare"
word_of WriteZeroes = codes "zeroes"
word_of (Dataset deallocate) = codes "dataset"
word_of (Other opcode) = codes "op-"

abbrev pub opcode_digits : Op → List ℕ
opcode_digits (Other opcode) = hex2 opcode
opcode_digits _ = []

-- the name of an operation; where the profile has none, its opcode
abbrev pub name_of : Op → List ℕ
name_of op = word_of op ++ opcode_digits op

-- the status code type, and the status code
abbrev pub status_text : Status → List ℕ
status_text status = decimal status.sct ++ (codes "/" ++ hex2 status.sc)

-- a pair's first command's status is before the second's
abbrev pub statuses_text : Statuses → List ℕ
statuses_text (One status) = status_text status
statuses_text (Two first second) = status_text first ++ (codes " " ++ status_text second)

-- how many bytes, and which
abbrev pub run_text : Run → List ℕ
run_text run = decimal run.count ++ (codes "*" ++ hex2 run.byte)

-- runs that follow another one
abbrev pub more_runs_text : List Run → List ℕ
more_runs_text [] = []
more_runs_text (run ∷ runs) = codes "," ++ (run_text run ++ more_runs_text runs)

-- runs, joined by commas
abbrev pub runs_text : List Run → List ℕ
runs_text [] = []
runs_text (run ∷ runs) = run_text run ++ more_runs_text runs

-- what is between a run and the bytes after it
abbrev pub comma_before : List ℕ → List ℕ
comma_before rest = if length rest == 0 then codes "" else codes ","

-- the data of a completion, if it has any
abbrev pub payload_text : Option (List ℕ) → List ℕ
payload_text None = []
payload_text (Some bytes) = codes " " ++ runs_text (runs bytes)

-- the host's number and the command identifier
abbrev pub identifiers : ℕ → ℕ → List ℕ
identifiers host cid = decimal host ++ (codes " " ++ (decimal cid ++ codes " "))

-- Host, command identifier, name, status and data of a command, and the end of the line.
abbrev pub line : Op → Completion → List ℕ
line op completion =
    identifiers completion.host completion.cid
    ++ (name_of op ++ (codes " "
    ++ (status_text completion.status
    ++ (payload_text completion.payload ++ codes "\n"))))
