-- All lines of a list that are no commands. One of them counts as no command: what comes after it is read as if it weren't there.
use Rattle.std.specs.Prelude.{◌≡◌, ℕ, ◌+◌, List, [], ◌∷◌, Result, Ok, Err}
use Rattle.nvm_record.specs.declared.command.Command.{Command}
use Rattle.nvm_list.specs.Words.{text_lines, words}
use Rattle.nvm_list.specs.Lists.{command_at}
use Rattle.nvm_list.specs.declared.expected.Expected.{Expected}
use Rattle.nvm_list.specs.declared.fault.ListFault.{ListFault}
use Rattle.nvm_list.specs.declared.fault.ListFault.TheVariants.{Line, NoMemory}
use Rattle.nvm_listing.specs.declared.wrong_list.SaidLine.{SaidLine}
use Rattle.nvm_listing.specs.declared.wrong_list.SaidLine.TheVariants as saying
use Rattle.nvm_listing.specs.declared.wrong_list.WrongLine.{WrongLine}

abbrev pub said_by : Result Command Expected → SaidLine
said_by (Ok c) = saying.Command
said_by (Err expected) = saying.Wrong expected

-- what a line says that has these words, where its command would be at this place
abbrev pub said_on : ℕ → ℕ → List (List ℕ) → SaidLine
said_on size place [] = saying.Nothing
said_on size place (word ∷ words) = said_by (command_at size place (word ∷ words))

abbrev pub wrong_line : ℕ → Expected → WrongLine
wrong_line line expected = record { line = line; expected = expected }

-- The line, if it is wrong, and then the wrong ones after it, where the next command is at the place that is given.
abbrev pub followed_by : SaidLine → ℕ → ℕ → (ℕ → List WrongLine) → List WrongLine
followed_by saying.Nothing line place behind = behind place
followed_by saying.Command line place behind = behind (place + 1)
followed_by (saying.Wrong expected) line place behind = wrong_line line expected ∷ behind place

-- the wrong ones of lines, of which the first is line `line` and its command is at place `place`
abbrev pub wrong_from : ℕ → ℕ → ℕ → List (List ℕ) → List WrongLine
wrong_from size line place [] = []
wrong_from size line place (text ∷ texts) =
    followed_by (said_on size place (words text)) line place (λ next. wrong_from size (line + 1) next texts)

-- the wrong lines of a list
abbrev pub wrong_lines : ℕ → List ℕ → List WrongLine
wrong_lines size text = wrong_from size 1 1 (text_lines text)

-- The fault's line is the first of these.
abbrev pub BeginWith : ListFault → List WrongLine → Type 0
BeginWith (Line line expected) wrong = (others : List WrongLine) × (wrong ≡ wrong_line line expected ∷ others)
BeginWith NoMemory wrong = ⊥
