-- A list: a command a line, where lines without words are passed over.
use Rattle.std.specs.Prelude.{ℕ, ◌+◌, nat_le, if◌then◌else◌, List, [], ◌∷◌, Option, Some, None, Result, Ok, Err}
use Rattle.nvm_record.specs.HostFile.{file_of}
use Rattle.nvm_record.specs.declared.command.Command.{Command}
use Rattle.nvm_list.specs.Words.{text_lines, words}
use Rattle.nvm_list.specs.Lines.{command}
use Rattle.nvm_list.specs.declared.expected.Expected.{Expected}
use Rattle.nvm_list.specs.declared.expected.Expected.TheVariants.{NoMoreCommands}
use Rattle.nvm_list.specs.declared.fault.ListFault.{ListFault}
use Rattle.nvm_list.specs.declared.fault.ListFault.TheVariants.{Line}

-- the command at a place of the list; a list has 65,536 commands at most
abbrev pub command_at : ℕ → ℕ → List (List ℕ) → Result Command Expected
command_at size place words = if nat_le place 65536 then command size place words else Err NoMoreCommands

abbrev pub at_line : ℕ → Result Command Expected → Result (Option Command) ListFault
at_line line (Err expected) = Err (Line line expected)
at_line line (Ok c) = Ok (Some c)

-- the command of a line that has these words, if it has any
abbrev pub on_line : ℕ → ℕ → ℕ → List (List ℕ) → Result (Option Command) ListFault
on_line size line place [] = Ok None
on_line size line place (word ∷ words) = at_line line (command_at size place (word ∷ words))

abbrev pub in_front : Command → Result (List Command) ListFault → Result (List Command) ListFault
in_front c (Err fault) = Err fault
in_front c (Ok cs) = Ok (c ∷ cs)

-- What a line has, and then what those after it have, of which the first is at the given place. The
-- first line that is no command is the fault.
abbrev pub followed_by : Result (Option Command) ListFault → ℕ → (ℕ → Result (List Command) ListFault) → Result (List Command) ListFault
followed_by (Err fault) place behind = Err fault
followed_by (Ok None) place behind = behind place
followed_by (Ok (Some c)) place behind = in_front c (behind (place + 1))

-- the commands of lines, of which the first is line `line` and its command is at place `place`
abbrev pub commands_from : ℕ → ℕ → ℕ → List (List ℕ) → Result (List Command) ListFault
commands_from size line place [] = Ok []
commands_from size line place (text ∷ texts) =
    followed_by (on_line size line place (words text)) place (λ next. commands_from size (line + 1) next texts)

-- the commands of a list
abbrev pub commands : ℕ → List ℕ → Result (List Command) ListFault
commands size text = commands_from size 1 1 (text_lines text)

abbrev pub file_from : Result (List Command) ListFault → Result (List ℕ) ListFault
file_from (Ok cs) = Ok (file_of cs)
file_from (Err fault) = Err fault

-- the host file of a list, every unnamed bit being 0
abbrev pub assembled : ℕ → List ℕ → Result (List ℕ) ListFault
assembled size text = file_from (commands size text)
