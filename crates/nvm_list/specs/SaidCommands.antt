-- Which line of a list each of its commands is read of, and that what is said of it is that line's.
use Rattle.std.specs.Prelude.{◌≡◌, ℕ, ◌+◌, List, ◌∷◌, ◌++◌, length, take, Some, Ok}
use Rattle.nvm_record.specs.Lists.{IsAt}
use Rattle.nvm_record.specs.declared.command.Command.{Command}
use Rattle.nvm_list.specs.Words.{text_lines, words}
use Rattle.nvm_list.specs.Lines.{command}
use Rattle.nvm_list.specs.Lists.{on_line, commands_from, commands}
use Rattle.nvm_list.specs.Said.{said, said_lines}

-- The command at place k of these, counted from 0, is read of this line: the lines before it are read as the commands before.
pub record IsLineOf (size : ℕ) (text : List ℕ) (cs : List Command) (k : ℕ) (c : Command) (line : List ℕ) : Type 0 where
  pub before : List (List ℕ)
  pub behind : List (List ℕ)
  pub parts : text_lines text ≡ before ++ line ∷ behind
  pub read : commands_from size 1 1 before ≡ Ok (take k cs)
  pub here : on_line size (1 + length before) (1 + k) (words line) ≡ Ok (Some c)

-- What the list says at place k of its lines that have words is the line of the command at place k, and reads as it there.
pub record IsSaidOf (size : ℕ) (text : List ℕ) (cs : List Command) (k : ℕ) (c : Command) : Type 0 where
  pub line : List ℕ
  pub of : IsLineOf size text cs k c line
  pub says : IsAt (said_lines text) k (said line)
  pub again : command size (1 + k) (words (said line)) ≡ Ok c

-- A list says as much as it has commands, and what it says at each place is the line of the command there.
pub record SaysItsCommands (size : ℕ) (text : List ℕ) (cs : List Command) : Type 0 where
  pub as_many : length (said_lines text) ≡ length cs
  pub each : (k : ℕ) (c : Command) → IsAt cs k c → IsSaidOf size text cs k c

-- So it is with each list that has commands.
abbrev pub ListsSayTheirCommands : Type 0
ListsSayTheirCommands = (size : ℕ) (text : List ℕ) (cs : List Command) → commands size text ≡ Ok cs → SaysItsCommands size text cs
