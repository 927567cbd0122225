-- The first line of a list that is no command.
use Rattle.std.specs.Prelude.{◌≡◌, ◌↔◌, ℕ, ◌+◌, List, ◌∷◌, ◌++◌, length, Ok, Err}
use Rattle.nvm_record.specs.declared.command.Command.{Command}
use Rattle.nvm_list.specs.Words.{text_lines, words}
use Rattle.nvm_list.specs.Lists.{on_line, commands_from, commands}
use Rattle.nvm_list.specs.declared.expected.Expected.{Expected}
use Rattle.nvm_list.specs.declared.fault.ListFault.TheVariants.{Line}

-- The lines before this one are read as these commands, and this one isn't read after them.
pub record IsRefusedBehind (size : ℕ) (text : List ℕ) (line : ℕ) (expected : Expected) (before : List (List ℕ)) (here : List ℕ) (behind : List (List ℕ)) (cs : List Command) : Type 0 where
  pub parts : text_lines text ≡ before ++ here ∷ behind
  pub number : line ≡ 1 + length before
  pub read : commands_from size 1 1 before ≡ Ok cs
  pub refused : on_line size line (1 + length cs) (words here) ≡ Err (Line line expected)

-- Line `line` is the first that is no command, and that was expected in it.
abbrev pub IsFirstListFault : ℕ → List ℕ → ℕ → Expected → Type 0
IsFirstListFault size text line expected =
    (before : List (List ℕ)) × (here : List ℕ) × (behind : List (List ℕ)) × (cs : List Command) × IsRefusedBehind size text line expected before here behind cs

-- A list has a fault exactly where a line is the first that is no command.
abbrev pub FaultsAreFirst : Type 0
FaultsAreFirst =
    (size : ℕ) (text : List ℕ) (line : ℕ) (expected : Expected)
    → (commands size text ≡ Err (Line line expected)) ↔ IsFirstListFault size text line expected
