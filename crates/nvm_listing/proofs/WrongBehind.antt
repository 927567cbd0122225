-- The wrong lines and what reading a list answers.
use Rattle.std.proofs.Common.{◌≡◌, ℕ, ◌+◌, List, [], ◌∷◌, Result, Ok, Err, refl}
use Rattle.nvm_record.specs.declared.command.Command.{Command}
use Rattle.nvm_list.specs.Words.{words}
use Rattle.nvm_list.specs.Lists.{command_at, at_line, on_line, in_front, followed_by as read_behind, commands_from}
use Rattle.nvm_list.specs.declared.expected.Expected.{Expected}
use Rattle.nvm_list.specs.declared.fault.ListFault.{ListFault}
use Rattle.nvm_listing.specs.declared.wrong_list.WrongLine.{WrongLine}
use Rattle.nvm_listing.specs.WrongLines.{said_by, said_on, followed_by, wrong_from, BeginWith}

-- What reading answers, and the wrong lines of the same.
abbrev pub Agree : Result (List Command) ListFault → List WrongLine → Type 0
Agree (Ok cs) wrong = wrong ≡ []
Agree (Err fault) wrong = BeginWith fault wrong

behind_command : (c : Command) (read : Result (List Command) ListFault) (wrong : List WrongLine) → Agree read wrong → Agree (in_front c read) wrong
behind_command c (Ok cs) wrong h = h
behind_command c (Err fault) wrong h = h

agree_at : (line place : ℕ) (found : Result Command Expected) (read : ℕ → Result (List Command) ListFault) (wrong : ℕ → List WrongLine)
    → ((next : ℕ) → Agree (read next) (wrong next)) → Agree (read_behind (at_line line found) place read) (followed_by (said_by found) line place wrong)
agree_at line place (Ok c) read wrong each = behind_command c (read (place + 1)) (wrong (place + 1)) (each (place + 1))
agree_at line place (Err expected) read wrong each = (wrong place, refl)

agree_on : (size line place : ℕ) (its : List (List ℕ)) (read : ℕ → Result (List Command) ListFault) (wrong : ℕ → List WrongLine)
    → ((next : ℕ) → Agree (read next) (wrong next))
    → Agree (read_behind (on_line size line place its) place read) (followed_by (said_on size place its) line place wrong)
agree_on size line place [] read wrong each = each place
agree_on size line place (word ∷ its) read wrong each = agree_at line place (command_at size place (word ∷ its)) read wrong each

pub agree_from : (size line place : ℕ) (texts : List (List ℕ)) → Agree (commands_from size line place texts) (wrong_from size line place texts)
agree_from size line place [] = refl
agree_from size line place (text ∷ texts) =
    agree_on size line place (words text) (λ next. commands_from size (line + 1) next texts) (λ next. wrong_from size (line + 1) next texts)
    (λ next. agree_from size (line + 1) next texts)
