-- What the words of a command line may ask for.
use Rattle.std.specs.Prelude.{◌≤◌, length}
use Rattle.nvm_commands.specs.declared.nvmu.words.Asked.{Asked}
use Rattle.nvm_commands.specs.declared.nvmu.words.Asked.TheVariants.{Run, Audit, Witness, Refute}

-- A run of one host file or more, the audit of a record, or the judging of a trace by a record, an order or a contradiction. The ranges
-- of options are their types'.
abbrev pub IsAsked : Asked → Type 0
IsAsked (Run settings path files) = 1 ≤ length files.items
IsAsked (Audit words) = Unit {0}
IsAsked (Witness words) = Unit {0}
IsAsked (Refute trace contradiction) = Unit {0}
