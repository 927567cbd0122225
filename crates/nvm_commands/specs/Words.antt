-- What the words of a command line may ask for.
use Rattle.std.specs.Prelude.{◌≤◌, length}
use Rattle.nvm_commands.specs.declared.words.Asked.{Asked}
use Rattle.nvm_commands.specs.declared.words.Asked.TheVariants.{Generate, Run}

-- A run is one of a list or more, and so is a load. The ranges of options are their types', but for that of `--commands`, 1 to
-- 65,535, of which nothing is said here.
abbrev pub IsAsked : Asked → Type 0
IsAsked (Run words) = 1 ≤ length words.lists.items
IsAsked (Generate words) = 1 ≤ length words.outs.items
IsAsked asked = Unit {0}
