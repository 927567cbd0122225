-- Why a run of command lists showed nothing, and what the words' numbers are to the engine.
use Rattle.std.specs.Prelude.{◌≡◌, ◌≢◌, ◌≤◌, ◌⊎◌, ℕ, String, Option, Some, None, List, [], ◌∷◌, Ok, Err, IfSome, codes, string_bytes}
use Rattle.std.specs.Global.{Global}
use Rattle.std.specs.List.{count_by}
use Rattle.nvm_record.specs.declared.command.Command.{Command}
use Rattle.nvm_list.specs.Lists.{commands}
use Rattle.nvm_list.specs.declared.fault.ListFault.TheVariants as of_list
use Rattle.nvm_engine.specs.declared.settings.Settings.{Settings}
use Rattle.nvm_commands.specs.Standard.{names_input}
use Rattle.nvm_commands.specs.Files.{IsWriteFault}
use Rattle.nvm_commands.specs.declared.fault.Fault.{Fault}
use Rattle.nvm_commands.specs.declared.fault.Fault.TheVariants.{InputTwice, ListLine, RecordAmongLines}
use Rattle.nvm_commands.specs.declared.running_words.RunWords.{RunWords}

-- At most one list is standard input, and the record isn't standard output.
abbrev pub FitNames : List (String Global) → Option (String Global) → Type 0
FitNames lists out =
    (count_by (λ path. names_input (string_bytes path)) lists ≤ 1) × IfSome out (λ path. string_bytes path ≢ codes "-")

-- Two or more lists are standard input, or the record would be standard output.
abbrev pub IsNamesFault : List (String Global) → Option (String Global) → Fault → Type 0
IsNamesFault lists out InputTwice = 2 ≤ count_by (λ path. names_input (string_bytes path)) lists
IsNamesFault lists (Some out) RecordAmongLines = string_bytes out ≡ codes "-"
IsNamesFault lists out fault = ⊥

-- The record couldn't be written to its path, or memory was refused.
abbrev pub IsKeepingFault : Option (String Global) → Fault → Type 0
IsKeepingFault (Some path) fault = IsWriteFault (string_bytes path) fault
IsKeepingFault None fault = ⊥

-- The first line that is no command, of the list at this path.
abbrev pub IsLineFault : ℕ → List ℕ → List ℕ → Fault → Type 0
IsLineFault size path text (ListLine shown line expected) =
    (string_bytes shown ≡ path) × (commands size text ≡ Err (of_list.Line line expected))
IsLineFault size path text fault = ⊥

-- The first fault of these lists, which were read from these paths: it is one of a list before which all are lists of commands.
abbrev pub IsListsFault : ℕ → List (List ℕ) → List (List ℕ) → Fault → Type 0
IsListsFault size [] texts fault = ⊥
IsListsFault size (path ∷ paths) [] fault = ⊥
IsListsFault size (path ∷ paths) (text ∷ texts) fault =
    IsLineFault size path text fault
    ⊎ (((cs : List Command) × (commands size text ≡ Ok cs)) × IsListsFault size paths texts fault)

-- The words give these settings. The number of workers is theirs where they give one.
abbrev pub IsSettingsOf : RunWords → Settings → Type 0
IsSettingsOf words settings =
    (settings.block ≡ words.namespace.size)
    × (settings.nsze ≡ words.namespace.nsze)
    × (settings.nabsn ≡ words.namespace.nabsn)
    × (settings.nabo ≡ words.namespace.nabo)
    × (settings.nawun ≡ words.namespace.nawun)
    × (settings.nacwu ≡ words.namespace.nacwu)
    × (settings.limit ≡ words.limit)
    × IfSome words.workers (λ workers. settings.workers ≡ workers)
