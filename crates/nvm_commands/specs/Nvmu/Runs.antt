-- The first fault of a run, and what a run shows of files at paths. What is in a file no definition can say, so there the files'
-- bytes are some, as many as there are files.
use Rattle.std.specs.Prelude.{◌≡◌, ◌⊎◌, ℕ, List, length}
use Rattle.nvm_audit.specs.RecordView.{RecordView}
use Rattle.nvm_engine.specs.Fault.{IsFirstRunFault}
use Rattle.nvm_engine.specs.Shown.{IsShown}
use Rattle.nvm_engine.specs.declared.settings.Settings.{Settings}
use Rattle.nvm_commands.specs.Files.{IsReadingFault, IsWriteFault}
use Rattle.nvm_commands.specs.declared.fault.Fault.{Fault}
use Rattle.nvm_commands.specs.declared.fault.Fault.TheVariants.{Engine}

-- It is the first fault of a run of the settings on exactly these files.
abbrev pub IsRunFault : Settings → List (List ℕ) → Fault → Type 0
IsRunFault settings files (Engine fault) = IsFirstRunFault settings files fault
IsRunFault settings files fault = ⊥

-- The record is that of a run of the settings on the files at these paths. It goes to its file, and its text to standard output.
abbrev pub IsShownOn : Settings → List (List ℕ) → RecordView → Type 0
IsShownOn settings paths run = (files : List (List ℕ)) × (length files ≡ length paths) × IsShown settings files run

-- Some file couldn't be read, or else it is the first fault of a run on them.
abbrev pub IsFaultOn : Settings → List (List ℕ) → Fault → Type 0
IsFaultOn settings paths fault =
    IsReadingFault paths fault ⊎ ((files : List (List ℕ)) × (length files ≡ length paths) × IsRunFault settings files fault)

-- Some file couldn't be read, or else it is the first fault of a run on them, or else the record couldn't be written to this path.
abbrev pub IsRunFaultOn : Settings → List ℕ → List (List ℕ) → Fault → Type 0
IsRunFaultOn settings out paths fault = IsFaultOn settings paths fault ⊎ IsWriteFault out fault
