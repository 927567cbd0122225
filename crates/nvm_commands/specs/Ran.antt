-- A run of command lists: each is the list of exactly the commands that its host file holds, and which of the engine's faults can be
-- that of such a run.
use Rattle.std.specs.Prelude.{◌≡◌, ℕ, List, [], ◌∷◌, Ok}
use Rattle.nvm_record.specs.HostFile.{IsHostFile}
use Rattle.nvm_record.specs.declared.command.Command.{Command}
use Rattle.nvm_list.specs.Lists.{commands}
use Rattle.nvm_engine.specs.declared.fault.Fault.{Fault as FaultOfRun}
use Rattle.nvm_engine.specs.declared.fault.Fault.TheVariants as of_run
use Rattle.nvm_commands.specs.declared.fault.Fault.{Fault}
use Rattle.nvm_commands.specs.declared.fault.Fault.TheVariants.{Geometry, TooManyHosts, NoMemory}

-- The file is the host file of exactly the commands of the list.
abbrev pub IsFileOf : ℕ → List ℕ → List ℕ → Type 0
IsFileOf size text file = (cs : List Command) × (commands size text ≡ Ok cs) × IsHostFile size file cs

-- Each file is that of the list at its place.
abbrev pub AreFilesOf : ℕ → List (List ℕ) → List (List ℕ) → Type 0
AreFilesOf size [] [] = Unit {0}
AreFilesOf size [] (file ∷ files) = ⊥
AreFilesOf size (text ∷ texts) [] = ⊥
AreFilesOf size (text ∷ texts) (file ∷ files) = IsFileOf size text file × AreFilesOf size texts files

-- a fault of a run on host files, as the program prints it; no other comes of one
abbrev pub fault_of_run : FaultOfRun → Fault
fault_of_run (of_run.Geometry fault) = Geometry fault
fault_of_run of_run.TooManyHosts = TooManyHosts
fault_of_run fault = NoMemory

-- It is one of the numbers of the namespace, one of the number of hosts, or want of memory.
abbrev pub IsToldFault : FaultOfRun → Type 0
IsToldFault (of_run.Geometry fault) = Unit {0}
IsToldFault of_run.TooManyHosts = Unit {0}
IsToldFault of_run.NoMemory = Unit {0}
IsToldFault fault = ⊥
