-- The host files of lists have no fault, so a run on them ends with no fault of a file.
use Rattle.std.proofs.Common.{ℕ, zero, suc, ◌+◌, ◌<◌, List, [], ◌∷◌, ◌++◌, length, take, get_or, inl, inr, sym, subst, arith}
use Rattle.nvm_record.specs.HostFile.{IsHostFile}
use Rattle.nvm_record.specs.declared.command.Command.{Command}
use Rattle.nvm_record.proofs.OneReading.{no_list}
use Rattle.nvm_engine.specs.Fault.{IsFileFault, IsFilesFault, IsGeometryFault, IsFirstRunFault}
use Rattle.nvm_engine.specs.declared.fault.Fault.{Fault as FaultOfRun}
use Rattle.nvm_engine.specs.declared.fault.Fault.TheVariants as of_run
use Rattle.nvm_engine.specs.declared.settings.Settings.{Settings}
use Rattle.nvm_commands.specs.Ran.{IsFileOf, AreFilesOf, IsToldFault}
use Rattle.nvm_commands.specs.RunFaults.{IsLineFault, IsListsFault}
use Rattle.nvm_commands.specs.declared.fault.Fault.{Fault}

no_file_fault : (size number : ℕ) (file : List ℕ) (cs : List Command) (fault : FaultOfRun) → IsHostFile size file cs
    → IsFileFault size number file fault → ⊥
no_file_fault size number file cs (of_run.Host host fault) h k = no_list size file cs fault h k.1
no_file_fault size number file cs (of_run.Geometry fault) h k = k
no_file_fault size number file cs of_run.TooManyHosts h k = k
no_file_fault size number file cs (of_run.Record fault) h k = k
no_file_fault size number file cs (of_run.Trace fault) h k = k
no_file_fault size number file cs of_run.NoMemory h k = k

no_files_fault : (size number : ℕ) (texts files : List (List ℕ)) (fault : FaultOfRun) → AreFilesOf size texts files
    → IsFilesFault size number files fault → ⊥
no_files_fault size number [] [] fault h k = k
no_files_fault size number [] (file ∷ files) fault h k = h
no_files_fault size number (text ∷ texts) [] fault h k = h
no_files_fault size number (text ∷ texts) (file ∷ files) fault (here, rest) (inl k) = no_file_fault size number file here.0 fault here.2 k
no_files_fault size number (text ∷ texts) (file ∷ files) fault (here, rest) (inr k) =
    no_files_fault size (number + 1) texts files fault rest k.1

geometry_is_told : (s : Settings) (fault : FaultOfRun) → IsGeometryFault s fault → IsToldFault fault
geometry_is_told s (of_run.Geometry fault) k = tt
geometry_is_told s of_run.TooManyHosts k = tt
geometry_is_told s of_run.NoMemory k = tt
geometry_is_told s (of_run.Host host fault) k = k
geometry_is_told s (of_run.Record fault) k = k
geometry_is_told s (of_run.Trace fault) k = k

pub told_alone : (s : Settings) (texts files : List (List ℕ)) (fault : FaultOfRun) → AreFilesOf s.block texts files
    → IsFirstRunFault s files fault → IsToldFault fault
told_alone s texts files fault h (inl k) = subst IsToldFault (sym k.1) tt
told_alone s texts files fault h (inr (inl k)) = geometry_is_told s fault k.1
told_alone s texts files fault h (inr (inr (inl k))) = absurd (no_files_fault s.block 1 texts files fault h k.2)
told_alone s texts files fault h (inr (inr (inr k))) = subst IsToldFault (sym k) tt

-- a list more, and its file
pub one_more : (size : ℕ) (texts files : List (List ℕ)) (text file : List ℕ) → AreFilesOf size texts files → IsFileOf size text file
    → AreFilesOf size (texts ++ text ∷ []) (files ++ file ∷ [])
one_more size [] [] text file h k = (k, tt)
one_more size [] (f ∷ files) text file h k = absurd h
one_more size (t ∷ texts) [] text file h k = absurd h
one_more size (t ∷ texts) (f ∷ files) text file (here, rest) k = (here, one_more size texts files text file rest k)

-- the fault of a list before which all have their host files
pub first_fault : (size place : ℕ) (paths texts files : List (List ℕ)) (fault : Fault) → place < length paths → place < length texts
    → AreFilesOf size (take place texts) files → IsLineFault size (get_or paths place []) (get_or texts place []) fault
    → IsListsFault size paths texts fault
first_fault size place [] texts files fault p q h k = absurd (omega arith)
first_fault size place (path ∷ paths) [] files fault p q h k = absurd (omega arith)
first_fault size zero (path ∷ paths) (text ∷ texts) files fault p q h k = inl k
first_fault size (suc place) (path ∷ paths) (text ∷ texts) [] fault p q h k = absurd h
first_fault size (suc place) (path ∷ paths) (text ∷ texts) (file ∷ files) fault p q (here, rest) k =
    inr ((here.0, here.1), first_fault size place paths texts files fault (omega arith) (omega arith) rest k)
