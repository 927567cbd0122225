-- The engine's faults for those of files; and the faults of a run, in the order in which they are looked for: the number of files,
-- the options, the files by their hosts' numbers.
use Rattle.std.specs.Prelude.{◌≡◌, ◌⊎◌, ℕ, ◌+◌, ◌≤◌, ◌<◌, List, [], ◌∷◌, length}
use Rattle.nvm_record.specs.HostFile.{IsHostFileFault, IsHostFile}
use Rattle.nvm_record.specs.declared.command.Command.{Command}
use Rattle.nvm_record.specs.declared.host_fault.HostFault.{HostFault}
use Rattle.nvm_record.specs.declared.host_fault.HostFault.TheVariants as of_file
use Rattle.nvm_geometry.specs.Faults as numbers
use Rattle.nvm_plan.specs.Fits.{most_hosts}
use Rattle.nvm_file.specs.declared.record_fault.RecordFault.{RecordFault}
use Rattle.nvm_file.specs.declared.record_fault.RecordFault.TheVariants as of_record
use Rattle.nvm_file.specs.declared.trace_file_fault.TraceFileFault.{TraceFileFault}
use Rattle.nvm_file.specs.declared.trace_file_fault.TraceFileFault.TheVariants as of_trace
use Rattle.nvm_engine.specs.Settings.{IsNamespace, advertised}
use Rattle.nvm_engine.specs.declared.settings.Settings.{Settings}
use Rattle.nvm_engine.specs.declared.fault.Fault.{Fault}
use Rattle.nvm_engine.specs.declared.fault.Fault.TheVariants.{Geometry, TooManyHosts, Host, Record, Trace, NoMemory}

-- the engine's fault for one of a host's file
abbrev pub fault_of_host : ℕ → HostFault → Fault
fault_of_host host of_file.NoMemory = NoMemory
fault_of_host host fault = Host host fault

-- the engine's fault for one of a record's file
abbrev pub fault_of_record : RecordFault → Fault
fault_of_record of_record.NoMemory = NoMemory
fault_of_record fault = Record fault

-- the engine's fault for one of a trace's file
abbrev pub fault_of_trace : TraceFileFault → Fault
fault_of_trace of_trace.NoMemory = NoMemory
fault_of_trace fault = Trace fault

-- The first fault of the options.
abbrev pub IsGeometryFault : Settings → Fault → Type 0
IsGeometryFault s (Geometry fault) = numbers.IsFirstGeometryFault (advertised s) fault
IsGeometryFault s fault = ⊥

-- The first fault of this host's file, where a block has `size` bytes.
abbrev pub IsFileFault : ℕ → ℕ → List ℕ → Fault → Type 0
IsFileFault size number file (Host host fault) = (host ≡ number) × IsHostFileFault size file fault
IsFileFault size number file fault = ⊥

-- The first fault of these files, the first of which is that of host `number`: it is one of a file before
-- which all are host files.
abbrev pub IsFilesFault : ℕ → ℕ → List (List ℕ) → Fault → Type 0
IsFilesFault size number [] fault = ⊥
IsFilesFault size number (file ∷ files) fault =
    IsFileFault size number file fault
    ⊎ (((commands : List Command) × IsHostFile size file commands) × IsFilesFault size (number + 1) files fault)

-- The first fault: too many files, or else one of the options, or else one of the files. Or memory was
-- refused, since no definition can say that memory was there.
abbrev pub IsFirstRunFault : Settings → List (List ℕ) → Fault → Type 0
IsFirstRunFault s files fault =
    ((most_hosts < length files) × (fault ≡ TooManyHosts))
    ⊎ (((length files ≤ most_hosts) × IsGeometryFault s fault)
    ⊎ (((length files ≤ most_hosts) × IsNamespace s × IsFilesFault s.block 1 files fault)
    ⊎ (fault ≡ NoMemory)))
