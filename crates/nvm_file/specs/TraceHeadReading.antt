-- What stands before the jobs of a trace's file: its name, the numbers of the namespace, the first LBA of the window, what was known
-- of its blocks, what the device promises, and how many jobs there are.
use Rattle.std.specs.Prelude.{ℕ, ◌==◌, ◌/◌, ◌%◌, List, [], ◌∷◌, take, drop, if◌then◌else◌, Result, Ok, Err}
use Rattle.std.specs.Str.{bytes_eq}
use Rattle.nvm_geometry.specs.Namespace.{Namespace}
use Rattle.nvm_audit.specs.declared.version.Version.TheVariants.{Two}
use Rattle.nvm_audit.specs.Recordable.{most_jobs}
use Rattle.nvm_trace.specs.declared.deallocated.Deallocated.{Deallocated}
use Rattle.nvm_trace.specs.declared.deallocated.Deallocated.TheVariants.{Zeroes as ZeroesRead, Ones, Either}
use Rattle.nvm_trace.specs.declared.reads.Reads.{Reads}
use Rattle.nvm_trace.specs.declared.reads.Reads.TheVariants.{Atomic, Whole, ByBlocks}
use Rattle.nvm_trace.specs.declared.start.Start.{Start}
use Rattle.nvm_trace.specs.declared.start.Start.TheVariants.{Zeroes, Unknown}
use Rattle.nvm_file.specs.declared.record_fault.RecordFault.{RecordFault}
use Rattle.nvm_file.specs.declared.record_fault.RecordFault.TheVariants.{BadName}
use Rattle.nvm_file.specs.declared.trace_frame.TraceFrame.{TraceFrame}
use Rattle.nvm_file.specs.Fields.{◌>>=◌, number_at, number_in}
use Rattle.nvm_file.specs.HeadReading.{judged, numbers_at}

-- `NVT1`, with which each trace's file begins
abbrev pub trace_name : List ℕ
trace_name = 78 ∷ 86 ∷ 84 ∷ 49 ∷ []

-- what stands behind the name
unfoldable pub trace_name_at : List ℕ → Result (List ℕ) RecordFault
trace_name_at bytes = if bytes_eq (take 4 bytes) trace_name then Ok (drop 4 bytes) else Err BadName

-- what was known of the blocks, by its code
abbrev pub start_of : ℕ → Start
start_of code = if code == 0 then Zeroes else Unknown

-- what Reads and Compares are held to, by the code of what the device promises
abbrev pub reads_of : ℕ → Reads
reads_of code = if code % 3 == 0 then Whole else if code % 3 == 1 then ByBlocks else Atomic

-- what a deallocated block may read as, by the same code
abbrev pub deallocated_of : ℕ → Deallocated
deallocated_of code = if code / 3 == 0 then Either else if code / 3 == 1 then ZeroesRead else Ones

-- what the head of a file of `total` bytes says. Its commands are those of a record of the second version.
abbrev pub trace_frame_with : ℕ → Namespace → ℕ → ℕ → ℕ → ℕ → TraceFrame
trace_frame_with total ns first start promises jobs =
    record {
      scope = record { total = total; version = Two; geometry = ns };
      first = first;
      start = start_of start;
      reads = reads_of promises;
      deallocated = deallocated_of promises;
      jobs = jobs;
    }

-- all that stands before the jobs, of a file of `total` bytes
unfoldable pub trace_head_at : ℕ → List ℕ → Result (TraceFrame × List ℕ) RecordFault
trace_head_at total bytes = do
  name ← trace_name_at bytes
  numbers ← numbers_at total name
  namespace ← judged numbers.0
  first ← number_at total 8 numbers.1
  start ← number_in total 1 0 1 first.1
  promises ← number_in total 1 0 8 start.1
  jobs ← number_in total 4 0 most_jobs promises.1
  Ok (trace_frame_with total namespace first.0 start.0 promises.0 jobs.0, jobs.1)
