-- What stands before the jobs: the file's name and version, the numbers of the namespace, the limit of a unit's history, and
-- how many workers and jobs there are.
use Rattle.std.specs.Prelude.{ℕ, ◌+◌, ◌==◌, nat_lt, nat_le, List, [], ◌∷◌, take, drop, Bool, ◌&&◌, ◌||◌, if◌then◌else◌, Result, Ok, Err}
use Rattle.std.specs.Str.{bytes_eq}
use Rattle.nvm_geometry.specs.Boundaries.{units_of}
use Rattle.nvm_geometry.specs.Faults.{most_blocks, most_units}
use Rattle.nvm_geometry.specs.Namespace.{Namespace, namespace_of}
use Rattle.nvm_audit.specs.declared.version.Version.{Version}
use Rattle.nvm_audit.specs.declared.version.Version.TheVariants.{One, Two}
use Rattle.nvm_audit.specs.Recordable.{most_workers, most_jobs}
use Rattle.nvm_file.specs.declared.frame.Frame.{Frame}
use Rattle.nvm_file.specs.declared.record_fault.RecordFault.{RecordFault}
use Rattle.nvm_file.specs.declared.record_fault.RecordFault.TheVariants as fault
use Rattle.nvm_file.specs.Fields.{◌>>=◌, number_at, number_in}

-- `NVR`, with which each record file begins
abbrev pub record_name : List ℕ
record_name = 78 ∷ 86 ∷ 82 ∷ []

-- the version that the byte behind the name says: the digit `1` or `2`
abbrev pub digit_at : List ℕ → Result (Version × List ℕ) RecordFault
digit_at [] = Err fault.Version
digit_at (digit ∷ rest) =
    if digit == 49 then Ok (One, rest) else
    if digit == 50 then Ok (Two, rest) else Err fault.Version

-- the file's name, and its version
unfoldable pub version_at : List ℕ → Result (Version × List ℕ) RecordFault
version_at bytes = if bytes_eq (take 3 bytes) record_name then digit_at (drop 3 bytes) else Err fault.BadName

-- without a boundary there is no offset; with one, the offset and both limits are at most the boundary's distance
abbrev pub keeps_boundary : Namespace → Bool
keeps_boundary ns =
    if ns.nabsn == 0 then ns.nabo == 0 else
    nat_le ns.nabo ns.nabsn && (nat_le ns.nawun ns.nabsn && nat_le ns.nacwu ns.nabsn)

-- these numbers are those of a geometry
abbrev pub is_geometry : Namespace → Bool
is_geometry ns =
    (nat_lt 0 ns.nsze && nat_le ns.nsze most_blocks)
    && ((ns.block_size == 512 || ns.block_size == 4096)
    && (keeps_boundary ns && nat_le (units_of ns) most_units))

-- the numbers of the namespace, which may be any
unfoldable pub numbers_at : ℕ → List ℕ → Result (Namespace × List ℕ) RecordFault
numbers_at total bytes = do
  nsze ← number_at total 8 bytes
  block_size ← number_at total 4 nsze.1
  nabsn ← number_at total 2 block_size.1
  nabo ← number_at total 2 nabsn.1
  nawun ← number_at total 2 nabo.1
  nacwu ← number_at total 2 nawun.1
  Ok (namespace_of nsze.0 block_size.0 nabsn.0 nabo.0 nawun.0 nacwu.0, nacwu.1)

-- The numbers of the namespace are judged once the last of them was read: the fault is that of the first, at offset 4.
unfoldable pub judged : Namespace → Result Namespace RecordFault
judged ns = if is_geometry ns then Ok ns else Err (fault.BadValue 4)

-- the limit less 1, in the first version
unfoldable pub limit_less_one_at : ℕ → List ℕ → Result (ℕ × List ℕ) RecordFault
limit_less_one_at total bytes = do
  n ← number_at total 2 bytes
  Ok (n.0 + 1, n.1)

-- a limit is at most so many entries
abbrev pub most_entries : ℕ
most_entries = 4194304

-- the limit, as the version keeps it
abbrev pub limit_at : Version → ℕ → List ℕ → Result (ℕ × List ℕ) RecordFault
limit_at One total bytes = limit_less_one_at total bytes
limit_at Two total bytes = number_in total 4 1 most_entries bytes

-- what the front of a file of `total` bytes says of all that follows
abbrev pub frame_with : ℕ → Version → Namespace → ℕ → ℕ → ℕ → Frame
frame_with total version ns limit workers jobs =
    record { total = total; version = version; geometry = ns; limit = limit; workers = workers; jobs = jobs }

-- all that stands before the jobs, of a file of `total` bytes
unfoldable pub head_at : ℕ → List ℕ → Result (Frame × List ℕ) RecordFault
head_at total bytes = do
  version ← version_at bytes
  numbers ← numbers_at total version.1
  namespace ← judged numbers.0
  limit ← limit_at version.0 total numbers.1
  workers ← number_in total 2 1 most_workers limit.1
  jobs ← number_in total 4 0 most_jobs workers.1
  Ok (frame_with total version.0 namespace limit.0 workers.0 jobs.0, jobs.1)
