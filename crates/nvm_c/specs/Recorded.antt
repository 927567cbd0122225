-- What C is told of the record of what all ports of a namespace did.
use Rattle.std.specs.Prelude.{◌≡◌, ℕ, ◌<◌, ◌≤◌, true, false, List, drop, length, Option, Some, None}
use Rattle.nvm_record.specs.Lists.{IsAt}
use Rattle.nvm_geometry.specs.Namespace.{Namespace}
use Rattle.nvm_plan.specs.declared.job.Job.{Job}
use Rattle.nvm_audit.specs.LawfulRecord.{IsLawfulRecord}
use Rattle.nvm_audit.specs.RecordedJob.{RecordedJob}
use Rattle.nvm_audit.specs.RecordView.{RecordView}
use Rattle.nvm_audit.specs.declared.version.Version.TheVariants as version
use Rattle.nvm_file.specs.RecordFile.{IsRecordFile}
use Rattle.nvm_file.specs.Spelling.{record_bytes}
use Rattle.nvm_c.specs.Engines.{namespace_of, space_of}
use Rattle.nvm_c.specs.Logs.{LogState, kept_by}
use Rattle.nvm_c.specs.Told.{overwritten}
use Rattle.nvm_c.specs.declared.engine.Engine.{Engine}
use Rattle.nvm_c.specs.declared.engine.Pending.{Pending}
use Rattle.nvm_c.specs.declared.record_code.RecordCode.{RecordCode}
use Rattle.nvm_c.specs.declared.record_code.RecordCode.TheVariants.{Done, NotOpen, NoMemory, Busy, Unlawful, ShortRoom, OtherPorts, NoRecord, RecordFull}

-- The engine is that of the port of this number of such a namespace, has no job pending, and did these jobs so, all of which it kept.
pub record HasWorked (ns : Namespace) (most number : ℕ) (e : Engine) (jobs : List Job) (done : List RecordedJob) : Type 0 where
  pub namespace : namespace_of e ≡ ns
  pub limit : (space_of e).limit ≡ most
  pub port : e.port.number ≡ number
  pub idle : e.pending ≡ None
  pub kept : kept_by e.log ≡ Some (record { jobs = jobs; done = done; full = false })

-- What is held is an engine that has worked so.
abbrev pub WorkedAt : Namespace → ℕ → ℕ → Option Engine → List Job → List RecordedJob → Type 0
WorkedAt ns most number held jobs done = (e : Engine) × (held ≡ Some e) × HasWorked ns most number e jobs done

-- These jobs were done so by what is held, each at the place of its number.
pub record AllHaveWorked (ns : Namespace) (most : ℕ) (held : List (Option Engine)) (jobs : List (List Job)) (done : List (List RecordedJob)) : Type 0 where
  pub jobs_count : length jobs ≡ length held
  pub done_count : length done ≡ length held
  pub each : (number : ℕ) (one : Option Engine) (own : List Job) (did : List RecordedJob) → IsAt held number one
      → IsAt jobs number own → IsAt done number did → WorkedAt ns most number one own did

-- Some port did the job, under this number.
pub record IsSomebodys (jobs : List (List Job)) (done : List (List RecordedJob)) (number : ℕ) (job : Job) : Type 0 where
  pub port : ℕ
  pub place : ℕ
  pub own : List Job
  pub did : List RecordedJob
  pub one : RecordedJob
  pub jobs_at : IsAt jobs port own
  pub done_at : IsAt done port did
  pub job_at : IsAt own place job
  pub one_at : IsAt did place one
  pub is_number : one.job ≡ number

-- The record is lawful. It has what each port did, in the port's order, at the place of the port, and just these jobs: the job of each
-- number is one that a port did under that number. Since it is lawful each was done once.
pub record IsRecordOf (held : List (Option Engine)) (r : RecordView) : Type 0 where
  pub lawful : IsLawfulRecord r
  pub version : r.version ≡ version.Two
  pub workers : r.workers ≡ length held
  pub jobs : List (List Job)
  pub worked : AllHaveWorked r.namespace r.limit held jobs r.done
  pub each : (number : ℕ) (job : Job) → IsAt r.jobs number job → IsSomebodys jobs r.done number job

-- what may be written: room for the file, and how long the file is
pub record Room : Type 0 where
  pub bytes : List ℕ
  pub size : ℕ

-- The file of the record stands in the room.
pub record IsWritten (held : List (Option Engine)) (old new : Room) : Type 0 where
  pub run : RecordView
  pub of : IsRecordOf held run
  pub file : IsRecordFile (record_bytes run) run
  pub fits : length (record_bytes run) ≤ length old.bytes
  pub written : new.bytes ≡ overwritten (record_bytes run) old.bytes
  pub size : new.size ≡ length (record_bytes run)

-- The file of the record is longer than the room: it is told how long, and not written.
pub record IsTooLong (held : List (Option Engine)) (old new : Room) : Type 0 where
  pub run : RecordView
  pub of : IsRecordOf held run
  pub file : IsRecordFile (record_bytes run) run
  pub long : length old.bytes < length (record_bytes run)
  pub kept : new.bytes ≡ old.bytes
  pub size : new.size ≡ length (record_bytes run)

-- The file of the record from a place on stands in the room, as far as either reaches.
pub record IsPartWritten (held : List (Option Engine)) (from : ℕ) (old new : Room) : Type 0 where
  pub run : RecordView
  pub of : IsRecordOf held run
  pub file : IsRecordFile (record_bytes run) run
  pub written : new.bytes ≡ overwritten (drop from (record_bytes run)) old.bytes
  pub size : new.size ≡ length (record_bytes run)

-- what the code says of one port
abbrev pub Refuses : RecordCode → Option Engine → Type 0
Refuses Done one = ⊥
Refuses ShortRoom one = ⊥
Refuses NotOpen one = one ≡ None
Refuses Busy one = (e : Engine) × (one ≡ Some e) × (p : Pending) × (e.pending ≡ Some p)
Refuses NoRecord one = (e : Engine) × (one ≡ Some e) × (kept_by e.log ≡ None)
Refuses RecordFull one = (e : Engine) × (one ≡ Some e) × (l : LogState) × (kept_by e.log ≡ Some l) × (l.full ≡ true)
Refuses OtherPorts one = Unit {0}
Refuses Unlawful one = Unit {0}
Refuses NoMemory one = Unit {0}

-- The code says it of some port.
abbrev pub RefusesSome : RecordCode → List (Option Engine) → Type 0
RefusesSome code held = (number : ℕ) × (one : Option Engine) × IsAt held number one × Refuses code one

-- what the code says of the ports, where nothing was written
abbrev pub IsReason : RecordCode → List (Option Engine) → Type 0
IsReason Done held = ⊥
IsReason ShortRoom held = ⊥
IsReason NotOpen held = RefusesSome NotOpen held
IsReason Busy held = RefusesSome Busy held
IsReason NoRecord held = RefusesSome NoRecord held
IsReason RecordFull held = RefusesSome RecordFull held
IsReason OtherPorts held = Unit {0}
IsReason Unlawful held = Unit {0}
IsReason NoMemory held = Unit {0}

-- what is told, by the code
abbrev pub IsRecorded : RecordCode → List (Option Engine) → Room → Room → Type 0
IsRecorded Done held old new = IsWritten held old new
IsRecorded ShortRoom held old new = IsTooLong held old new
IsRecorded NotOpen held old new = (new ≡ old) × IsReason NotOpen held
IsRecorded Busy held old new = (new ≡ old) × IsReason Busy held
IsRecorded NoRecord held old new = (new ≡ old) × IsReason NoRecord held
IsRecorded RecordFull held old new = (new ≡ old) × IsReason RecordFull held
IsRecorded OtherPorts held old new = new ≡ old
IsRecorded Unlawful held old new = new ≡ old
IsRecorded NoMemory held old new = new ≡ old

-- what is told where the file from a place on is asked for: a room is never too short
abbrev pub IsRecordedPart : RecordCode → List (Option Engine) → ℕ → Room → Room → Type 0
IsRecordedPart Done held from old new = IsPartWritten held from old new
IsRecordedPart ShortRoom held from old new = ⊥
IsRecordedPart NotOpen held from old new = IsRecorded NotOpen held old new
IsRecordedPart Busy held from old new = IsRecorded Busy held old new
IsRecordedPart NoRecord held from old new = IsRecorded NoRecord held old new
IsRecordedPart RecordFull held from old new = IsRecorded RecordFull held old new
IsRecordedPart OtherPorts held from old new = IsRecorded OtherPorts held old new
IsRecordedPart Unlawful held from old new = IsRecorded Unlawful held old new
IsRecordedPart NoMemory held from old new = IsRecorded NoMemory held old new
