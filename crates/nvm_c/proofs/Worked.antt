-- What the ports did, copied port by port.
use Rattle.std.proofs.Common.{◌≡◌, ◌∙◌, ℕ, ◌+◌, ◌<◌, List, [], ◌∷◌, ◌++◌, length, get_or, Option, inl, inr, refl, sym, ap, subst, arith, IfErr, IfOk, OnOk, Ok, Err, Result}
use Rattle.std.specs.Prelude.{slice_set}
use Rattle.std.proofs.lemmas.List.{length_push}
use mathlib.Core.Option.{some-injective, some-ne-none}
use Rattle.nvm_record.specs.Lists.{IsAt}
use Rattle.nvm_geometry.specs.Namespace.{Namespace}
use Rattle.nvm_plan.specs.declared.job.Job.{Job}
use Rattle.nvm_audit.specs.RecordedJob.{RecordedJob}
use Rattle.nvm_audit.specs.LawfulRecord.{IsLawfulRecord}
use Rattle.nvm_audit.specs.RecordView.{RecordView}
use Rattle.nvm_file.specs.RecordFile.{IsRecordFile}
use Rattle.nvm_file.specs.Spelling.{record_bytes}
use Rattle.nvm_c.specs.Recorded.{AllHaveWorked, IsReason, IsRecorded, IsRecordedPart, IsRecordOf, IsSomebodys, Refuses, Room, WorkedAt}
use Rattle.nvm_c.specs.Inside.Gathering.{IsGathered, IsLate}
use Rattle.nvm_c.specs.Inside.Window.{IsHanded, IsHandedFile}
use Rattle.nvm_c.specs.declared.engine.Engine.{Engine}
use Rattle.nvm_c.specs.declared.record_code.RecordCode.{RecordCode}
use Rattle.nvm_c.specs.declared.record_code.RecordCode.TheVariants.{Done, NotOpen, NoMemory, Busy, Unlawful, ShortRoom, OtherPorts, NoRecord, RecordFull}
use Rattle.nvm_c.specs.declared.handle.Handle.{Handle}
use Rattle.nvm_c.specs.declared.window.Window.{Window}
use Rattle.nvm_c.specs.Opening.{engines_of}
use Rattle.nvm_c.proofs.Places.{at_below, at_index, at_map, at_push, map_set}

module _ (ns : Namespace) (most : ℕ) (held : List (Option Engine)) where
  -- The first so many ports did these jobs so.
  pub record SoFar (jobs : List (List Job)) (done : List (List RecordedJob)) (count : ℕ) : Type 0 where
    pub jobs_count : length jobs ≡ count
    pub done_count : length done ≡ count
    pub each : (number : ℕ) (one : Option Engine) (own : List Job) (did : List RecordedJob) → IsAt held number one
        → IsAt jobs number own → IsAt done number did → WorkedAt ns most number one own did

  pub nobody : SoFar [] [] 0
  nobody = record { jobs_count = refl; done_count = refl; each = λ number one own did at own_at did_at. absurd (some-ne-none own (sym own_at)) }

  pub one_more : (jobs : List (List Job)) (done : List (List RecordedJob)) (count : ℕ) (own : List Job) (did : List RecordedJob)
      → SoFar jobs done count → ((one : Option Engine) → IsAt held count one → WorkedAt ns most count one own did)
      → SoFar (jobs ++ own ∷ []) (done ++ did ∷ []) (count + 1)
  one_more jobs done count own did far new = record {
    jobs_count = length_push jobs own ∙ ap (λ (n : ℕ). n + 1) far.jobs_count;
    done_count = length_push done did ∙ ap (λ (n : ℕ). n + 1) far.done_count;
    each = λ number one theirs did' at own_at did_at. elim (at_push jobs own number theirs own_at) [
      | inl before ↦ elim (at_push done did number did' did_at) [
        | inl there ↦ far.each number one theirs did' at before there
        | inr last ↦ absurd (let lt = at_below jobs number theirs before in let long = far.jobs_count in let also = far.done_count in let here = last.0 in omega (arith, lt, long, also, here))
      ]
      | inr last ↦ elim (at_push done did number did' did_at) [
        | inl there ↦ absurd (let lt = at_below done number did' there in let long = far.jobs_count in let also = far.done_count in let here = last.0 in omega (arith, lt, long, also, here))
        | inr also ↦
            let here : number ≡ count = last.0 ∙ far.jobs_count in
            subst (λ (n : ℕ). WorkedAt ns most n one theirs did') (sym here)
            (subst (λ (js : List Job). WorkedAt ns most count one js did') last.1
            (subst (λ (ds : List RecordedJob). WorkedAt ns most count one own ds) also.1
            (new one (subst (λ (n : ℕ). IsAt held n one) here at))))
      ]
    ];
  }

  pub all_worked : (jobs : List (List Job)) (done : List (List RecordedJob)) (count : ℕ) → SoFar jobs done count → count ≡ length held
      → AllHaveWorked ns most held jobs done
  all_worked jobs done count far whole = record { jobs_count = far.jobs_count ∙ whole; done_count = far.done_count ∙ whole; each = far.each }

-- What is said of one port is a reason.
pub reason_of : (code : RecordCode) (held : List (Option Engine)) (number : ℕ) (one : Option Engine) → IsAt held number one → Refuses code one
    → IsReason code held
reason_of Done held number one at refuses = absurd refuses
reason_of ShortRoom held number one at refuses = absurd refuses
reason_of NotOpen held number one at refuses = (number, one, at, refuses)
reason_of Busy held number one at refuses = (number, one, at, refuses)
reason_of NoRecord held number one at refuses = (number, one, at, refuses)
reason_of RecordFull held number one at refuses = (number, one, at, refuses)
reason_of OtherPorts held number one at refuses = tt
reason_of Unlawful held number one at refuses = tt
reason_of NoMemory held number one at refuses = tt

-- What goes wrong late is a reason, whatever the ports are.
pub late_reason : (code : RecordCode) (held : List (Option Engine)) → IsLate code → IsReason code held
late_reason Done held late = absurd late
late_reason ShortRoom held late = absurd late
late_reason NotOpen held late = absurd late
late_reason Busy held late = absurd late
late_reason NoRecord held late = absurd late
late_reason RecordFull held late = absurd late
late_reason OtherPorts held late = absurd late
late_reason Unlawful held late = tt
late_reason NoMemory held late = tt

-- Where there is a reason, nothing was written.
pub not_written : (code : RecordCode) (held : List (Option Engine)) (room : Room) → IsReason code held → IsRecorded code held room room
not_written Done held room reason = absurd reason
not_written ShortRoom held room reason = absurd reason
not_written NotOpen held room reason = (refl, reason)
not_written Busy held room reason = (refl, reason)
not_written NoRecord held room reason = (refl, reason)
not_written RecordFull held room reason = (refl, reason)
not_written OtherPorts held room reason = refl
not_written Unlawful held room reason = refl
not_written NoMemory held room reason = refl

-- Nor was a part.
pub part_not_written : (code : RecordCode) (held : List (Option Engine)) (from : ℕ) (room : Room) → IsReason code held
    → IsRecordedPart code held from room room
part_not_written Done held from room reason = absurd reason
part_not_written ShortRoom held from room reason = absurd reason
part_not_written NotOpen held from room reason = (refl, reason)
part_not_written Busy held from room reason = (refl, reason)
part_not_written NoRecord held from room reason = (refl, reason)
part_not_written RecordFull held from room reason = (refl, reason)
part_not_written OtherPorts held from room reason = refl
part_not_written Unlawful held from room reason = refl
part_not_written NoMemory held from room reason = refl

-- What was gathered of all ports, and is lawful, is a record of theirs.
pub record_of_ports : (ns : Namespace) (most : ℕ) (held : List (Option Engine)) (jobs : List (List Job)) (done : List (List RecordedJob)) (r : RecordView)
    → AllHaveWorked ns most held jobs done → IsGathered ns most jobs done r → IsLawfulRecord r → IsRecordOf held r
record_of_ports ns most held jobs done r worked gathered lawful = record {
  lawful = lawful;
  version = gathered.version;
  workers = gathered.workers ∙ worked.done_count;
  jobs = jobs;
  worked = subst (λ (n : Namespace). AllHaveWorked n r.limit held jobs r.done) (sym gathered.namespace)
      (subst (λ (m : ℕ). AllHaveWorked ns m held jobs r.done) (sym gathered.limit)
      (subst (λ (ds : List (List RecordedJob)). AllHaveWorked ns most held jobs ds) (sym gathered.done) worked));
  each = λ number job at. subst (λ (ds : List (List RecordedJob)). IsSomebodys jobs ds number job) (sym gathered.done) (gathered.each number job at);
}

-- What went wrong late is a reason, where a window was asked for.
pub late_refused : (result : Result Window RecordCode) (held : List (Option Engine)) → IfErr result IsLate → IfErr result (λ code. IsReason code held)
late_refused (Ok window) held late = tt
late_refused (Err code) held late = late_reason code held late

-- The window was handed the file of a record that is lawful.
pub handed_file : (result : Result Window RecordCode) (held : List (Option Engine)) (from most : ℕ) (run : RecordView)
    → (IsLawfulRecord run → IsRecordOf held run) → OnOk result (IsLawfulRecord run) → OnOk result (IsRecordFile (record_bytes run) run)
    → IfOk result (λ window. IsHanded window from most (record_bytes run)) → IfOk result (λ window. IsHandedFile held window from most)
handed_file (Ok window) held from most run of lawful file handed = record { run = run; of = of lawful; file = file; handed = handed }
handed_file (Err code) held from most run of lawful file handed = tt

-- A port at its place, of ports that hold what these held at the entry.
module _ (ports entry : List Handle) (place : ℕ) (x : Handle) (read : x ≡ get_or ports place x) (lt : place < length ports)
    (same : engines_of ports ≡ engines_of entry) where
  held_there : IsAt (engines_of entry) place x.held.engine
  held_there =
      subst (λ (held : List (Option Engine)). IsAt held place x.held.engine) same (at_map (λ h. h.held.engine) ports place x (at_index ports place x lt read))

  -- It was called, and holds what it held.
  pub same_after : (y : Handle) → y.held.engine ≡ (get_or ports place x).held.engine → engines_of (slice_set ports place y) ≡ engines_of entry
  same_after y kept = map_set (λ h. h.held.engine) ports place x y lt read (kept ∙ ap (λ (h : Handle). h.held.engine) (sym read)) ∙ same

  pub refused_there : (code : RecordCode) → Refuses code (get_or ports place x).held.engine → IsReason code (engines_of entry)
  refused_there code refuses =
      reason_of code (engines_of entry) place x.held.engine held_there (subst (λ (h : Handle). Refuses code h.held.engine) (sym read) refuses)

  pub worked_there : (ns : Namespace) (most : ℕ) (own : List Job) (did : List RecordedJob) → WorkedAt ns most place (get_or ports place x).held.engine own did
      → (one : Option Engine) → IsAt (engines_of entry) place one → WorkedAt ns most place one own did
  worked_there ns most own did worked one at =
      subst (λ (o : Option Engine). WorkedAt ns most place o own did) (some-injective x.held.engine one (sym held_there ∙ at))
      (subst (λ (h : Handle). WorkedAt ns most place h.held.engine own did) (sym read) worked)
