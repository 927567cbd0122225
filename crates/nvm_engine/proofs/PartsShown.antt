-- What a done job shows: each recorded part is the part that was done.
use Rattle.std.proofs.Common.{◌≡◌, ℕ, List, [], ◌∷◌, map, Bool, true, false, Option, Some, None, refl, sym, ap, subst, ◌∙◌, inl, inr}
use Rattle.std.specs.List.{AllByRecursion, AllZip}
use Rattle.std.proofs.lemmas.Option.{none-some, same_Some}
use Rattle.nvm_record.specs.declared.status.Statuses.{Statuses}
use Rattle.nvm_record.specs.Lists.{IsAt}
use Rattle.nvm_record.specs.Step.{Operation}
use Rattle.nvm_geometry.specs.Namespace.{Namespace}
use Rattle.nvm_plan.specs.declared.job.Job.{Job}
use Rattle.nvm_plan.specs.declared.part.Part.{Part}
use Rattle.nvm_plan.specs.Checks.{refusal_of}
use Rattle.nvm_plan.specs.JobPart.{ready_operation}
use Rattle.nvm_plan.specs.Operation.{job_operation_of}
use Rattle.nvm_plan.specs.Outcome.{IsOutcome}
use Rattle.nvm_plan.specs.Reply.{Reply, IsReplyTo}
use Rattle.nvm_plan.specs.Shape.{HasOutcomeShape}
use Rattle.nvm_unit.specs.declared.views.PassView.{PassView}
use Rattle.nvm_space.specs.Trace.{PartDone, DoesParts, IsPartOfJob}
use Rattle.nvm_audit.specs.LawfulRecord.{HasItsShape}
use Rattle.nvm_audit.specs.RecordedJob.{RecordedJob}
use Rattle.nvm_audit.specs.RecordedPart.{recorded_part, parts_left, told_of_part}
use Rattle.nvm_engine.specs.DoneJobs.{HasDoneJob}
use Rattle.nvm_engine.specs.Inside.Shows.{Shows}
use Rattle.nvm_engine.proofs.DoneReads.{LiesInside, MeetsItsUnits, replies_to, part_is, data_is_cut}
use Rattle.nvm_engine.proofs.JobReplies.{LastTells, PairMeetsOne, IsRepliedTo, ready_is, replied_to}
use Rattle.nvm_engine.proofs.PassPlaces.{AreInTheirUnits}
use Rattle.nvm_engine.proofs.PassReads.{KeepSizes, ReadsAreWhole}
use Rattle.nvm_engine.proofs.ReadCut.{StandInLine, IsCutOf}

-- An outcome has the shape that a record shows.
abbrev pub HasShape : Type 0
HasShape =
    (ns : Namespace) (job : Job) (replies : List Reply) (told : Statuses) (read : Option (List ℕ)) → IsOutcome ns job replies told read
    → HasOutcomeShape ns job (map (λ reply. reply.part) replies) told read

-- Where data is recorded, the part read what is of its unit.
abbrev ReadsItsCut : Namespace → Operation → Option (List ℕ) → PartDone → Type 0
ReadsItsCut ns op read did = (bytes : List ℕ) → read ≡ Some bytes → IsCutOf ns op.first op.blocks bytes did.reply

none_read : (ns : Namespace) (op : Operation) (acts : List PartDone) → AllByRecursion (ReadsItsCut ns op None) acts
none_read ns op [] = tt
none_read ns op (did ∷ rest) = ((λ bytes e. absurd (none-some bytes e)), none_read ns op rest)

some_read : (ns : Namespace) (op : Operation) (all : List ℕ) (acts : List PartDone)
    → AllByRecursion (IsCutOf ns op.first op.blocks all) (replies_to acts)
    → AllByRecursion (ReadsItsCut ns op (Some all)) acts
some_read ns op all [] cut = tt
some_read ns op all (did ∷ rest) cut =
    let here : ReadsItsCut ns op (Some all) did =
    λ bytes e. subst (λ (xs : List ℕ). IsCutOf ns op.first op.blocks xs did.reply) (same_Some all bytes e) cut.0 in
    (here, some_read ns op all rest cut.1)

each_read : (ns : Namespace) (op : Operation) (read : Option (List ℕ)) (acts : List PartDone)
    → ((bytes : List ℕ) → read ≡ Some bytes → AllByRecursion (IsCutOf ns op.first op.blocks bytes) (replies_to acts))
    → AllByRecursion (ReadsItsCut ns op read) acts
each_read ns op None acts cut = none_read ns op acts
each_read ns op (Some bytes) acts cut = some_read ns op bytes acts (cut bytes refl)

-- the parts that are recorded of these
abbrev parts_of : List PartDone → List Part
parts_of acts = map (λ did. did.reply.part) acts

module _ (ns : Namespace) (jobs : List Job) (d : RecordedJob) (job : Job) (op : Operation) (its : IsAt jobs d.job job)
    (ready : ready_operation ns job ≡ Some op) (worker : ℕ) where
  shows : (is_last : Bool) (did : PartDone) → IsPartOfJob ns d.job job did → IsReplyTo op.deed did.reply
      → did.reply.statuses ≡ told_of_part is_last d.statuses → ReadsItsCut ns op d.payload did
      → Shows ns jobs (recorded_part worker d did.reply.part is_last) did
  shows is_last did of_job reply told read = record {
    job = job;
    its = its;
    whole = op;
    does = record { job = job; its = its; ready = ready };
    number = of_job.0;
    part = refl;
    in_unit = of_job.1;
    operation = part_is ns (ready_operation ns job) op did.operation did.reply.part.unit ready of_job.1;
    reply = reply;
    told = told;
    read = read;
  }

  all_shown : (acts : List PartDone) → AllByRecursion (IsPartOfJob ns d.job job) acts → AllByRecursion (IsReplyTo op.deed) (replies_to acts)
      → LastTells d.statuses (replies_to acts) → AllByRecursion (ReadsItsCut ns op d.payload) acts
      → AllZip (Shows ns jobs) (parts_left worker d (parts_of acts)) acts
  all_shown [] of_job replies told reads = tt
  all_shown (did ∷ []) of_job replies told reads = (shows true did of_job.0 replies.0 told reads.0, tt)
  all_shown (did ∷ next ∷ rest) of_job replies told reads =
      (shows false did of_job.0 replies.0 told.0 reads.0, all_shown (next ∷ rest) of_job.1 replies.1 told.1 reads.1)

none_shown : (ns : Namespace) (jobs : List Job) (d : RecordedJob) (worker : ℕ) (acts : List PartDone) → replies_to acts ≡ []
    → AllZip (Shows ns jobs) (parts_left worker d (parts_of acts)) acts
none_shown ns jobs d worker [] none = tt
none_shown ns jobs d worker (did ∷ rest) none = absurd (cc none)

module _ (in_line : StandInLine) (inside : LiesInside) (meets_units : MeetsItsUnits) (keep : KeepSizes)
    (whole : ReadsAreWhole) (one : PairMeetsOne) where
  pub done_is_shown : (ns : Namespace) (jobs : List Job) (d : RecordedJob) (old new : List PassView) (worker : ℕ) → HasDoneJob ns jobs d old new
      → AreInTheirUnits ns old
      → (acts : List PartDone) × DoesParts (λ unit. unit) acts old new × AllZip (Shows ns jobs) (parts_left worker d d.parts) acts
  done_is_shown ns jobs d old new worker done places =
      let all = by (replied_to one ns done.job (replies_to done.parts) d.statuses d.payload done.outcome) in
      (done.parts, done.does, subst (λ (parts : List Part). AllZip (Shows ns jobs) (parts_left worker d parts) done.parts) (sym done.listed) all)
    where
      by : IsRepliedTo ns (refusal_of ns done.job) (job_operation_of ns done.job) (replies_to done.parts) d.statuses d.payload
          → AllZip (Shows ns jobs) (parts_left worker d (parts_of done.parts)) done.parts
      by (inl none) = none_shown ns jobs d worker done.parts none.0
      by (inr served) =
          let op = served.0 in
          let free = served.1 in
          let stands = served.2 in
          let replies = served.3 in
          all_shown ns jobs d done.job op done.its (ready_is (refusal_of ns done.job) (job_operation_of ns done.job) op free stands) worker done.parts
          done.each replies.each replies.last
          (each_read ns op d.payload done.parts
          (λ bytes e.
          (data_is_cut in_line inside meets_units keep whole ns d.job done.job op done.parts old new d.statuses d.payload bytes free stands
          done.does places done.each replies e).0))

parts_of_replies : (acts : List PartDone) → map (λ reply. reply.part) (replies_to acts) ≡ parts_of acts
parts_of_replies [] = refl
parts_of_replies (did ∷ rest) = ap (λ (parts : List Part). did.reply.part ∷ parts) (parts_of_replies rest)

pub has_its_shape : HasShape → (ns : Namespace) (jobs : List Job) (d : RecordedJob) (old new : List PassView) → HasDoneJob ns jobs d old new
    → HasItsShape ns jobs d
has_its_shape shape ns jobs d old new done = record {
  job = done.job;
  its = done.its;
  shape =
      subst (λ (parts : List Part). HasOutcomeShape ns done.job parts d.statuses d.payload) (parts_of_replies done.parts ∙ sym done.listed)
      (shape ns done.job (replies_to done.parts) d.statuses d.payload done.outcome);
}
