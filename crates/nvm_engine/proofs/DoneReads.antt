-- The data that is recorded of a done Read: that of its parts, joined, and as long as its blocks.
use Rattle.std.proofs.Common.{◌≡◌, ℕ, ◌+◌, ◌*◌, ◌≤◌, if◌then◌else◌, List, [], ◌∷◌, length, map, Bool, true, false, IsTrue, Option, Some, None, IsSome, refl, sym, ap, subst, ◌∙◌, rules}
use Rattle.std.specs.List.{AllByRecursion}
use Rattle.std.proofs.lemmas.Option.{none-some, same_Some}
use Rattle.nvm_record.specs.declared.status.Statuses.{Statuses}
use Rattle.nvm_record.specs.Deeds.{is_read, IsOnRange}
use Rattle.nvm_record.specs.Step.{Deed, Operation}
use Rattle.nvm_geometry.specs.Namespace.{Namespace}
use Rattle.nvm_geometry.specs.Parts.{meets, units_met, units_of_range, part_in}
use Rattle.nvm_plan.specs.declared.job.Job.{Job}
use Rattle.nvm_plan.specs.Checks.{refusal_of}
use Rattle.nvm_plan.specs.JobPart.{part_of_ready, ready_operation}
use Rattle.nvm_plan.specs.Operation.{job_operation_of}
use Rattle.nvm_plan.specs.Reply.{Reply, IsSuccessfulReply}
use Rattle.nvm_unit.specs.declared.views.PassView.{PassView}
use Rattle.nvm_space.specs.Trace.{PartDone, DoesParts, IsPartOfJob}
use Rattle.nvm_engine.proofs.JobReplies.{AreReplies, ready_is}
use Rattle.nvm_engine.proofs.PassPlaces.{AreInTheirUnits}
use Rattle.nvm_engine.proofs.PassReads.{KeepSizes, ReadsAreWhole, HaveSize, ReadsItsBytes, parts_read}
use Rattle.nvm_engine.proofs.ReadCut.{StandInLine, ReadItsBlocks, IsCutOf, read_is_cut}

-- The operation of a job that isn't refused lies in the namespace.
abbrev pub LiesInside : Type 0
LiesInside =
    (ns : Namespace) (job : Job) (op : Operation) → refusal_of ns job ≡ None → job_operation_of ns job ≡ Some op
    → op.first + op.blocks ≤ ns.nsze

-- An operation on its whole range meets the units of the range.
abbrev pub MeetsItsUnits : Type 0
MeetsItsUnits = (ns : Namespace) (op : Operation) → IsOnRange op.deed → units_met ns op ≡ units_of_range ns op.first op.blocks

-- the replies to these parts
abbrev pub replies_to : List PartDone → List Reply
replies_to acts = map (λ did. did.reply) acts

met_part : (ns : Namespace) (op part : Operation) (unit : ℕ) (b : Bool) → (if b then Some (part_in ns op unit) else None) ≡ Some part
    → part ≡ part_in ns op unit
met_part ns op part unit true e = sym (same_Some _ _ e)
met_part ns op part unit false e = absurd (none-some part e)

-- the part of a job that has an operation is that operation's
pub part_is : (ns : Namespace) (ready : Option Operation) (op part : Operation) (unit : ℕ) → ready ≡ Some op
    → part_of_ready ns ready unit ≡ Some part → part ≡ part_in ns op unit
part_is ns None op part unit is e = absurd (none-some part e)
part_is ns (Some other) op part unit is e =
    met_part ns other part unit (meets ns other unit) e ∙ ap (λ (o : Operation). part_in ns o unit) (same_Some other op is)

some_bytes : (read : Option (List ℕ)) → IsSome read → (bytes : List ℕ) × (read ≡ Some bytes)
some_bytes None some = absurd (cc some)
some_bytes (Some bytes) some = (bytes, refl)

on_range : (deed : Deed) → IsTrue (is_read deed) → IsOnRange deed
on_range deed read = search rules

module _ (ns : Namespace) (number : ℕ) (job : Job) (op : Operation) (ready : ready_operation ns job ≡ Some op)
    (read : IsTrue (is_read op.deed)) where
  -- each part of a Read that succeeded read the bytes of its blocks
  read_blocks : (acts : List PartDone) → AllByRecursion (IsPartOfJob ns number job) acts
      → AllByRecursion (IsSuccessfulReply op.deed) (replies_to acts)
      → AllByRecursion (ReadsItsBytes ns.block_size) acts → AllByRecursion (ReadItsBlocks ns op.first op.blocks) (replies_to acts)
  read_blocks [] of_job success long = tt
  read_blocks (did ∷ rest) of_job success long =
      let found = some_bytes did.reply.payload (success.0.reply.payload.1 (read, success.0.success)) in
      let part : did.operation ≡ part_in ns op did.reply.part.unit =
      part_is ns (ready_operation ns job) op did.operation did.reply.part.unit ready of_job.0.1 in (
        record {
          bytes = found.0;
          read = found.1;
          long = long.0 found.0 found.1 ∙ ap (λ (o : Operation). o.blocks * ns.block_size) part;
        },
        read_blocks rest of_job.1 success.1 long.1,
      )

module _ (in_line : StandInLine) (inside : LiesInside) (meets_units : MeetsItsUnits) (keep : KeepSizes) (whole : ReadsAreWhole) where
  -- Where data is recorded of a job, each part read those of its bytes that are of its unit, and there are as many as its blocks have.
  pub data_is_cut : (ns : Namespace) (number : ℕ) (job : Job) (op : Operation) (acts : List PartDone) (old new : List PassView) (told : Statuses)
      (read : Option (List ℕ)) (bytes : List ℕ)
      → refusal_of ns job ≡ None → job_operation_of ns job ≡ Some op → DoesParts (λ unit. unit) acts old new → AreInTheirUnits ns old
      → AllByRecursion (IsPartOfJob ns number job) acts → AreReplies ns op (replies_to acts) told read → read ≡ Some bytes
      → AllByRecursion (IsCutOf ns op.first op.blocks bytes) (replies_to acts) × (length bytes ≡ op.blocks * ns.block_size)
  data_is_cut ns number job op acts old new told read bytes free stands does places of_job replies e =
      let joined = replies.data_is bytes e in
      let sizes : HaveSize ns.block_size old = λ k view at. (places k view at).size in
      let long = parts_read keep whole ns.block_size acts old new does sizes in
      let ready = ready_is (refusal_of ns job) (job_operation_of ns job) op free stands in
      let blocks = read_blocks ns number job op ready joined.0 acts of_job joined.1 long in
      let units = joined.2 ∙ meets_units ns op (on_range op.deed joined.0) in
      let cut = read_is_cut in_line ns op (replies_to acts) (inside ns job op free stands) units blocks in (
        subst (λ (all : List ℕ). AllByRecursion (IsCutOf ns op.first op.blocks all) (replies_to acts)) (sym joined.3) cut.0,
        ap (λ (all : List ℕ). length all) joined.3 ∙ cut.1,
      )
