-- What is found of a part on the blocks at its point, in the words of the lawful record.
use Rattle.std.proofs.Common.{◌≡◌, ◌⊎◌, ◌↔◌, ℕ, zero, suc, ◌+◌, ◌-◌, ◌*◌, ◌<◌, ◌≤◌, if◌then◌else◌, List, length, not, Bool, true, false, Option, Some, None, IsTrue, refl, sym, ap, subst, ◌∙◌, inl, inr, arith, length-take, length-drop}
use Rattle.std.specs.Str.{bytes_eq}
use mathlib.Core.Bool.{true≢false}
use Rattle.nvm_record.specs.declared.block.Block.{Block}
use Rattle.nvm_record.specs.declared.status.Status.{Status}
use Rattle.nvm_record.specs.declared.status.Statuses.{Statuses}
use Rattle.nvm_record.specs.declared.status.Statuses.TheVariants.{Two}
use Rattle.nvm_record.specs.Deeds.{is_look, is_read, FailsOn}
use Rattle.nvm_record.specs.Medium.{Medium, has_mark, joined}
use Rattle.nvm_record.specs.Status.{IsSuccess, successful_completion, unrecovered_read_error, compare_failure, aborted_due_to_failed_fused_command}
use Rattle.nvm_record.specs.Step.{Deed, Operation, writes, zeroes, uncorrectable, reads, compares, pairs, deallocates, HasData, range_of, statuses_on, statuses_of, data_of}
use Rattle.nvm_geometry.specs.Namespace.{Namespace}
use Rattle.nvm_geometry.specs.Parts.{blocks_below, blocks_in, data_part, part_in, meets}
use Rattle.nvm_plan.specs.declared.job.Job.{Job}
use Rattle.nvm_plan.specs.declared.part.Part.{Part}
use Rattle.nvm_plan.specs.declared.part.PartResult.{PartResult}
use Rattle.nvm_plan.specs.declared.part.PartResult.TheVariants.{Done, Failed, Looked, NoMemory, Full}
use Rattle.nvm_plan.specs.Checks.{refusal_of}
use Rattle.nvm_plan.specs.JobPart.{unless_refused, ready_operation, part_of_ready, job_part_in}
use Rattle.nvm_plan.specs.Operation.{job_operation_of, operation_of_body}
use Rattle.nvm_audit.specs.Inside.Judging.{MayEnd, EndsRight}
use Rattle.nvm_audit.specs.Recordable.{IsLongAsRead}
use Rattle.nvm_audit.specs.RecordedPart.{RecordedPart, told_of}
use Rattle.nvm_audit.specs.Resting.{data_in, HasRightData}

-- The operation of a job that isn't refused is its commands'.
pub operation_from : (refusal : Option Statuses) (operation : Option Operation) (op : Operation)
    → unless_refused refusal operation ≡ Some op → operation ≡ Some op
operation_from None operation op e = e
operation_from (Some s) operation op e = cc

chosen : (b : Bool) (x y : Operation) → (if b then Some x else None) ≡ Some y → y ≡ x
chosen true x y e = cc
chosen false x y e = cc

-- The part of a job whose operation is known is that operation's part.
pub part_of_whole : (ns : Namespace) (o : Option Operation) (unit : ℕ) (part op : Operation) → part_of_ready ns o unit ≡ Some part
    → o ≡ Some op → part ≡ part_in ns op unit
part_of_whole ns None unit part op e is = cc
part_of_whole ns (Some whole) unit part op e is =
    let same : whole ≡ op = cc in
    chosen (meets ns whole unit) (part_in ns whole unit) part e ∙ ap (λ (w : Operation). part_in ns w unit) same

-- A pair succeeds where its comparison holds, and not where it doesn't.
pair_ends : (mark same : Bool)
    → IsSuccess (Two (if mark then unrecovered_read_error else if (if mark then false else same) then successful_completion else compare_failure)
    (if (if mark then false else same) then successful_completion else aborted_due_to_failed_fused_command))
    ⊎ ((if mark then false else same) ≡ false)
pair_ends true same = inr refl
pair_ends false true = inl (refl, refl)
pair_ends false false = inr refl

pair_fails : (mark same : Bool) → (if mark then false else same) ≡ false
    → ¬ (IsSuccess (Two (if mark then unrecovered_read_error else if (if mark then false else same) then successful_completion else compare_failure)
    (if (if mark then false else same) then successful_completion else aborted_due_to_failed_fused_command)))
pair_fails true same e h = let n : ◌≡◌ {A = ℕ} 9 0 = ap (λ (s : Status). s.sc) h.1 in absurd (omega arith)
pair_fails false true e h = absurd (true≢false e)
pair_fails false false e h = let n : ◌≡◌ {A = ℕ} 9 0 = ap (λ (s : Status). s.sc) h.1 in absurd (omega arith)

fails : (blocks : List Block) (deed : Deed) → IsTrue (not (is_look deed)) → ¬ (IsSuccess (statuses_on blocks deed)) → FailsOn blocks deed
fails blocks (writes payload) act none = absurd (none refl)
fails blocks zeroes act none = absurd (none refl)
fails blocks uncorrectable act none = absurd (none refl)
fails blocks reads act none = absurd (true≢false (sym act))
fails blocks (compares payload) act none = absurd (true≢false (sym act))
fails blocks (pairs payload new) act none =
    elim (pair_ends (has_mark blocks) (bytes_eq (joined blocks) payload)) [ inl h ↦ absurd (none h) | inr h ↦ h ]
fails blocks (deallocates ranges) act none = absurd (none refl)

failed : (blocks : List Block) (deed : Deed) → FailsOn blocks deed → IsTrue (not (is_look deed)) × (¬ (IsSuccess (statuses_on blocks deed)))
failed blocks (writes payload) h = absurd h
failed blocks zeroes h = absurd h
failed blocks uncorrectable h = absurd h
failed blocks reads h = absurd h
failed blocks (compares payload) h = absurd h
failed blocks (pairs payload new) h = (refl, pair_fails (has_mark blocks) (bytes_eq (joined blocks) payload) h)
failed blocks (deallocates ranges) h = absurd h

-- What the code asks of a part is what the lawful record asks.
ends : (limit : ℕ) (op : Operation) (m : Medium) (p : RecordedPart) (result : PartResult)
    → MayEnd (not (is_look op.deed)) limit p.part.point (told_of p) (statuses_of op m) result ↔ EndsRight limit op m p result
ends limit op m p Done = (λ h. h, λ h. h)
ends limit op m p Failed = (
  λ h. (fails (range_of op m) op.deed h.0 h.1, h.2),
  λ h. let f = failed (range_of op m) op.deed h.0 in (f.0, f.1, h.1),
)
ends limit op m p Looked = (λ h. h, λ h. h)
ends limit op m p NoMemory = (λ h. h, λ h. h)
ends limit op m p Full = (λ h. h, λ h. h)

pub ends_by : (limit most : ℕ) (lent op : Operation) (m : Medium) (p : RecordedPart) (part : Part) (act : Bool) (told given : Statuses)
    → most ≡ limit → part ≡ p.part → act ≡ not (is_look lent.deed) → told ≡ told_of p → given ≡ statuses_of lent m → lent ≡ op
    → MayEnd act most part.point told given part.result ↔ EndsRight limit op m p p.part.result
ends_by limit most lent op m p part act told given limit_is part_is act_is told_is given_is lent_is =
    rw (limit_is, part_is, act_is, told_is, given_is, lent_is) (ends limit op m p p.part.result)

-- The bytes of a Read have those of its part in the unit.
pub record HasPartsBytes (size : ℕ) (part : Operation) (start : ℕ) (bytes : List ℕ) : Type 0 where
  pub read : IsTrue (is_read part.deed)
  pub low : start ≤ part.first
  pub high : (part.first - start + part.blocks) * size ≤ length bytes

abbrev pub KeepsReads : Type 0
KeepsReads = (ns : Namespace) (op : Operation) (unit : ℕ) → is_read (part_in ns op unit).deed ≡ is_read op.deed

abbrev pub KeepsData : Type 0
KeepsData =
    (ns : Namespace) (op : Operation) (unit : ℕ) → HasData (op.blocks * ns.block_size) op.deed
    → HasData ((part_in ns op unit).blocks * ns.block_size) (part_in ns op unit).deed

abbrev pub StartsAt : Job → ℕ → Type 0
StartsAt job start =
    (ns : Namespace) (op : Operation) → operation_of_body ns job.body ≡ Some op → IsTrue (is_read op.deed) → start ≡ op.first

reaches_in : (size skipped blocks : ℕ) (bytes : List ℕ) → length (data_part size skipped blocks bytes) ≡ blocks * size → 0 < blocks
    → (skipped + blocks) * size ≤ length bytes
reaches_in zero skipped blocks bytes e some = omega arith
reaches_in (suc size) skipped blocks bytes e some =
    let cut = simp (length-take, length-drop) at e in
    let room : 0 < blocks * suc size = grind arith in
    omega (arith, cut)

pub has_parts_bytes : KeepsReads → KeepsData → (ns : Namespace) (job : Job) (unit : ℕ) (part : Operation) (start : ℕ) (bytes : List ℕ)
    → StartsAt job start → IsLongAsRead ns job bytes → job_part_in ns job unit ≡ Some part → 0 < part.blocks
    → HasPartsBytes ns.block_size part start bytes
has_parts_bytes keeps keeps_data ns job unit part start bytes starts long is some =
    let op = long.op in
    let same = part_of_whole ns (ready_operation ns job) unit part op is long.ready in
    let begin = starts ns op (operation_from (refusal_of ns job) (job_operation_of ns job) op long.ready) long.read in
    let written : Operation = record { first = op.first; blocks = op.blocks; deed = writes bytes } in
    let whole = keeps_data ns written unit long.whole in
    let first : part.first ≡ op.first + blocks_below ns op.first op.blocks unit = ap (λ (x : Operation). x.first) same in
    let blocks : part.blocks ≡ blocks_in ns op.first op.blocks unit = ap (λ (x : Operation). x.blocks) same in
    let reach = reaches_in ns.block_size (blocks_below ns op.first op.blocks unit) (blocks_in ns op.first op.blocks unit) bytes whole
    (subst (λ (n : ℕ). 0 < n) blocks some) in
    let skipped : part.first - start ≡ blocks_below ns op.first op.blocks unit = omega (arith, first, begin) in
    record {
      read = ap (λ (x : Operation). is_read x.deed) same ∙ keeps ns op unit ∙ long.read;
      low = omega (arith, first, begin);
      high = rw (skipped, blocks) reach;
    }

-- What was answered for the part's bytes is answered for the job's data.
pub data_told : (ns : Namespace) (job : Job) (op part : Operation) (m : Medium) (p : RecordedPart) (size start : ℕ) (bytes : List ℕ) (same : Bool)
    → ready_operation ns job ≡ Some op → job_part_in ns job p.part.unit ≡ Some part → StartsAt job start → IsLongAsRead ns job bytes
    → size ≡ ns.block_size → p.done.payload ≡ Some bytes
    → IsTrue same ↔ (data_of part m ≡ Some (data_part size (part.first - start) part.blocks bytes))
    → IsTrue same ↔ HasRightData ns op m p
data_told ns job op part m p size start bytes same ready is starts long size_is payload tells =
    let one : long.op ≡ op = let e = long.ready in cc in
    let part_is = part_of_whole ns (ready_operation ns job) p.part.unit part op is ready in
    let read : IsTrue (is_read op.deed) = subst (λ (x : Operation). IsTrue (is_read x.deed)) one long.read in
    let begin = starts ns op (operation_from (refusal_of ns job) (job_operation_of ns job) op ready) read in
    let first : part.first ≡ op.first + blocks_below ns op.first op.blocks p.part.unit = ap (λ (x : Operation). x.first) part_is in
    let blocks : part.blocks ≡ blocks_in ns op.first op.blocks p.part.unit = ap (λ (x : Operation). x.blocks) part_is in
    let skipped : part.first - start ≡ blocks_below ns op.first op.blocks p.part.unit = omega (arith, first, begin) in
    let cut : data_part size (part.first - start) part.blocks bytes ≡ data_in ns op p.part.unit bytes = rw (size_is, skipped, blocks) refl in
    let data_is : data_of part m ≡ data_of (part_in ns op p.part.unit) m = ap (λ (x : Operation). data_of x m) part_is in (
      λ t others e.
          let which : others ≡ bytes = cc in
          sym data_is ∙ tells.0 t ∙ ap (λ (xs : List ℕ). Some xs) cut ∙ ap (λ (xs : List ℕ). Some (data_in ns op p.part.unit xs)) (sym which),
      λ h. tells.1 (data_is ∙ h bytes payload ∙ ap (λ (xs : List ℕ). Some xs) (sym cut)),
    )

pub some_is : {x y : Operation} → ◌≡◌ {A = Option Operation} (Some x) (Some y) → x ≡ y
some_is e = cc
