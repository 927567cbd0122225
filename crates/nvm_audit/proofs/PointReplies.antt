-- What a unit answered for a part at its point: it is a reply to the part, with the statuses and the data that are recorded.
use Rattle.std.proofs.Common.{◌≡◌, ℕ, List, Bool, true, false, Some, IsTrue, cond, refl, sym, ap, subst, ◌∙◌}
use native.Mathlib.Nat.{suc-ne-zero}
use Rattle.nvm_record.specs.declared.status.Status.{Status}
use Rattle.nvm_record.specs.declared.status.Statuses.TheVariants.{One, Two}
use Rattle.nvm_record.specs.Deeds.{is_pair, IsAct, IsLook, IsFailedPair, success_of}
use Rattle.nvm_record.specs.Lists.{IsAt}
use Rattle.nvm_record.specs.Medium.{Medium}
use Rattle.nvm_record.specs.Status.{IsSuccess, successful_completion, internal_error, aborted_due_to_failed_fused_command}
use Rattle.nvm_record.specs.Step.{Deed, Operation, statuses_of}
use Rattle.nvm_geometry.specs.Namespace.{Namespace}
use Rattle.nvm_geometry.specs.Parts.{part_in}
use Rattle.nvm_plan.specs.declared.job.Job.{Job}
use Rattle.nvm_plan.specs.declared.part.Part.{Part}
use Rattle.nvm_plan.specs.declared.part.PartResult.{PartResult}
use Rattle.nvm_plan.specs.declared.part.PartResult.TheVariants.{Done, Failed, Looked, NoMemory, Full}
use Rattle.nvm_plan.specs.JobPart.{ready_operation}
use Rattle.nvm_plan.specs.Outcome.{unstarted_of}
use Rattle.nvm_plan.specs.Reply.{Reply, can_have, stop_of, reply_on, reply_of_stop, IsReplyTo}
use Rattle.nvm_plan.specs.Shape.{goes_on, MayShow}
use Rattle.nvm_store.specs.HistoryEntry.{HistoryEntry}
use Rattle.nvm_store.specs.Point.{point}
use Rattle.nvm_audit.specs.RecordedPart.{RecordedPart, told_of}
use Rattle.nvm_audit.specs.RecordView.{RecordView}
use Rattle.nvm_audit.specs.ReplyAtPoint.{reply_at, IsReplyAtPoint}
use Rattle.nvm_audit.specs.Resting.{HasRightStatus, data_in, HasRightData}
use Rattle.nvm_audit.proofs.OneActs.{KeepsPairs}

-- What the laws below say that are used here.
pub record StepsAreReplies : Type 0 where
  pub looked : (ns : Namespace) (op : Operation) (m : Medium) (part : Part) → IsLook op.deed → part.result ≡ Looked
      → IsReplyTo op.deed (reply_on ns op m part)
  pub done : (ns : Namespace) (op : Operation) (m : Medium) (part : Part) → IsAct op.deed → part.result ≡ Done
      → IsSuccess (statuses_of (part_in ns op part.unit) m) → IsReplyTo op.deed (reply_on ns op m part)
  pub failed : (ns : Namespace) (op : Operation) (m : Medium) (part : Part) → part.result ≡ Failed
      → IsFailedPair (part_in ns op part.unit) m → IsReplyTo op.deed (reply_on ns op m part)
  pub no_memory : (deed : Deed) (part : Part) → part.result ≡ NoMemory → IsReplyTo deed (reply_of_stop deed part)
  pub full : (deed : Deed) (part : Part) → IsAct deed → part.result ≡ Full → IsReplyTo deed (reply_of_stop deed part)

by_pair : (b : Bool) → IsSuccess (cond b (Two successful_completion successful_completion) (One successful_completion))
by_pair true = (refl, refl)
by_pair false = refl

pub success_succeeds : (deed : Deed) → IsSuccess (success_of deed)
success_succeeds deed = by_pair (is_pair deed)

an_error : (s : Status) → s.sc ≡ 6 → s ≡ successful_completion → ⊥
an_error s e is = suc-ne-zero 5 (sym e ∙ ap (λ (t : Status). t.sc) is)

by_kind : (b : Bool) → IsSuccess (cond b (Two successful_completion internal_error) (One internal_error)) → ⊥
by_kind true h = an_error internal_error refl h.1
by_kind false h = an_error internal_error refl h

pub stop_fails : (deed : Deed) → IsSuccess (stop_of deed) → ⊥
stop_fails deed h = by_kind (is_pair deed) h

by_start : (b : Bool)
    → IsSuccess (cond b (Two internal_error aborted_due_to_failed_fused_command) (One internal_error)) → ⊥
by_start true h = an_error internal_error refl h.0
by_start false h = an_error internal_error refl h

pub unstarted_fails : (deed : Deed) → IsSuccess (unstarted_of deed) → ⊥
unstarted_fails deed h = by_start (is_pair deed) h

pub part_of_reply : (ns : Namespace) (op : Operation) (history : List HistoryEntry) (part : Part) (result : PartResult)
    → (reply_at ns op history part result).part ≡ part
part_of_reply ns op history part Done = refl
part_of_reply ns op history part Failed = refl
part_of_reply ns op history part Looked = refl
part_of_reply ns op history part NoMemory = refl
part_of_reply ns op history part Full = refl

pub is_at_point : (r : RecordView) (job : Job) (op : Operation) (history : List HistoryEntry) (part : Part) (result : PartResult)
    → ready_operation r.namespace job ≡ Some op → IsAt r.units part.unit history → part.result ≡ result
    → IsReplyAtPoint r job (reply_at r.namespace op history part result)
is_at_point r job op history part Done ready there e =
    record { op = op; ready = ready; history = history; there = there; is = ap (reply_at r.namespace op history part) (sym e) }
is_at_point r job op history part Failed ready there e =
    record { op = op; ready = ready; history = history; there = there; is = ap (reply_at r.namespace op history part) (sym e) }
is_at_point r job op history part Looked ready there e =
    record { op = op; ready = ready; history = history; there = there; is = ap (reply_at r.namespace op history part) (sym e) }
is_at_point r job op history part NoMemory ready there e =
    record { op = op; ready = ready; history = history; there = there; is = ap (reply_at r.namespace op history part) (sym e) }
is_at_point r job op history part Full ready there e =
    record { op = op; ready = ready; history = history; there = there; is = ap (reply_at r.namespace op history part) (sym e) }

module _ (ns : Namespace) (limit : ℕ) (op : Operation) (history : List HistoryEntry) (p : RecordedPart) where
  -- what is recorded of the part, if it ended so, is right at its point
  abbrev pub IsRight : PartResult → Type 0
  IsRight result = HasRightStatus ns.block_size limit history (part_in ns op p.part.unit) p result

  abbrev its_reply : PartResult → Reply
  its_reply result = reply_at ns op history p.part result

  pub is_reply : StepsAreReplies → (result : PartResult) → p.part.result ≡ result → IsTrue (can_have op.deed result) → IsRight result
      → IsReplyTo op.deed (its_reply result)
  is_reply steps Done e can right =
      steps.done ns op (point ns.block_size history p.part.point) p.part can e
      (subst IsSuccess right (success_succeeds (part_in ns op p.part.unit).deed))
  is_reply steps Failed e can right = steps.failed ns op (point ns.block_size history p.part.point) p.part e right.0
  is_reply steps Looked e can right = steps.looked ns op (point ns.block_size history p.part.point) p.part can e
  is_reply steps NoMemory e can right = steps.no_memory op.deed p.part e
  is_reply steps Full e can right = steps.full op.deed p.part can e

  -- A part with others after it succeeded.
  pub goes_on_succeeds : (result : PartResult) → IsTrue (goes_on result) → told_of p ≡ One successful_completion → IsRight result
      → IsSuccess (its_reply result).statuses
  goes_on_succeeds Done on told right = subst IsSuccess right (success_succeeds (part_in ns op p.part.unit).deed)
  goes_on_succeeds Failed on told right = absurd (cc on)
  goes_on_succeeds Looked on told right = subst IsSuccess (sym told ∙ right) refl
  goes_on_succeeds NoMemory on told right = absurd (cc on)
  goes_on_succeeds Full on told right = absurd (cc on)

  -- The last part decides.
  pub last_decides : KeepsPairs → (result : PartResult) → MayShow op.deed result (told_of p) → IsRight result
      → told_of p ≡ (its_reply result).statuses
  last_decides keeps Done may right =
      let same = keeps ns op p.part.unit in
      may
      ∙ ap (λ (b : Bool). cond b (Two successful_completion successful_completion) (One successful_completion)) (sym same)
      ∙ right
  last_decides keeps Failed may right = right.1
  last_decides keeps Looked may right = right
  last_decides keeps NoMemory may right = may
  last_decides keeps Full may right = may

  -- A part that succeeded read what is recorded of it.
  pub reads_its_data : (result : PartResult) → IsSuccess (its_reply result).statuses
      → HasRightData ns op (point ns.block_size history p.part.point) p
      → (bytes : List ℕ) → p.done.payload ≡ Some bytes → (its_reply result).payload ≡ Some (data_in ns op p.part.unit bytes)
  reads_its_data Done success right bytes e = right bytes e
  reads_its_data Failed success right bytes e = right bytes e
  reads_its_data Looked success right bytes e = right bytes e
  reads_its_data NoMemory success right bytes e = absurd (stop_fails op.deed success)
  reads_its_data Full success right bytes e = absurd (stop_fails op.deed success)
