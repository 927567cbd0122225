-- Each status of an outcome is one of those that are answered.
use Rattle.std.proofs.Common.{◌≡◌, if◌then◌else◌, Bool, true, false, ℕ, List, [], ◌∷◌, Option, Some, None, MatchOption, IsSomeAnd, refl, sym, subst, inl, inr}
use Rattle.std.specs.List.{AllByRecursion}
use Rattle.nvm_record.specs.declared.status.Status.{Status}
use Rattle.nvm_record.specs.declared.status.Statuses.{Statuses}
use Rattle.nvm_record.specs.declared.status.Statuses.TheVariants.{One, Two}
use Rattle.nvm_record.specs.Deeds.{is_pair, success_of}
use Rattle.nvm_record.specs.Step.{Deed, Operation, writes, zeroes, uncorrectable, reads, compares, pairs, deallocates}
use Rattle.nvm_record.specs.Status.{successful_completion, invalid_command_opcode, invalid_field_in_command, internal_error}
use Rattle.nvm_record.specs.Status.{aborted_due_to_failed_fused_command, aborted_due_to_missing_fused_command}
use Rattle.nvm_record.specs.Status.{invalid_namespace_or_format, atomic_write_unit_exceeded, lba_out_of_range}
use Rattle.nvm_record.specs.Status.{unrecovered_read_error, compare_failure}
use Rattle.nvm_geometry.specs.Namespace.{Namespace}
use Rattle.nvm_plan.specs.Checks.{Check, checks, first_answer, refusal_of}
use Rattle.nvm_plan.specs.Operation.{job_operation_of}
use Rattle.nvm_plan.specs.Outcome.{unstarted_of, IsOutcomeOf, IsRefused, IsOutcome}
use Rattle.nvm_plan.specs.Reply.{Reply, stop_of, IsFailedComparison, AreOfFailedPair, CanEndLook, IsOfLook, MayTell}
use Rattle.nvm_plan.specs.declared.job.Body.{Body}
use Rattle.nvm_plan.specs.declared.job.Body.TheVariants.{Single, Pair}
use Rattle.nvm_plan.specs.declared.job.Job.{Job}
use Rattle.nvm_plan.specs.declared.part.PartResult.{PartResult}
use Rattle.nvm_plan.specs.declared.part.PartResult.TheVariants.{Done, Failed, Looked, NoMemory, Full}
use Rattle.nvm_engine.specs.StatusNames.{HasName, HaveNames}

-- ---- the rows of the table, by their places

success : HasName successful_completion
success = inl refl

opcode : HasName invalid_command_opcode
opcode = inr (inl refl)

field : HasName invalid_field_in_command
field = inr (inr (inl refl))

internal : HasName internal_error
internal = inr (inr (inr (inl refl)))

failed_fused : HasName aborted_due_to_failed_fused_command
failed_fused = inr (inr (inr (inr (inl refl))))

missing_fused : HasName aborted_due_to_missing_fused_command
missing_fused = inr (inr (inr (inr (inr (inl refl)))))

namespace : HasName invalid_namespace_or_format
namespace = inr (inr (inr (inr (inr (inr (inl refl))))))

exceeded : HasName atomic_write_unit_exceeded
exceeded = inr (inr (inr (inr (inr (inr (inr (inl refl)))))))

range : HasName lba_out_of_range
range = inr (inr (inr (inr (inr (inr (inr (inr (inl refl))))))))

marked : HasName unrecovered_read_error
marked = inr (inr (inr (inr (inr (inr (inr (inr (inr (inl refl)))))))))

differs : HasName compare_failure
differs = inr (inr (inr (inr (inr (inr (inr (inr (inr (inr (inl refl))))))))))

-- ---- refusals

abbrev AnswerNames : Check → Type 0
AnswerNames row = HaveNames row.answer

all_answers : (ns : Namespace) (body : Body) → AllByRecursion AnswerNames (checks ns body)
all_answers ns (Single c) = (opcode, (field, (missing_fused, (namespace, (range, tt)))))
all_answers ns (Pair c d) =
    ((field, field), ((namespace, failed_fused), ((field, field), ((range, failed_fused), ((exceeded, failed_fused), tt)))))

row_named : (row : Check) (rows : List Check) → AllByRecursion AnswerNames (row ∷ rows) → (applies : Bool) (told : Statuses)
    → (if applies then Some row.answer else first_answer rows) ≡ Some told → (first_answer rows ≡ Some told → HaveNames told)
    → HaveNames told
row_named row rows all true told e rest = let is : row.answer ≡ told = cc in subst HaveNames is all.0
row_named row rows all false told e rest = rest e

first_named : (rows : List Check) → AllByRecursion AnswerNames rows → (told : Statuses) → first_answer rows ≡ Some told → HaveNames told
first_named [] all told e = absurd cc
first_named (row ∷ rows) all told e = row_named row rows all row.applies told e (λ more. first_named rows all.1 told more)

refused_named : (ns : Namespace) (job : Job) (told : Statuses) → refusal_of ns job ≡ Some told → HaveNames told
unfolding refusal_of
refused_named ns job told e = first_named (checks ns job.body) (all_answers ns job.body) told e

-- ---- the statuses of a job that isn't refused

of_kind : (pair : Bool) (one two : Statuses) → HaveNames one → HaveNames two → HaveNames (if pair then two else one)
of_kind true one two h k = k
of_kind false one two h k = h

success_named : (deed : Deed) → HaveNames (success_of deed)
success_named deed =
    of_kind (is_pair deed) (One successful_completion) (Two successful_completion successful_completion) success (success, success)

stop_named : (deed : Deed) → HaveNames (stop_of deed)
stop_named deed = of_kind (is_pair deed) (One internal_error) (Two successful_completion internal_error) internal (success, internal)

unstarted_named : (deed : Deed) → HaveNames (unstarted_of deed)
unstarted_named deed =
    of_kind (is_pair deed) (One internal_error) (Two internal_error aborted_due_to_failed_fused_command) internal (internal, failed_fused)

comparison_named : (s : Status) → IsFailedComparison s → HasName s
comparison_named s (inl is) = subst HasName (sym is) marked
comparison_named s (inr is) = subst HasName (sym is) differs

look_named : (deed : Deed) (s : Status) → CanEndLook deed s → HasName s
look_named (writes payload) s h = absurd h
look_named zeroes s h = absurd h
look_named uncorrectable s h = absurd h
look_named reads s (inl is) = subst HasName (sym is) success
look_named reads s (inr is) = subst HasName (sym is) marked
look_named (compares payload) s (inl is) = subst HasName (sym is) success
look_named (compares payload) s (inr failed) = comparison_named s failed
look_named (pairs payload new) s h = absurd h
look_named (deallocates ranges) s h = absurd h

looked_named : (deed : Deed) (told : Statuses) → IsOfLook deed told → HaveNames told
looked_named deed (One s) h = look_named deed s h
looked_named deed (Two s t) h = absurd h

pair_named : (told : Statuses) → AreOfFailedPair told → HaveNames told
pair_named (One s) h = absurd h
pair_named (Two s t) h = (comparison_named s h.0, subst HasName (sym h.1) failed_fused)

told_named : (deed : Deed) (result : PartResult) (told : Statuses) → MayTell deed result told → HaveNames told
told_named deed Done told is = subst HaveNames (sym is) (success_named deed)
told_named deed Failed told h = pair_named told h
told_named deed Looked told h = looked_named deed told h
told_named deed NoMemory told is = subst HaveNames (sym is) (stop_named deed)
told_named deed Full told is = subst HaveNames (sym is) (stop_named deed)

done_named : (ns : Namespace) (op : Operation) (replies : List Reply) (told : Statuses) (read : Option (List ℕ))
    → IsOutcomeOf ns op replies told read → HaveNames told
done_named ns op replies told read (inl all) = subst HaveNames (sym all.statuses) (success_named op.deed)
done_named ns op replies told read (inr (inl stops)) =
    subst HaveNames (sym stops.statuses) (told_named op.deed stops.last.part.result stops.last.statuses stops.reply.told)
done_named ns op replies told read (inr (inr none)) = subst HaveNames (sym none.statuses) (unstarted_named op.deed)

by_operation : (ns : Namespace) (found : Option Operation) (replies : List Reply) (told : Statuses) (read : Option (List ℕ))
    → IsSomeAnd found (λ op. IsOutcomeOf ns op replies told read) → HaveNames told
by_operation ns None replies told read h = absurd h
by_operation ns (Some op) replies told read h = done_named ns op replies told read h

by_refusal : (ns : Namespace) (job : Job) (refusal : Option Statuses) (replies : List Reply) (told : Statuses) (read : Option (List ℕ))
    → refusal_of ns job ≡ refusal
    → MatchOption refusal (IsSomeAnd (job_operation_of ns job) (λ op. IsOutcomeOf ns op replies told read))
    (λ refused. IsRefused refused replies told read) → HaveNames told
by_refusal ns job None replies told read e h = by_operation ns (job_operation_of ns job) replies told read h
by_refusal ns job (Some refusal) replies told read e h = subst HaveNames (sym h.statuses) (refused_named ns job refusal e)

pub outcome_named : (ns : Namespace) (job : Job) (replies : List Reply) (told : Statuses) (read : Option (List ℕ))
    → IsOutcome ns job replies told read → HaveNames told
outcome_named ns job replies told read h = by_refusal ns job (refusal_of ns job) replies told read refl h
