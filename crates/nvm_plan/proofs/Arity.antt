-- There is a status for each command of a job.
use Rattle.std.proofs.Common.{◌≡◌, ℕ, List, [], ◌∷◌, ◌++◌, Bool, true, false, cond, Option, Some, None, MatchOption, IsTrue, refl, sym, subst, inl, inr, arith}
use Rattle.std.specs.List.{AllByRecursion}
use Rattle.std.specs.Option.{IsSomeAnd}
use Rattle.std.proofs.lemmas.Grind.{common_steps}
use Rattle.std.proofs.lemmas.Option.{same_Some, none-some}
use Rattle.nvm_record.specs.declared.command.Command.{Command}
use Rattle.nvm_record.specs.declared.status.Statuses.{Statuses}
use Rattle.nvm_record.specs.Step.{Operation}
use Rattle.nvm_geometry.specs.Namespace.{Namespace}
use Rattle.nvm_plan.specs.declared.job.Body.{Body}
use Rattle.nvm_plan.specs.declared.job.Body.TheVariants.{Single, Pair}
use Rattle.nvm_plan.specs.declared.job.Job.{Job}
use Rattle.nvm_plan.specs.declared.part.Part.{Part}
use Rattle.nvm_plan.specs.Checks.{Check, checks, single_checks, pair_checks, first_answer, refusal_of}
use Rattle.nvm_plan.specs.Operation.{operation_of_body, job_operation_of}
use Rattle.nvm_record.specs.Deeds.{is_pair}
use Rattle.nvm_plan.specs.Reply.{can_have, IsOneStatus}
use Rattle.nvm_plan.specs.Shape.{IsTwoStatuses, EndsAtLast, HasEnding, HasShapeOf, HasShapeOfRefusal, HasOutcomeShape, IsForEach}
use Rattle.nvm_plan.proofs.Endings.{one_shown, two_shown, one_success, two_success, one_unstarted, two_unstarted}

-- what holds of each row's answer holds of the first that applies
row_answer : (P : Statuses → Type 0) (b : Bool) (answer told : Statuses) (rest : Option Statuses) → P answer → (rest ≡ Some told → P told)
    → cond b (Some answer) rest ≡ Some told → P told
row_answer P true answer told rest here there h = subst P (same_Some _ _ h) here
row_answer P false answer told rest here there h = there h

answer_is : (P : Statuses → Type 0) (rows : List Check) → AllByRecursion (λ row. P row.answer) rows → (told : Statuses) → first_answer rows ≡ Some told → P told
answer_is P [] each told h = absurd (none-some told h)
answer_is P (row ∷ rows) each told h = row_answer P row.applies row.answer told (first_answer rows) each.0 (answer_is P rows each.1 told) h

refusal_each : (ns : Namespace) (body : Body) (told : Statuses) → first_answer (checks ns body) ≡ Some told → IsForEach body told
refusal_each ns (Single c) told h = answer_is IsOneStatus (single_checks ns c) (tt, (tt, (tt, (tt, (tt, tt))))) told h
refusal_each ns (Pair c d) told h = answer_is IsTwoStatuses (pair_checks ns c d) (tt, (tt, (tt, (tt, (tt, tt))))) told h

-- what holds of all parts holds of the last
last_part : (P : Part → Type 0) (before : List Part) (last : Part) → AllByRecursion P (before ++ last ∷ []) → P last
last_part P [] last h = h.0
last_part P (p ∷ ps) last h = last_part P ps last h.1

can_last : (ns : Namespace) (op : Operation) (parts : List Part) (told : Statuses) (e : EndsAtLast ns op parts told) → IsTrue (can_have op.deed e.last.result)
can_last ns op parts told e =
    let P : Part → Type 0 = λ part. IsTrue (can_have op.deed part.result) in
    last_part P e.before e.last (subst (AllByRecursion P) e.are e.results)

pub one_ending : (ns : Namespace) (op : Operation) (parts : List Part) (told : Statuses) → is_pair op.deed ≡ false → HasEnding ns op parts told → IsOneStatus told
one_ending ns op parts told pair (inl h) = subst IsOneStatus (sym h.statuses) (one_success op.deed pair)
one_ending ns op parts told pair (inr (inl h)) = subst IsOneStatus (sym h.statuses) (one_unstarted op.deed pair)
one_ending ns op parts told pair (inr (inr e)) = one_shown op.deed e.last.result told pair (can_last ns op parts told e) e.statuses

two_ending : (ns : Namespace) (op : Operation) (parts : List Part) (told : Statuses) → is_pair op.deed ≡ true → HasEnding ns op parts told → IsTwoStatuses told
two_ending ns op parts told pair (inl h) = subst IsTwoStatuses (sym h.statuses) (two_success op.deed pair)
two_ending ns op parts told pair (inr (inl h)) = subst IsTwoStatuses (sym h.statuses) (two_unstarted op.deed pair)
two_ending ns op parts told pair (inr (inr e)) = two_shown op.deed e.last.result told pair (can_last ns op parts told e) e.statuses

single_deed : (ns : Namespace) (c : Command) (op : Operation) → operation_of_body ns (Single c) ≡ Some op → is_pair op.deed ≡ false
single_deed ns c op stands = grind (arith, common_steps)

pair_deed : (ns : Namespace) (c d : Command) (op : Operation) → operation_of_body ns (Pair c d) ≡ Some op → is_pair op.deed ≡ true
pair_deed ns c d op stands = grind (arith, common_steps)

operation_each : (ns : Namespace) (body : Body) (op : Operation) (parts : List Part) (told : Statuses) (read : Option (List ℕ))
    → operation_of_body ns body ≡ Some op → HasShapeOf ns op parts told read → IsForEach body told
operation_each ns (Single c) op parts told read stands h = one_ending ns op parts told (single_deed ns c op stands) h.ending
operation_each ns (Pair c d) op parts told read stands h = two_ending ns op parts told (pair_deed ns c d op stands) h.ending

by_plan : (ns : Namespace) (body : Body) (refused : Option Statuses) (stands : Option Operation) (parts : List Part) (told : Statuses) (read : Option (List ℕ))
    → ((refusal : Statuses) → refused ≡ Some refusal → IsForEach body refusal)
    → ((op : Operation) → stands ≡ Some op → HasShapeOf ns op parts told read → IsForEach body told)
    → MatchOption refused (IsSomeAnd stands (λ op. HasShapeOf ns op parts told read)) (λ refusal. HasShapeOfRefusal refusal parts told read)
    → IsForEach body told
by_plan ns body (Some refusal) stands parts told read refused done h = subst (IsForEach body) (sym h.statuses) (refused refusal refl)
by_plan ns body None (Some op) parts told read refused done h = done op refl h
by_plan ns body None None parts told read refused done h = absurd h

job_refusal_each : (ns : Namespace) (job : Job) (refusal : Statuses) → refusal_of ns job ≡ Some refusal → IsForEach job.body refusal
unfolding refusal_of
job_refusal_each ns job refusal h = refusal_each ns job.body refusal h

pub shape_for_each : (ns : Namespace) (job : Job) (parts : List Part) (told : Statuses) (read : Option (List ℕ))
    → HasOutcomeShape ns job parts told read → IsForEach job.body told
shape_for_each ns job parts told read h =
    by_plan ns job.body (refusal_of ns job) (job_operation_of ns job) parts told read (job_refusal_each ns job)
    (λ op. operation_each ns job.body op parts told read) h
