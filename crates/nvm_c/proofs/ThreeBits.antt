-- Each status that a job ends with is of type 0 or 2, so it fits the three bits of its entry.
use Rattle.std.proofs.Common.{if◌then◌else◌, Bool, true, false, ℕ, ◌≤◌, List, [], ◌∷◌, Option, Some, None, MatchOption, IsSomeAnd, sym, subst, inl, inr, arith}
use Rattle.std.specs.List.{AllByRecursion}
use Rattle.nvm_record.specs.Deeds.{is_pair}
use Rattle.nvm_record.specs.Step.{Deed, Operation, writes, zeroes, uncorrectable, reads, compares, pairs, deallocates}
use Rattle.nvm_record.specs.declared.status.Status.{Status}
use Rattle.nvm_record.specs.declared.status.Statuses.{Statuses}
use Rattle.nvm_record.specs.declared.status.Statuses.TheVariants.{One, Two}
use Rattle.nvm_geometry.specs.Namespace.{Namespace}
use Rattle.nvm_plan.specs.Checks.{Check, checks, first_answer, refusal_of}
use Rattle.nvm_plan.specs.Completions.{completions_of, first_status, second_status}
use Rattle.nvm_plan.specs.Operation.{job_operation_of}
use Rattle.nvm_plan.specs.Outcome.{IsOutcome, IsOutcomeOf, IsRefused}
use Rattle.nvm_plan.specs.Reply.{CanEndLook, IsFailedComparison, MayTell, Reply}
use Rattle.nvm_plan.specs.declared.job.Body.{Body}
use Rattle.nvm_plan.specs.declared.job.Body.TheVariants.{Single, Pair}
use Rattle.nvm_plan.specs.declared.job.Job.{Job}
use Rattle.nvm_plan.specs.declared.part.PartResult.{PartResult}
use Rattle.nvm_plan.specs.declared.part.PartResult.TheVariants.{Done, Failed, Looked, NoMemory, Full}
use Rattle.nvm_c.specs.Told.{FitEntries}

abbrev Fits : Status → Type 0
Fits s = s.sct ≤ 7

abbrev pub AllFit : Statuses → Type 0
AllFit (One s) = Fits s
AllFit (Two s t) = Fits s × Fits t

generic : 0 ≤ 7
generic = omega arith

media : 2 ≤ 7
media = omega arith

-- one of two, by what the job is
either : (pair : Bool) (one two : Statuses) → AllFit one → AllFit two → AllFit (if pair then two else one)
either true one two h k = k
either false one two h k = h

rows_fit : (ns : Namespace) (body : Body) → AllByRecursion (λ (row : Check). AllFit row.answer) (checks ns body)
rows_fit ns (Single c) = (generic, (generic, (generic, (generic, (generic, tt)))))
rows_fit ns (Pair c d) = ((generic, generic), ((generic, generic), ((generic, generic), ((generic, generic), ((generic, generic), tt)))))

one_row_fits : (row : Check) (rows : List Check) (applies : Bool) → AllFit row.answer → MatchOption (first_answer rows) (Unit {0}) AllFit
    → MatchOption (if applies then Some row.answer else first_answer rows) (Unit {0}) AllFit
one_row_fits row rows true here rest = here
one_row_fits row rows false here rest = rest

found_fits : (rows : List Check) → AllByRecursion (λ (row : Check). AllFit row.answer) rows → MatchOption (first_answer rows) (Unit {0}) AllFit
found_fits [] all = tt
found_fits (row ∷ rows) all = one_row_fits row rows row.applies all.0 (found_fits rows all.1)

failed_fits : (s : Status) → IsFailedComparison s → Fits s
failed_fits s (inl is) = subst Fits (sym is) media
failed_fits s (inr is) = subst Fits (sym is) media

look_fits : (deed : Deed) (s : Status) → CanEndLook deed s → Fits s
look_fits (writes payload) s h = absurd h
look_fits zeroes s h = absurd h
look_fits uncorrectable s h = absurd h
look_fits reads s (inl is) = subst Fits (sym is) generic
look_fits reads s (inr is) = subst Fits (sym is) media
look_fits (compares payload) s (inl is) = subst Fits (sym is) generic
look_fits (compares payload) s (inr failed) = failed_fits s failed
look_fits (pairs payload new) s h = absurd h
look_fits (deallocates ranges) s h = absurd h

reply_fits : (deed : Deed) (ended : PartResult) (told : Statuses) → MayTell deed ended told → AllFit told
reply_fits deed Done told is = subst AllFit (sym is) (either (is_pair deed) _ _ generic (generic, generic))
reply_fits deed Failed (One s) h = absurd h
reply_fits deed Failed (Two s t) h = (failed_fits s h.0, subst Fits (sym h.1) generic)
reply_fits deed Looked (One s) h = look_fits deed s h
reply_fits deed Looked (Two s t) h = absurd h
reply_fits deed NoMemory told is = subst AllFit (sym is) (either (is_pair deed) _ _ generic (generic, generic))
reply_fits deed Full told is = subst AllFit (sym is) (either (is_pair deed) _ _ generic (generic, generic))

ended_fits : (ns : Namespace) (op : Operation) (replies : List Reply) (told : Statuses) (read : Option (List ℕ))
    → IsOutcomeOf ns op replies told read → AllFit told
ended_fits ns op replies told read (inl all) = subst AllFit (sym all.statuses) (either (is_pair op.deed) _ _ generic (generic, generic))
ended_fits ns op replies told read (inr (inl stops)) =
    subst AllFit (sym stops.statuses) (reply_fits op.deed stops.last.part.result stops.last.statuses stops.reply.told)
ended_fits ns op replies told read (inr (inr none)) = subst AllFit (sym none.statuses) (either (is_pair op.deed) _ _ generic (generic, generic))

operation_fits : (ns : Namespace) (found : Option Operation) (replies : List Reply) (told : Statuses) (read : Option (List ℕ))
    → IsSomeAnd found (λ op. IsOutcomeOf ns op replies told read) → AllFit told
operation_fits ns None replies told read h = absurd h
operation_fits ns (Some op) replies told read h = ended_fits ns op replies told read h

planned_fits : (ns : Namespace) (job : Job) (refusal : Option Statuses) (replies : List Reply) (told : Statuses) (read : Option (List ℕ))
    → MatchOption refusal (Unit {0}) AllFit
    → MatchOption refusal (IsSomeAnd (job_operation_of ns job) (λ op. IsOutcomeOf ns op replies told read)) (λ r. IsRefused r replies told read)
    → AllFit told
planned_fits ns job None replies told read fits h = operation_fits ns (job_operation_of ns job) replies told read h
planned_fits ns job (Some refusal) replies told read fits h = subst AllFit (sym h.statuses) fits

pub outcome_fits : (ns : Namespace) (job : Job) (replies : List Reply) (told : Statuses) (read : Option (List ℕ))
    → IsOutcome ns job replies told read → AllFit told
unfolding refusal_of
outcome_fits ns job replies told read h =
    planned_fits ns job (refusal_of ns job) replies told read (found_fits (checks ns job.body) (rows_fit ns job.body)) h

first_fits : (told : Statuses) → AllFit told → Fits (first_status told)
first_fits (One s) h = h
first_fits (Two s t) h = h.0

second_fits : (told : Statuses) → AllFit told → Fits (second_status told)
second_fits (One s) h = h
second_fits (Two s t) h = h.1

pub completions_fit : (host : ℕ) (body : Body) (told : Statuses) (read : Option (List ℕ)) → AllFit told
    → FitEntries (completions_of (record { host = host; body = body }) told read)
completions_fit host (Single c) told read h = first_fits told h
completions_fit host (Pair c d) told read h = (first_fits told h, second_fits told h)
