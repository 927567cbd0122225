-- The replies fix the outcome.
use Rattle.std.proofs.Common.{◌≡◌, ℕ, List, [], ◌∷◌, ◌++◌, Option, Some, None, MatchOption, sym, ap, subst, ◌∙◌, inl, inr}
use Rattle.std.specs.List.{AllByRecursion}
use Rattle.std.specs.Option.{IsSomeAnd}
use Rattle.std.proofs.lemmas.List.{same_from_push, append-nil}
use Rattle.nvm_record.specs.declared.status.Statuses.{Statuses}
use Rattle.nvm_record.specs.Step.{Operation}
use Rattle.nvm_geometry.specs.Namespace.{Namespace}
use Rattle.nvm_plan.specs.declared.job.Job.{Job}
use Rattle.nvm_plan.specs.Checks.{refusal_of}
use Rattle.nvm_plan.specs.Operation.{job_operation_of}
use Rattle.nvm_plan.specs.Reply.{Reply, IsSuccessfulReply}
use Rattle.nvm_plan.specs.Outcome.{units_told, AllSucceed, StopsAtLast, IsUnstarted, IsOutcomeOf, IsRefused, IsOutcome}

-- what holds of all holds of the last
all_last : (P : Reply → Type 0) (before : List Reply) (last : Reply) → AllByRecursion P (before ++ last ∷ []) → P last
all_last P [] last h = h.0
all_last P (r ∷ rs) last h = all_last P rs last h.1

some_last : (before : List Reply) (last : Reply) → before ++ last ∷ [] ≡ [] → ⊥
some_last [] last h = cc
some_last (r ∷ rs) last h = cc

-- The same is reported to the host.
abbrev pub IsSame : Statuses → Option (List ℕ) → Statuses → Option (List ℕ) → Type 0
IsSame told read other also = (told ≡ other) × (read ≡ also)

succeed_not_stop : (ns : Namespace) (op : Operation) (replies : List Reply) (told other : Statuses) (read also : Option (List ℕ))
    → AllSucceed ns op replies told read → StopsAtLast ns op replies other also → ⊥
succeed_not_stop ns op replies told other read also a s =
    let P : List Reply → Type 0 = AllByRecursion (IsSuccessfulReply op.deed) in
    s.failure (all_last (IsSuccessfulReply op.deed) s.before s.last (subst P s.are a.done.each)).success

succeed_not_unstarted : (ns : Namespace) (op : Operation) (replies : List Reply) (told other : Statuses) (read also : Option (List ℕ))
    → AllSucceed ns op replies told read → IsUnstarted ns op replies other also → ⊥
succeed_not_unstarted ns op replies told other read also a u = u.some (sym a.done.units ∙ (append-nil (units_told replies) ∙ ap units_told u.none_done))

stop_not_unstarted : (ns : Namespace) (op : Operation) (replies : List Reply) (told other : Statuses) (read also : Option (List ℕ))
    → StopsAtLast ns op replies told read → IsUnstarted ns op replies other also → ⊥
stop_not_unstarted ns op replies told other read also s u = some_last s.before s.last (sym s.are ∙ u.none_done)

same_stop : (ns : Namespace) (op : Operation) (replies : List Reply) (told other : Statuses) (read also : Option (List ℕ))
    → StopsAtLast ns op replies told read → StopsAtLast ns op replies other also → IsSame told read other also
same_stop ns op replies told other read also s t =
    let last = same_from_push s.before t.before s.last t.last (sym s.are ∙ t.are) in
    (s.statuses ∙ (ap (λ r. r.statuses) last.1 ∙ sym t.statuses), s.payload ∙ sym t.payload)

same_of : (ns : Namespace) (op : Operation) (replies : List Reply) (told other : Statuses) (read also : Option (List ℕ))
    → IsOutcomeOf ns op replies told read → IsOutcomeOf ns op replies other also → IsSame told read other also
same_of ns op replies told other read also (inl a) (inl b) = (a.statuses ∙ sym b.statuses, a.payload ∙ sym b.payload)
same_of ns op replies told other read also (inl a) (inr (inl b)) = absurd (succeed_not_stop ns op replies told other read also a b)
same_of ns op replies told other read also (inl a) (inr (inr b)) = absurd (succeed_not_unstarted ns op replies told other read also a b)
same_of ns op replies told other read also (inr (inl a)) (inl b) = absurd (succeed_not_stop ns op replies other told also read b a)
same_of ns op replies told other read also (inr (inl a)) (inr (inl b)) = same_stop ns op replies told other read also a b
same_of ns op replies told other read also (inr (inl a)) (inr (inr b)) = absurd (stop_not_unstarted ns op replies told other read also a b)
same_of ns op replies told other read also (inr (inr a)) (inl b) = absurd (succeed_not_unstarted ns op replies other told also read b a)
same_of ns op replies told other read also (inr (inr a)) (inr (inl b)) = absurd (stop_not_unstarted ns op replies other told also read b a)
same_of ns op replies told other read also (inr (inr a)) (inr (inr b)) = (a.statuses ∙ sym b.statuses, a.payload ∙ sym b.payload)

-- the outcome by a refusal and an operation
abbrev pub By : Namespace → Option Statuses → Option Operation → List Reply → Statuses → Option (List ℕ) → Type 0
By ns refused stands replies told read =
    MatchOption refused (IsSomeAnd stands (λ op. IsOutcomeOf ns op replies told read)) (λ refusal. IsRefused refusal replies told read)

same_by : (ns : Namespace) (refused : Option Statuses) (stands : Option Operation) (replies : List Reply) (told other : Statuses) (read also : Option (List ℕ))
    → By ns refused stands replies told read → By ns refused stands replies other also → IsSame told read other also
same_by ns (Some refusal) stands replies told other read also a b = (a.statuses ∙ sym b.statuses, a.payload ∙ sym b.payload)
same_by ns None (Some op) replies told other read also a b = same_of ns op replies told other read also a b
same_by ns None None replies told other read also a b = absurd a

pub same_outcome : (ns : Namespace) (job : Job) (replies : List Reply) (told other : Statuses) (read also : Option (List ℕ))
    → IsOutcome ns job replies told read → IsOutcome ns job replies other also → IsSame told read other also
same_outcome ns job = same_by ns (refusal_of ns job) (job_operation_of ns job)
