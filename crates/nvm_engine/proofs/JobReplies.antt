-- The replies to the parts of a done job: each is one to its operation, and all but the last report success.
use Rattle.std.proofs.Common.{◌≡◌, ◌⊎◌, ℕ, ◌+◌, ◌≤◌, List, [], ◌∷◌, ◌++◌, length, false, IsTrue, Option, Some, None, MatchOption, refl, sym, ap, subst, ◌∙◌, inl, inr, append-nil, length-append, arith, rules}
use Rattle.std.specs.List.{AllByRecursion}
use Rattle.std.specs.Option.{IsSomeAnd}
use Rattle.std.proofs.lemmas.Bool.{cases_Bool}
use Rattle.std.proofs.lemmas.List.{length-map}
use Rattle.std.proofs.lemmas.Option.{none-some, same_Some}
use Rattle.nvm_record.specs.declared.status.Statuses.{Statuses}
use Rattle.nvm_record.specs.declared.status.Statuses.TheVariants.{One}
use Rattle.nvm_record.specs.Deeds.{is_read, is_pair, IsPair, success_of}
use Rattle.nvm_record.specs.Status.{IsSuccess, successful_completion}
use Rattle.nvm_record.specs.Step.{Deed, Operation}
use Rattle.nvm_geometry.specs.Boundaries.{unit_number}
use Rattle.nvm_geometry.specs.Namespace.{Namespace}
use Rattle.nvm_geometry.specs.Parts.{units_met}
use Rattle.nvm_plan.specs.declared.job.Job.{Job}
use Rattle.nvm_plan.specs.declared.part.PartResult.{PartResult}
use Rattle.nvm_plan.specs.Checks.{refusal_of}
use Rattle.nvm_plan.specs.JobPart.{unless_refused}
use Rattle.nvm_plan.specs.Operation.{job_operation_of}
use Rattle.nvm_plan.specs.Outcome.{units_told, data_told, answered, IsOutcomeOf, IsRefused, IsOutcome}
use Rattle.nvm_plan.specs.Reply.{Reply, MayTell, can_have, IsReplyTo, IsSuccessfulReply}

-- The last of the replies has these statuses, and each one before it success of a command by itself.
abbrev pub LastTells : Statuses → List Reply → Type 0
LastTells told [] = Unit {0}
LastTells told (r ∷ []) = r.statuses ≡ told
LastTells told (r ∷ next ∷ rs) = (r.statuses ≡ One successful_completion) × LastTells told (next ∷ rs)

-- success is answered in one way
success_told : (deed : Deed) (result : PartResult) (told : Statuses) → IsTrue (can_have deed result) → MayTell deed result told → IsSuccess told
    → told ≡ success_of deed
success_told deed result told can may success = search rules

tells_success : (deed : Deed) (r : Reply) → IsSuccessfulReply deed r → r.statuses ≡ success_of deed
tells_success deed r h = success_told deed r.part.result r.statuses h.reply.result h.reply.told h.success

one_success : (deed : Deed) → is_pair deed ≡ false → success_of deed ≡ One successful_completion
one_success deed single = rw single refl

-- A reply with others after it is none to a pair.
one_told : (deed : Deed) (r next : Reply) (rs : List Reply) → (IsPair deed → length (r ∷ next ∷ rs) ≤ 1) → IsSuccessfulReply deed r
    → r.statuses ≡ One successful_completion
one_told deed r next rs few h = elim (cases_Bool (is_pair deed)) [
  | inl pair ↦ absurd (omega (arith, few pair))
  | inr single ↦ tells_success deed r h ∙ one_success deed single
]

succeed_told : (deed : Deed) (replies : List Reply) → (IsPair deed → length replies ≤ 1) → AllByRecursion (IsSuccessfulReply deed) replies
    → LastTells (success_of deed) replies
succeed_told deed [] few each = tt
succeed_told deed (r ∷ []) few each = tells_success deed r each.0
succeed_told deed (r ∷ next ∷ rs) few each =
    (one_told deed r next rs few each.0, succeed_told deed (next ∷ rs) (λ pair. omega (arith, few pair)) each.1)

stop_told : (deed : Deed) (before : List Reply) (last : Reply) → (IsPair deed → length (before ++ last ∷ []) ≤ 1)
    → AllByRecursion (IsSuccessfulReply deed) before → LastTells last.statuses (before ++ last ∷ [])
stop_told deed [] last few each = refl
stop_told deed (r ∷ []) last few each = (one_told deed r last [] few each.0, refl)
stop_told deed (r ∷ next ∷ rs) last few each =
    (one_told deed r next (rs ++ last ∷ []) few each.0, stop_told deed (next ∷ rs) last (λ pair. omega (arith, few pair)) each.1)

are_replies : (deed : Deed) (replies : List Reply) → AllByRecursion (IsSuccessfulReply deed) replies → AllByRecursion (IsReplyTo deed) replies
are_replies deed [] each = tt
are_replies deed (r ∷ rs) each = (each.0.reply, are_replies deed rs each.1)

with_last : (deed : Deed) (before : List Reply) (last : Reply) → AllByRecursion (IsSuccessfulReply deed) before → IsReplyTo deed last
    → AllByRecursion (IsReplyTo deed) (before ++ last ∷ [])
with_last deed [] last each reply = (reply, tt)
with_last deed (r ∷ rs) last each reply = (each.0.reply, with_last deed rs last each.1 reply)

-- How the parts of a job that isn't refused were replied to.
pub record AreReplies (ns : Namespace) (op : Operation) (replies : List Reply) (told : Statuses) (read : Option (List ℕ)) : Type 0 where
  pub each : AllByRecursion (IsReplyTo op.deed) replies
  pub last : LastTells told replies
  -- Where there is data, the job is a Read of which each part succeeded, and the data is what they read.
  pub data_is : (bytes : List ℕ) → read ≡ Some bytes → IsTrue (is_read op.deed) × AllByRecursion (IsSuccessfulReply op.deed) replies
      × (units_told replies ≡ units_met ns op) × (bytes ≡ data_told replies)

answered_is : (deed : Deed) (all bytes : List ℕ) → answered deed all ≡ Some bytes → IsTrue (is_read deed) × (bytes ≡ all)
answered_is deed all bytes e = elim (cases_Bool (is_read deed)) [
  | inl read ↦ (read, sym (same_Some all bytes (rw read at e)))
  | inr other ↦ absurd (none-some bytes (rw other at e))
]

-- A pair has no more replies than units that it meets.
few_replies : (ns : Namespace) (op : Operation) (replies : List Reply) (left : List ℕ) (unit : ℕ) → units_met ns op ≡ unit ∷ []
    → units_told replies ++ left ≡ units_met ns op → length replies ≤ 1
few_replies ns op replies left unit one units =
    let count : length (units_told replies) + length left ≡ 1 =
    sym (length-append (units_told replies) left) ∙ ap (λ (us : List ℕ). length us) (units ∙ one) in
    let same : length (units_told replies) ≡ length replies = length-map replies (λ (r : Reply). r.part.unit) in
    omega (arith, count, same)

module _ (ns : Namespace) (op : Operation) (first : ℕ) (pair_meets : IsPair op.deed → units_met ns op ≡ first ∷ []) where
  replies_of : (replies : List Reply) (told : Statuses) (read : Option (List ℕ)) → IsOutcomeOf ns op replies told read
      → AreReplies ns op replies told read
  replies_of replies told read (inl all) = record {
    each = are_replies op.deed replies all.done.each;
    last =
        subst (λ (t : Statuses). LastTells t replies) (sym all.statuses)
        (succeed_told op.deed replies (λ pair. few_replies ns op replies [] first (pair_meets pair) all.done.units) all.done.each);
    data_is = λ bytes e.
        let is = answered_is op.deed (data_told replies) bytes (sym all.payload ∙ e) in
        (is.0, all.done.each, sym (append-nil (units_told replies)) ∙ all.done.units, is.1);
  }
  replies_of replies told read (inr (inl stop)) = record {
    each = subst (AllByRecursion (IsReplyTo op.deed)) (sym stop.are) (with_last op.deed stop.before stop.last stop.done.each stop.reply);
    last =
        subst (λ (t : Statuses). LastTells t replies) (sym stop.statuses)
        (subst (LastTells stop.last.statuses) (sym stop.are)
        (stop_told op.deed stop.before stop.last
        (λ pair.
        let count : length (units_told stop.before) + length (stop.last.part.unit ∷ stop.left) ≡ 1 =
        sym (length-append (units_told stop.before) (stop.last.part.unit ∷ stop.left))
        ∙ ap (λ (us : List ℕ). length us) (stop.done.units ∙ pair_meets pair) in
        let same : length (units_told stop.before) ≡ length stop.before = length-map stop.before (λ (r : Reply). r.part.unit) in
        omega (arith, count, same, length-append stop.before (stop.last ∷ [])))
        stop.done.each));
    data_is = λ bytes e. absurd (none-some bytes (sym stop.payload ∙ e));
  }
  replies_of replies told read (inr (inr none)) = record {
    each = subst (AllByRecursion (IsReplyTo op.deed)) (sym none.none_done) tt;
    last = subst (LastTells told) (sym none.none_done) tt;
    data_is = λ bytes e. absurd (none-some bytes (sym none.payload ∙ e));
  }

-- Nothing was done of the job, or it is done by an operation, with these replies.
abbrev pub IsRepliedTo : Namespace → Option Statuses → Option Operation → List Reply → Statuses → Option (List ℕ) → Type 0
IsRepliedTo ns refused stands replies told read =
    ((replies ≡ []) × (read ≡ None))
    ⊎ ((op : Operation) × (refused ≡ None) × (stands ≡ Some op) × AreReplies ns op replies told read)

-- The operation of a pair meets one unit.
abbrev pub PairMeetsOne : Type 0
PairMeetsOne =
    (ns : Namespace) (job : Job) (op : Operation) → refusal_of ns job ≡ None → job_operation_of ns job ≡ Some op → IsPair op.deed
    → units_met ns op ≡ unit_number ns op.first ∷ []

by_refusal : (ns : Namespace) (refused : Option Statuses) (stands : Option Operation) (replies : List Reply) (told : Statuses)
    (read : Option (List ℕ))
    → ((op : Operation) → refused ≡ None → stands ≡ Some op → IsPair op.deed → units_met ns op ≡ unit_number ns op.first ∷ [])
    → MatchOption refused (IsSomeAnd stands (λ op. IsOutcomeOf ns op replies told read)) (λ refusal. IsRefused refusal replies told read)
    → IsRepliedTo ns refused stands replies told read
by_refusal ns (Some refusal) stands replies told read pair outcome = inl (outcome.none_done, outcome.payload)
by_refusal ns None (Some op) replies told read pair outcome =
    inr (op, refl, refl, replies_of ns op (unit_number ns op.first) (pair op refl refl) replies told read outcome)
by_refusal ns None None replies told read pair outcome = absurd outcome

pub replied_to : PairMeetsOne → (ns : Namespace) (job : Job) (replies : List Reply) (told : Statuses) (read : Option (List ℕ))
    → IsOutcome ns job replies told read → IsRepliedTo ns (refusal_of ns job) (job_operation_of ns job) replies told read
replied_to one ns job replies told read outcome =
    by_refusal ns (refusal_of ns job) (job_operation_of ns job) replies told read (one ns job) outcome

pub ready_is : (refused : Option Statuses) (stands : Option Operation) (op : Operation) → refused ≡ None → stands ≡ Some op
    → unless_refused refused stands ≡ Some op
ready_is refused stands op free is = rw free is
