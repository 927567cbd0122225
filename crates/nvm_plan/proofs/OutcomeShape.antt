-- An outcome has the shape that a record shows.
use Rattle.std.proofs.Common.{◌≡◌, ℕ, List, [], ◌∷◌, ◌++◌, map, Option, Some, None, MatchOption, IsTrue, refl, sym, ap, subst, ◌∙◌, inl, inr}
use Rattle.std.specs.List.{AllByRecursion}
use Rattle.std.specs.Option.{IsSomeAnd}
use Rattle.std.proofs.lemmas.List.{map_push, append_assoc}
use Rattle.nvm_record.specs.declared.status.Statuses.{Statuses}
use Rattle.nvm_record.specs.Status.{IsSuccess}
use Rattle.nvm_record.specs.Step.{Deed, Operation}
use Rattle.nvm_geometry.specs.Namespace.{Namespace}
use Rattle.nvm_geometry.specs.Parts.{units_met}
use Rattle.nvm_plan.specs.declared.job.Job.{Job}
use Rattle.nvm_plan.specs.declared.part.Part.{Part}
use Rattle.nvm_plan.specs.Checks.{refusal_of}
use Rattle.nvm_plan.specs.Operation.{job_operation_of}
use Rattle.nvm_plan.specs.Reply.{Reply, can_have, IsReplyTo, IsSuccessfulReply}
use Rattle.nvm_plan.specs.Outcome.{units_told, data_told, AllSucceed, StopsAtLast, IsOutcomeOf, IsOutcome}
use Rattle.nvm_plan.specs.Shape.{goes_on, EndsAtLast, HasEnding, HasShapeOf, HasShapeOfRefusal, HasOutcomeShape}
use Rattle.nvm_plan.proofs.Endings.{unstarted_fails, success_goes_on, told_shown, success_shown, answer_gives, no_data}
use Rattle.nvm_plan.proofs.OneOutcome.{By}

-- the parts of the replies
abbrev pub parts_of : List Reply → List Part
parts_of replies = map (λ reply. reply.part) replies

units_shown : (replies : List Reply) → map (λ part. part.unit) (parts_of replies) ≡ units_told replies
units_shown [] = refl
units_shown (r ∷ rs) = ap (λ units. r.part.unit ∷ units) (units_shown rs)

-- what holds of the part of each reply holds of each part
all_parts : (P : Part → Type 0) (Q : Reply → Type 0) → ((r : Reply) → Q r → P r.part) → (replies : List Reply) → AllByRecursion Q replies → AllByRecursion P (parts_of replies)
all_parts P Q each [] h = tt
all_parts P Q each (r ∷ rs) h = (each r h.0, all_parts P Q each rs h.1)

all_with_last : (Q : Reply → Type 0) (before : List Reply) (last : Reply) → AllByRecursion Q before → Q last → AllByRecursion Q (before ++ last ∷ [])
all_with_last Q [] last h at_last = (at_last, tt)
all_with_last Q (r ∷ rs) last h at_last = (h.0, all_with_last Q rs last h.1 at_last)

all_but_last : (Q : Reply → Type 0) (before : List Reply) (last : Reply) → AllByRecursion Q (before ++ last ∷ []) → AllByRecursion Q before × Q last
all_but_last Q [] last h = (tt, h.0)
all_but_last Q (r ∷ rs) last h =
    let rest = all_but_last Q rs last h.1 in
    ((h.0, rest.0), rest.1)

-- a list that isn't empty ends somewhere
record Ends (replies : List Reply) : Type 0 where
  before : List Reply
  last : Reply
  are : replies ≡ before ++ last ∷ []

ends_after : (r : Reply) (rs : List Reply) → Ends (r ∷ rs)
ends_after r [] = record { before = []; last = r; are = refl }
ends_after r (q ∷ qs) =
    let rest = ends_after q qs in
    record { before = r ∷ rest.before; last = rest.last; are = ap (λ list. r ∷ list) rest.are }

can_have_it : (deed : Deed) (r : Reply) → IsReplyTo deed r → IsTrue (can_have deed r.part.result)
can_have_it deed r h = h.result

going_on : (deed : Deed) (before : List Reply) → AllByRecursion (IsSuccessfulReply deed) before → AllByRecursion (λ part. IsTrue (goes_on part.result)) (parts_of before)
going_on deed =
    all_parts (λ part. IsTrue (goes_on part.result)) (IsSuccessfulReply deed)
    (λ r h. success_goes_on deed r.part.result r.statuses h.reply.told h.success)

results : (deed : Deed) (replies : List Reply) → AllByRecursion (IsReplyTo deed) replies → AllByRecursion (λ part. IsTrue (can_have deed part.result)) (parts_of replies)
results deed = all_parts (λ part. IsTrue (can_have deed part.result)) (IsReplyTo deed) (can_have_it deed)

replies_of : (deed : Deed) (replies : List Reply) → AllByRecursion (IsSuccessfulReply deed) replies → AllByRecursion (IsReplyTo deed) replies
replies_of deed [] h = tt
replies_of deed (r ∷ rs) h = (h.0.reply, replies_of deed rs h.1)

units_end : (ns : Namespace) (op : Operation) (replies : List Reply) (left : List ℕ) → units_told replies ++ left ≡ units_met ns op
    → map (λ part. part.unit) (parts_of replies) ++ left ≡ units_met ns op
units_end ns op replies left h = ap (λ units. units ++ left) (units_shown replies) ∙ h

-- the unit of one more reply
units_more : (before : List Reply) (last : Reply) (left : List ℕ) → units_told (before ++ last ∷ []) ++ left ≡ units_told before ++ last.part.unit ∷ left
units_more before last left =
    ap (λ units. units ++ left) (map_push (λ reply. reply.part.unit) before last) ∙ append_assoc (units_told before) (last.part.unit ∷ []) left

parts_end : (replies before : List Reply) (last : Reply) → replies ≡ before ++ last ∷ [] → parts_of replies ≡ parts_of before ++ last.part ∷ []
parts_end replies before last h = ap parts_of h ∙ map_push (λ reply. reply.part) before last

stop_shape : (ns : Namespace) (op : Operation) (replies : List Reply) (told : Statuses) (read : Option (List ℕ))
    → StopsAtLast ns op replies told read → EndsAtLast ns op (parts_of replies) told
stop_shape ns op replies told read s =
    let all : AllByRecursion (IsReplyTo op.deed) (s.before ++ s.last ∷ []) =
    all_with_last (IsReplyTo op.deed) s.before s.last (replies_of op.deed s.before s.done.each) s.reply in
    record {
      before = parts_of s.before;
      last = s.last.part;
      left = s.left;
      are = parts_end replies s.before s.last s.are;
      units = units_end ns op replies s.left (ap (λ list. units_told list ++ s.left) s.are ∙ (units_more s.before s.last s.left ∙ s.done.units));
      results = results op.deed replies (subst (AllByRecursion (IsReplyTo op.deed)) (sym s.are) all);
      going_on = going_on op.deed s.before s.done.each;
      statuses = rw s.statuses (told_shown op.deed s.last.part.result s.last.statuses s.reply.told);
      whole = λ h. absurd (s.failure (subst IsSuccess s.statuses h));
    }

succeed_shape : (ns : Namespace) (op : Operation) (replies : List Reply) (told : Statuses) (read : Option (List ℕ))
    → AllSucceed ns op replies told read → Ends replies → EndsAtLast ns op (parts_of replies) told
succeed_shape ns op replies told read a e =
    let each = all_but_last (IsSuccessfulReply op.deed) e.before e.last (subst (AllByRecursion (IsSuccessfulReply op.deed)) e.are a.done.each) in
    record {
      before = parts_of e.before;
      last = e.last.part;
      left = [];
      are = parts_end replies e.before e.last e.are;
      units = units_end ns op replies [] a.done.units;
      results = results op.deed replies (replies_of op.deed replies a.done.each);
      going_on = going_on op.deed e.before each.0;
      statuses = rw a.statuses (success_shown op.deed e.last.part.result e.last.statuses each.1.reply.result each.1.reply.told each.1.success);
      whole = λ h. refl;
    }

-- All parts succeeded, or there was none.
succeed_ends : (ns : Namespace) (op : Operation) (replies : List Reply) (told : Statuses) (read : Option (List ℕ))
    → AllSucceed ns op replies told read → HasEnding ns op (parts_of replies) told
succeed_ends ns op [] told read a = inl (record { none_met = sym a.done.units; none_done = refl; statuses = a.statuses })
succeed_ends ns op (r ∷ rs) told read a = inr (inr (succeed_shape ns op (r ∷ rs) told read a (ends_after r rs)))

shape_of : (ns : Namespace) (op : Operation) (replies : List Reply) (told : Statuses) (read : Option (List ℕ))
    → IsOutcomeOf ns op replies told read → HasShapeOf ns op (parts_of replies) told read
shape_of ns op replies told read (inl a) = record {
  ending = succeed_ends ns op replies told read a;
  payload = rw (a.statuses, a.payload) (answer_gives op.deed (data_told replies));
}
shape_of ns op replies told read (inr (inl s)) = record {
  ending = inr (inr (stop_shape ns op replies told read s));
  payload = no_data op.deed told read s.payload (λ h. s.failure (subst IsSuccess s.statuses h));
}
shape_of ns op replies told read (inr (inr u)) = record {
  ending = inr (inl (record { some = u.some; none_done = ap parts_of u.none_done; statuses = u.statuses }));
  payload = no_data op.deed told read u.payload (λ h. unstarted_fails op.deed (subst IsSuccess u.statuses h));
}

-- the shape by a refusal and an operation
abbrev ShapeBy : Namespace → Option Statuses → Option Operation → List Part → Statuses → Option (List ℕ) → Type 0
ShapeBy ns refused stands parts told read =
    MatchOption refused (IsSomeAnd stands (λ op. HasShapeOf ns op parts told read)) (λ refusal. HasShapeOfRefusal refusal parts told read)

shape_by : (ns : Namespace) (refused : Option Statuses) (stands : Option Operation) (replies : List Reply) (told : Statuses) (read : Option (List ℕ))
    → By ns refused stands replies told read → ShapeBy ns refused stands (parts_of replies) told read
shape_by ns (Some refusal) stands replies told read h =
    record { none_done = ap parts_of h.none_done; statuses = h.statuses; payload = h.payload }
shape_by ns None (Some op) replies told read h = shape_of ns op replies told read h
shape_by ns None None replies told read h = h

pub outcome_shape : (ns : Namespace) (job : Job) (replies : List Reply) (told : Statuses) (read : Option (List ℕ))
    → IsOutcome ns job replies told read → HasOutcomeShape ns job (parts_of replies) told read
outcome_shape ns job replies told read h = shape_by ns (refusal_of ns job) (job_operation_of ns job) replies told read h
