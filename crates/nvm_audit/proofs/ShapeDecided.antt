-- Whether what is recorded of a job has the shape of an outcome is decided.
use Rattle.std.proofs.Common.{◌≡◌, ◌⊎◌, ℕ, List, [], ◌∷◌, ◌++◌, map, Option, Some, None, IsSome, IsTrue, MatchOption, refl, sym, ap, subst, ◌∙◌, inl, inr}
use Rattle.std.proofs.lemmas.Bool.{cases_eq}
use Rattle.std.proofs.lemmas.List.{append_cancel_left}
use Rattle.std.specs.List.{AllByRecursion}
use Rattle.std.specs.Option.{IsSomeAnd}
use mathlib.Core.Option.{some-injective}
use lib.ListN.{get_elem?}
use Rattle.nvm_record.specs.declared.status.Statuses.{Statuses}
use Rattle.nvm_record.specs.declared.status.Statuses.TheVariants.{One, Two}
use Rattle.nvm_record.specs.Deeds.{is_read, success_of}
use Rattle.nvm_record.specs.Lists.{IsAt}
use Rattle.nvm_record.specs.Status.{IsSuccess}
use Rattle.nvm_record.specs.Step.{Deed, Operation}
use Rattle.nvm_geometry.specs.Namespace.{Namespace}
use Rattle.nvm_geometry.specs.Parts.{units_met}
use Rattle.nvm_plan.specs.declared.job.Job.{Job}
use Rattle.nvm_plan.specs.declared.part.Part.{Part}
use Rattle.nvm_plan.specs.declared.part.PartResult.{PartResult}
use Rattle.nvm_plan.specs.declared.part.PartResult.TheVariants.{Done, Failed, Looked, NoMemory, Full}
use Rattle.nvm_plan.specs.Checks.{refusal_of}
use Rattle.nvm_plan.specs.Operation.{job_operation_of}
use Rattle.nvm_plan.specs.Outcome.{unstarted_of}
use Rattle.nvm_plan.specs.Reply.{can_have, stop_of, IsOneStatus}
use Rattle.nvm_plan.specs.Shape.{goes_on, IsTwoStatuses, MayShow, EndsAtLast, MeetsNoUnit, HasNoneDone, HasEnding, HasShapeOf, HasShapeOfRefusal, HasOutcomeShape}
use Rattle.nvm_audit.proofs.Decided.{IsDecided, with_it, both, either, where_so, each_way, is_true, is_empty, all_of}
use Rattle.nvm_audit.proofs.SameData.{statuses, payloads, success}
use Rattle.nvm_audit.proofs.Standing.{none_stands}

module _ {A : Type 0} where
  abbrev tail_of : List A → List A
  tail_of [] = []
  tail_of (x ∷ xs) = xs

  same_head : (x y : A) (xs ys : List A) → x ∷ xs ≡ y ∷ ys → x ≡ y
  same_head x y xs ys e = some-injective x y (ap (λ (l : List A). get_elem? l 0) e)

  not_empty : (x : A) (xs : List A) → [] ≡ x ∷ xs → ⊥
  not_empty x xs e = none_stands 0 x (subst (λ (l : List A). IsAt l 0 x) (sym e) refl)

  not_behind : (xs : List A) (x : A) → [] ≡ xs ++ x ∷ [] → ⊥
  not_behind [] x e = not_empty x [] e
  not_behind (y ∷ ys) x e = not_empty y (ys ++ x ∷ []) e

  -- A list ends in one way.
  one_end : (xs ys : List A) (x y : A) → xs ++ x ∷ [] ≡ ys ++ y ∷ [] → (xs ≡ ys) × (x ≡ y)
  one_end [] [] x y e = (refl, same_head x y [] [] e)
  one_end [] (z ∷ ys) x y e = absurd (not_behind ys y (ap tail_of e))
  one_end (z ∷ xs) [] x y e = absurd (not_behind xs x (sym (ap tail_of e)))
  one_end (w ∷ xs) (z ∷ ys) x y e =
      let rest = one_end xs ys x y (ap tail_of e) in
      let first = same_head w z (xs ++ x ∷ []) (ys ++ y ∷ []) e in
      (ap (λ (v : A). v ∷ xs) first ∙ ap (λ (l : List A). z ∷ l) rest.0, rest.1)

  -- the last of a list and those before it, where it isn't empty
  by_end : (xs : List A) → (xs ≡ []) ⊎ ((before : List A) × (last : A) × (xs ≡ before ++ last ∷ []))
  by_end [] = inl refl
  by_end (x ∷ xs) = elim (by_end xs) [
    | inl e ↦ inr ([], x, ap (λ (l : List A). x ∷ l) e)
    | inr found ↦ inr (x ∷ found.0, found.1, ap (λ (l : List A). x ∷ l) found.2)
  ]

-- whether the numbers are a front of others
is_front : (xs ys : List ℕ) → IsDecided ((left : List ℕ) × (xs ++ left ≡ ys))
is_front [] ys = inl (ys, refl)
is_front (x ∷ xs) [] = inr (λ found. not_empty x (xs ++ found.0) (sym found.1))
is_front (x ∷ xs) (y ∷ ys) = elim (cases_eq x y) [
  | inl same ↦
      with_it (λ found. (found.0, ap (λ (v : ℕ). v ∷ (xs ++ found.0)) same ∙ ap (λ (l : List ℕ). y ∷ l) found.1))
      (λ found. (found.0, ap tail_of found.1)) (is_front xs ys)
  | inr other ↦ inr (λ found. other (same_head x y (xs ++ found.0) ys found.1))
]

two_statuses : (told : Statuses) → IsDecided (IsTwoStatuses told)
two_statuses (One s) = inr (λ h. h)
two_statuses (Two s t) = inl tt

one_status : (told : Statuses) → IsDecided (IsOneStatus told)
one_status (One s) = inl tt
one_status (Two s t) = inr (λ h. h)

may_show : (deed : Deed) (result : PartResult) (told : Statuses) → IsDecided (MayShow deed result told)
may_show deed Done told = statuses told (success_of deed)
may_show deed Failed told = two_statuses told
may_show deed Looked told = one_status told
may_show deed NoMemory told = statuses told (stop_of deed)
may_show deed Full told = statuses told (stop_of deed)

some_read : (read : Option (List ℕ)) → IsDecided (IsSome read)
some_read None = inr (λ h. cc h)
some_read (Some bytes) = inl refl

module _ (ns : Namespace) where
  module _ (op : Operation) (parts : List Part) (told : Statuses) where
    -- that the parts end well, with these before the last and the units of these not done
    abbrev EndsWith : List Part → Part → List ℕ → Type 0
    EndsWith before last left =
        (AllByRecursion (λ part. IsTrue (can_have op.deed part.result)) parts × AllByRecursion (λ part. IsTrue (goes_on part.result)) before)
        × (MayShow op.deed last.result told × (IsSuccess told → left ≡ []))

    ends_with : (before : List Part) (last : Part) (left : List ℕ) → IsDecided (EndsWith before last left)
    ends_with before last left =
        both
        (both (all_of (λ (part : Part). IsTrue (can_have op.deed part.result)) (λ part. is_true (can_have op.deed part.result)) parts)
        (all_of (λ (part : Part). IsTrue (goes_on part.result)) (λ part. is_true (goes_on part.result)) before))
        (both (may_show op.deed last.result told) (where_so (success told) (is_empty left)))

    ends_at_last : IsDecided (EndsAtLast ns op parts told)
    ends_at_last = elim (by_end parts) [
      | inl none ↦ inr (λ ends. not_behind ends.before ends.last (sym none ∙ ends.are))
      | inr end ↦ elim (is_front (map (λ part. part.unit) parts) (units_met ns op)) [
        | inl front ↦
            with_it
            (λ well.
            record {
              before = end.0;
              last = end.1;
              left = front.0;
              are = end.2;
              units = front.1;
              results = well.0.0;
              going_on = well.0.1;
              statuses = well.1.0;
              whole = well.1.1;
            })
            (λ ends. well end.0 end.1 front.0 end.2 front.1 ends) (ends_with end.0 end.1 front.0)
        | inr other ↦ inr (λ ends. other (ends.left, ends.units))
      ]
    ]
      where
        well : (before : List Part) (last : Part) (left : List ℕ) → parts ≡ before ++ last ∷ []
            → map (λ (part : Part). part.unit) parts ++ left ≡ units_met ns op → EndsAtLast ns op parts told → EndsWith before last left
        well before last left are units ends =
            let end = one_end ends.before before ends.last last (sym ends.are ∙ are) in
            let rest : ends.left ≡ left =
            append_cancel_left (map (λ (part : Part). part.unit) parts) ends.left left (ends.units ∙ sym units) in (
              (
                ends.results,
                subst (λ (l : List Part). AllByRecursion (λ (part : Part). IsTrue (goes_on part.result)) l) end.0 ends.going_on,
              ),
              (
                subst (λ (part : Part). MayShow op.deed part.result told) end.1 ends.statuses,
                subst (λ (l : List ℕ). IsSuccess told → l ≡ []) rest ends.whole,
              ),
            )

    meets_none : IsDecided (MeetsNoUnit ns op parts told)
    meets_none =
        with_it (λ h. record { none_met = h.0; none_done = h.1.0; statuses = h.1.1 }) (λ h. (h.none_met, (h.none_done, h.statuses)))
        (both (is_empty (units_met ns op)) (both (is_empty parts) (statuses told (success_of op.deed))))

    none_done : IsDecided (HasNoneDone ns op parts told)
    none_done =
        with_it (λ h. record { some = h.0; none_done = h.1.0; statuses = h.1.1 }) (λ h. (h.some, (h.none_done, h.statuses)))
        (both (where_so (is_empty (units_met ns op)) (inr (λ h. h))) (both (is_empty parts) (statuses told (unstarted_of op.deed))))

    ending : IsDecided (HasEnding ns op parts told)
    ending = either meets_none (either none_done ends_at_last)

  shape_of : (op : Operation) (parts : List Part) (told : Statuses) (read : Option (List ℕ)) → IsDecided (HasShapeOf ns op parts told read)
  shape_of op parts told read =
      with_it (λ h. record { ending = h.0; payload = h.1 }) (λ h. (h.ending, h.payload))
      (both (ending op parts told) (each_way (some_read read) (both (is_true (is_read op.deed)) (success told))))

  shape_of_refusal : (refusal : Statuses) (parts : List Part) (told : Statuses) (read : Option (List ℕ))
      → IsDecided (HasShapeOfRefusal refusal parts told read)
  shape_of_refusal refusal parts told read =
      with_it (λ h. record { none_done = h.0; statuses = h.1.0; payload = h.1.1 }) (λ h. (h.none_done, (h.statuses, h.payload)))
      (both (is_empty parts) (both (statuses told refusal) (payloads read None)))

  by_plan : (refused : Option Statuses) (stands : Option Operation) (parts : List Part) (told : Statuses) (read : Option (List ℕ))
      → IsDecided (MatchOption refused (IsSomeAnd stands (λ op. HasShapeOf ns op parts told read))
      (λ refusal. HasShapeOfRefusal refusal parts told read))
  by_plan (Some refusal) stands parts told read = shape_of_refusal refusal parts told read
  by_plan None (Some op) parts told read = shape_of op parts told read
  by_plan None None parts told read = inr (λ h. h)

  pub outcome_shape : (job : Job) (parts : List Part) (told : Statuses) (read : Option (List ℕ))
      → IsDecided (HasOutcomeShape ns job parts told read)
  outcome_shape job parts told read = by_plan (refusal_of ns job) (job_operation_of ns job) parts told read
