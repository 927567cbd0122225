-- Whether what was done of a job ends as an outcome does.
use Rattle.std.proofs.Common.{◌≡◌, ◌↔◌, ℕ, ◌+◌, List, [], ◌∷◌, ◌++◌, Bool, true, false, not, IsTrue, length, take, get_or, Option, Some, None, IsSome, refl, sym, ap, subst, ◌∙◌, inl, inr, arith}
use Rattle.std.proofs.Math.ListN.{drop_of_length-le}
use Rattle.std.proofs.Math.Seq.{take-append_seam, get_or-append_seam}
use Rattle.std.proofs.lemmas.List.{take-append-drop, length_push}
use Rattle.std.specs.List.{AllByRecursion}
use Rattle.std.specs.Iterator.{YieldsFirst}
use Rattle.std.specs.Option.{is_some}
use mathlib.Core.Bool.{beq, true≢false}
use Rattle.nvm_record.specs.declared.status.Statuses.{Statuses}
use Rattle.nvm_record.specs.Status.{IsSuccess}
use Rattle.nvm_record.specs.Step.{Operation}
use Rattle.nvm_geometry.specs.Namespace.{Namespace}
use Rattle.nvm_geometry.specs.Parts.{units_met}
use Rattle.nvm_plan.specs.declared.job.Job.{Job}
use Rattle.nvm_plan.specs.declared.part.Part.{Part}
use Rattle.nvm_plan.specs.Reply.{can_have, GivesData}
use Rattle.nvm_plan.specs.Shape.{goes_on, MayShow, EndsAtLast, HasEnding, HasShapeOf, HasOutcomeShape}
use Rattle.nvm_audit.proofs.Fronts.{drop_one, units_of_parts}

module _ {A : Type 0} (xs : List A) (n : ℕ) (d : A) (long : n + 1 ≡ length xs) where
  pub front_and_last : xs ≡ take n xs ++ get_or xs n d ∷ []
  front_and_last =
      sym (take-append-drop n xs)
      ∙ ap (λ (ys : List A). take n xs ++ ys)
      (drop_one xs n d (omega (arith, long)) ∙ ap (λ (ys : List A). get_or xs n d ∷ ys) (drop_of_length-le xs (omega (arith, long))))

  module _ (before : List A) (last : A) (are : xs ≡ before ++ last ∷ []) where
    as_long : n ≡ length before
    as_long = let same = ap length are ∙ length_push before last in omega (arith, same, long)

    pub front_is : take n xs ≡ before
    front_is =
        ap (λ (ys : List A). take n ys) are ∙ ap (λ (k : ℕ). take k (before ++ last ∷ [])) as_long
        ∙ take-append_seam before (last ∷ [])

    pub last_is : get_or xs n d ≡ last
    last_is =
        ap (λ (ys : List A). get_or ys n d) are ∙ ap (λ (k : ℕ). get_or (before ++ last ∷ []) k d) as_long
        ∙ get_or-append_seam before last [] d

module _ (ns : Namespace) (op : Operation) (parts : List Part) (told : Statuses) (n : ℕ) (d : Part) (long : n + 1 ≡ length parts) where
  module _ (rest : List ℕ) (first : units_of_parts parts ++ rest ≡ units_met ns op) where
    pub ends : AllByRecursion (λ part. IsTrue (can_have op.deed part.result)) parts
        → AllByRecursion (λ part. IsTrue (goes_on part.result)) (take n parts)
        → MayShow op.deed (get_or parts n d).result told → (IsSuccess told → rest ≡ []) → EndsAtLast ns op parts told
    ends results going_on statuses whole = record {
      before = take n parts;
      last = get_or parts n d;
      left = rest;
      are = front_and_last parts n d long;
      units = first;
      results = results;
      going_on = going_on;
      statuses = statuses;
      whole = whole;
    }

  module _ (e : EndsAtLast ns op parts told) where
    pub front_goes_on : AllByRecursion (λ part. IsTrue (goes_on part.result)) (take n parts)
    front_goes_on =
        subst (AllByRecursion (λ part. IsTrue (goes_on part.result))) (sym (front_is parts n d long e.before e.last e.are)) e.going_on

    pub last_shows : MayShow op.deed (get_or parts n d).result told
    last_shows =
        subst (λ (part : Part). MayShow op.deed part.result told) (sym (last_is parts n d long e.before e.last e.are)) e.statuses

-- Parts that there are end with the last of them.
pub ends_with_parts : (ns : Namespace) (op : Operation) (parts : List Part) (told : Statuses) → ¬ (length parts ≡ 0)
    → EndsAtLast ns op parts told ↔ HasEnding ns op parts told
ends_with_parts ns op parts told some = (λ e. inr (inr e), back)
  where
    back : HasEnding ns op parts told → EndsAtLast ns op parts told
    back (inl none) = absurd (some (ap length none.none_done))
    back (inr (inl none)) = absurd (some (ap length none.none_done))
    back (inr (inr e)) = e

-- Two tests give the same exactly where what they test is the same.
pub same_tests : (a b : Bool) {A B : Type 0} → IsTrue a ↔ A → IsTrue b ↔ B → IsTrue (beq a b) ↔ (A ↔ B)
same_tests true true tests others = (λ e. (λ x. others.0 refl, λ y. tests.0 refl), λ s. refl)
same_tests true false tests others =
    (λ e. absurd (true≢false (sym e)), λ s. absurd (true≢false (sym (others.1 (s.0 (tests.0 refl))))))
same_tests false true tests others =
    (λ e. absurd (true≢false (sym e)), λ s. absurd (true≢false (sym (tests.1 (s.1 (others.0 refl))))))
same_tests false false tests others =
    (λ e. (λ x. absurd (true≢false (sym (tests.1 x))), λ y. absurd (true≢false (sym (others.1 y)))), λ s. refl)

module _ (ns : Namespace) (job : Job) (op : Operation) (parts : List Part) (told : Statuses) (read : Option (List ℕ))
    (shaped : HasOutcomeShape ns job parts told read ↔ HasShapeOf ns op parts told read) (ending : HasEnding ns op parts told) where
  -- What ends as an outcome has its shape where there is data exactly where there should be.
  pub shape_by_data : (has gives : Bool) → has ≡ is_some read → IsTrue gives ↔ GivesData op.deed told
      → IsTrue (beq has gives) ↔ HasOutcomeShape ns job parts told read
  shape_by_data has gives has_is gives_is =
      let same = same_tests has gives {A = IsSome read} (λ e. sym has_is ∙ e, λ e. has_is ∙ e) gives_is in (
        λ e. shaped.1 (record { ending = ending; payload = same.0 e }),
        λ s. same.1 (shaped.0 s).payload,
      )

pub the_one : {A : Type 0} → (o : Option A) → IsSome o → (x : A) × (o ≡ Some x)
the_one None e = absurd (true≢false (sym e))
the_one (Some x) e = (x, refl)

-- An iterator has come to its end exactly where nothing was left.
pub none_yielded : (units rest : List ℕ) (next : Option ℕ) → YieldsFirst (λ (us : List ℕ). us) units next rest → (ended : Bool)
    → is_some next ≡ not ended → IsTrue ended ↔ (units ≡ [])
none_yielded units rest None steps true is = (λ e. steps.0, λ none. refl)
none_yielded units rest None steps false is = absurd (true≢false (sym is))
none_yielded units rest (Some unit) steps true is = absurd (true≢false is)
none_yielded units rest (Some unit) steps false is = (
  λ e. absurd (true≢false (sym e)),
  λ none. let long = ap length (sym steps ∙ none) in absurd (omega (arith, long)),
)
