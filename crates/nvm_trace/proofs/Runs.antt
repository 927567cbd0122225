-- Each unit of a lawful record has a linearization, in the order of the moments that its steps have.
use Rattle.std.proofs.Common.{◌≡◌, ℕ, zero, suc, ◌<◌, ◌≤◌, List, [], ◌∷◌, length, take, get_or, map, filter, cond, All, Contains, Bool, true, false, IsPermutation, refl, sym, ap, subst, ◌∙◌, inl, inr, arith}
use Rattle.std.proofs.lemmas.Bool.{cases_Bool}
use Rattle.std.proofs.lemmas.List.Elements.{All-nil, All-cons, All-head, All-tail, All-weaker}
use Rattle.std.proofs.lemmas.List.Sorted.{IsPermutation-map, All-permutation, Contains-permutation}
use mathlib.Core.Option.{some-injective}
use Rattle.nvm_record.specs.Lists.{IsAt}
use Rattle.nvm_geometry.specs.Boundaries.{units_of}
use Rattle.nvm_plan.specs.declared.part.PartResult.{PartResult}
use Rattle.nvm_plan.specs.declared.part.PartResult.TheVariants.{Done}
use Rattle.nvm_store.specs.HistoryEntry.{HistoryEntry}
use Rattle.nvm_audit.specs.LawfulRecord.{IsLawfulRecord}
use Rattle.nvm_audit.specs.RecordedPart.{RecordedPart, parts_in_unit}
use Rattle.nvm_audit.specs.RecordView.{RecordView}
use Rattle.nvm_trace.specs.declared.traced_job.TracedJob.{TracedJob}
use Rattle.nvm_trace.specs.Linearization.{TakenStep, IsInTime, is_step, IsLinearization, IsAtMoment}
use Rattle.nvm_trace.specs.Moments.{HaveMoments}
use Rattle.nvm_trace.specs.Order.{Precedes}
use Rattle.nvm_trace.specs.Steps.{times_of, steps_of}
use Rattle.nvm_trace.proofs.Places.{none_stands, contained, some_there, in_filter}
use Rattle.nvm_trace.proofs.RightSteps.{Laws, rests_there, right, made_apart, each_made}
use Rattle.nvm_trace.proofs.Sorting.{Pairwise, sorted, never_falls}
use Rattle.nvm_trace.proofs.UnitParts.{parts_come, part_is_shown, step_shown_by, the_step}
use Rattle.nvm_trace.proofs.Walk.{made_by, NotAfter, MadeApart, apart_back, not_after_order, IsRight, MakeEntry, walk}

out_of_map : {A B : Type 0} (f : A → B) (xs : List A) (i : ℕ) (y : B) → IsAt (map f xs) i y → (x : A) × IsAt xs i x × (f x ≡ y)
out_of_map f [] i y at = absurd (none_stands i y at)
out_of_map f (x ∷ xs) zero y at = (x, refl, some-injective (f x) y at)
out_of_map f (x ∷ xs) (suc i) y at = out_of_map f xs i y at

module _ (laws : Laws) (jobs : List TracedJob) (r : RecordView) (lawful : IsLawfulRecord r) (moments : HaveMoments (steps_of jobs r.done))
    (unit : ℕ) (history : List HistoryEntry) (there : IsAt r.units unit history) where
  abbrev parts : List RecordedPart
  parts = parts_in_unit unit r.done

  -- what is known of a step
  record IsKnown (s : TakenStep) : Type 0 where
    in_time : IsInTime jobs r s
    at_moment : s.moment ≡ moments.moment (step_shown_by jobs s.part)
    is : is_step s.part.part.result ≡ true
    shown : Contains (steps_of jobs r.done) (step_shown_by jobs s.part)
    unit_is : s.part.part.unit ≡ unit
    is_right : IsRight r.namespace history s

  record Taking (k : ℕ) (p : RecordedPart) : Type 0 where
    taken : TakenStep
    part_is : taken.part ≡ p
    known : IsKnown taken

  -- the step that a part is
  taking : (k : ℕ) (p : RecordedPart) → IsAt parts k p → is_step p.part.result ≡ true → Taking k p
  taking k p at is =
      let come = parts_come unit r.done k p at in
      let shown = part_is_shown jobs r.done p come.0.shown is in
      let step = step_shown_by jobs p in
      let moment = moments.moment step in
      let rests = rests_there laws r lawful unit history there k p at in
      record {
        taken = record { part = p; whole = rests.whole; moment = moment };
        part_is = refl;
        known =
            record {
              in_time = record {
                does = rests.does;
                after_beginning = moments.after_beginning step shown;
                before_end = moments.before_end step shown;
              };
              at_moment = refl;
              is = is;
              shown = shown;
              unit_is = come.1;
              is_right = right laws r lawful unit history there k p at is moment;
            };
      }

  abbrev StandsIn : List RecordedPart → RecordedPart → Type 0
  StandsIn ps p = (i : ℕ) × IsAt ps i p

  -- the steps that some of the unit's parts are, in their order
  record Built (ps : List RecordedPart) : Type 0 where
    steps : List TakenStep
    are : map (λ s. s.part) steps ≡ filter (λ p. is_step p.part.result) ps
    from : All (λ s. StandsIn ps s.part) steps
    known : All IsKnown steps
    apart : Pairwise MadeApart steps

  abbrev AreApart : List RecordedPart → Type 0
  AreApart ps =
      (i j : ℕ) (p q : RecordedPart) → IsAt ps i p → IsAt ps j q → i < j → made_by p.part.result ≡ true
      → made_by q.part.result ≡ true → ¬ (p.part.point ≡ q.part.point)

  skipped : (p : RecordedPart) (ps : List RecordedPart) → is_step p.part.result ≡ false → Built ps → Built (p ∷ ps)
  skipped p ps not rest =
      record {
        steps = rest.steps;
        are =
            rest.are
            ∙ sym (ap (λ (b : Bool). cond b (p ∷ filter (λ q. is_step q.part.result) ps) (filter (λ q. is_step q.part.result) ps)) not);
        from =
            All-weaker (λ s. StandsIn ps s.part) (λ s. StandsIn (p ∷ ps) s.part) (λ s at. (suc at.0, at.1)) rest.steps rest.from;
        known = rest.known;
        apart = rest.apart;
      }

  one_more : (k : ℕ) (p : RecordedPart) (ps : List RecordedPart) → is_step p.part.result ≡ true → Taking k p → AreApart (p ∷ ps)
      → Built ps → Built (p ∷ ps)
  one_more k p ps is take far rest =
      record {
        steps = take.taken ∷ rest.steps;
        are =
            ap (λ (l : List RecordedPart). take.taken.part ∷ l) rest.are
            ∙ ap (λ (q : RecordedPart). q ∷ filter (λ x. is_step x.part.result) ps) take.part_is
            ∙ sym (ap (λ (b : Bool). cond b (p ∷ filter (λ q. is_step q.part.result) ps) (filter (λ q. is_step q.part.result) ps)) is);
        from =
            All-cons (λ s. StandsIn (p ∷ ps) s.part) take.taken rest.steps
            (0, subst (λ (q : RecordedPart). IsAt (p ∷ ps) 0 q) (sym take.part_is) refl)
            (All-weaker (λ s. StandsIn ps s.part) (λ s. StandsIn (p ∷ ps) s.part) (λ s at. (suc at.0, at.1)) rest.steps rest.from);
        known = All-cons IsKnown take.taken rest.steps take.known rest.known;
        apart = (
          All-weaker (λ s. StandsIn ps s.part) (MadeApart take.taken)
              (λ s at.
              far 0 (suc at.0) take.taken.part s.part
              (subst (λ (q : RecordedPart). IsAt (p ∷ ps) 0 q) (sym take.part_is) refl) at.1 (omega arith)) rest.steps rest.from,
          rest.apart,
        );
      }

  build : (ps : List RecordedPart) → ((i : ℕ) (p : RecordedPart) → IsAt ps i p → StandsIn parts p) → AreApart ps → Built ps
  build [] each far = record {
    steps = [];
    are = refl;
    from = All-nil (λ s. StandsIn [] s.part);
    known = All-nil IsKnown;
    apart = tt;
  }
  build (p ∷ ps) each far =
      let rest = build ps (λ i q at. each (suc i) q at) (λ i j a b x y low. far (suc i) (suc j) a b x y (omega (arith, low))) in
      let here = each 0 p refl in
      elim (cases_Bool (is_step p.part.result)) [
        | inl is ↦ one_more here.0 p ps is (taking here.0 p here.1 is) far rest
        | inr not ↦ skipped p ps not rest
      ]

  moments_rise : (s t : TakenStep) → IsKnown s → IsKnown t → NotAfter s t → s.moment ≤ t.moment
  moments_rise s t first second (inl less) =
      let before : Precedes (step_shown_by jobs s.part) (step_shown_by jobs t.part) =
      record { unit = first.unit_is ∙ sym second.unit_is; level = less } in
      let le = moments.in_order (step_shown_by jobs s.part) (step_shown_by jobs t.part) first.shown second.shown before in
      let at = first.at_moment in
      let also = second.at_moment in
      omega (arith, le, at, also)
  moments_rise s t first second (inr same) = same.1

  all_rise : (steps : List TakenStep) → Pairwise NotAfter steps → All IsKnown steps → Pairwise (λ s t. s.moment ≤ t.moment) steps
  all_rise [] order known = tt
  all_rise (s ∷ steps) order known = (
    λ k d low.
        moments_rise s (get_or steps k d) (All-head IsKnown s steps known) (All-tail IsKnown s steps known k d low) (order.0 k d low),
    all_rise steps order.1 (All-tail IsKnown s steps known),
  )

  is_step_done : (result : PartResult) → result ≡ Done → is_step result ≡ true
  is_step_done result is = ap is_step is

  pub runs : (steps : List TakenStep) × IsLinearization jobs r unit steps × All (IsAtMoment jobs moments.moment) steps
  runs =
      let built = build parts (λ i p at. (i, at)) (made_apart laws r lawful unit history there) in
      let list = sorted NotAfter MadeApart not_after_order apart_back built.steps built.apart in
      let known = All-permutation IsKnown built.steps list.ys list.same built.known in
      let each_entry : (k : ℕ) → 0 ≤ k → k < length history → MakeEntry r.namespace history list.ys k =
      λ k from low.
      let entry = some_there history k low in
      let maker = each_made laws r lawful unit history there k entry.0 entry.1 in
      let p = maker.1 in
      let kept = in_filter (λ (q : RecordedPart). is_step q.part.result) parts maker.0 p maker.2 (is_step_done p.part.result maker.3) in
      let found = out_of_map (λ (s : TakenStep). s.part) built.steps kept.0 p
      (subst (λ (l : List RecordedPart). IsAt l kept.0 p) (sym built.are) kept.1) in (
        found.0,
        Contains-permutation built.steps list.ys found.0 list.same (contained built.steps kept.0 found.0 found.1),
        ap (λ (q : RecordedPart). made_by q.part.result) found.2 ∙ ap made_by maker.3,
        ap (λ (q : RecordedPart). q.part.point) found.2 ∙ maker.4,
      ) in (
        list.ys,
        record {
          whole =
              subst (λ (l : List RecordedPart). IsPermutation l (map (λ (s : TakenStep). s.part) list.ys)) built.are
              (IsPermutation-map (λ (s : TakenStep). s.part) built.steps list.ys list.same);
          in_time = All-weaker IsKnown (IsInTime jobs r) (λ s is. is.in_time) list.ys known;
          in_order = never_falls (λ s. s.moment) list.ys (all_rise list.ys list.in_order known);
          replies =
              walk r.namespace history 0 list.ys list.in_order list.all_apart
              (All-weaker IsKnown (IsRight r.namespace history) (λ s is. is.is_right) list.ys known) (λ k d low. omega arith) each_entry;
        },
        All-weaker IsKnown (IsAtMoment jobs moments.moment)
            (λ s is step has.
            let part = s.part.part in
            is.at_moment
            ∙ ap moments.moment (the_step (times_of jobs s.part.done.job) s.part.done.job part part.result is.is step has)) list.ys known,
      )

-- Each unit of the namespace has a history.
pub unit_there : (r : RecordView) → IsLawfulRecord r → (unit : ℕ) → unit < units_of r.namespace
    → (history : List HistoryEntry) × IsAt r.units unit history
unit_there r lawful unit low = let all = lawful.complete.all_units in some_there r.units unit (omega (arith, low, all))
