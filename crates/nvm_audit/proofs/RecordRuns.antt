-- A unit of a lawful record has a placed run, and that is a run of the step.
use Rattle.std.proofs.Common.{◌+◌, map, cond, ◌≡◌, ◌⊎◌, ℕ, zero, suc, ◌<◌, ◌≤◌, List, [], ◌∷◌, length, Bool, true, false, nat_eq, Some, IsTrue, All, refl, sym, ap, subst, ◌∙◌, inl, inr, arith}
use Rattle.std.proofs.lemmas.Bool.Decides.{Decides-eqb}
use Rattle.std.proofs.lemmas.List.Elements.{All-nil, All-cons}
use mathlib.Core.Option.{some-injective}
use Rattle.nvm_record.specs.Deeds.{IsLook, IsFailedPair}
use Rattle.nvm_record.specs.Lists.{IsAt}
use Rattle.nvm_record.specs.Medium.{zero_medium}
use Rattle.nvm_record.specs.Step.{Operation, statuses_of, data_of}
use Rattle.nvm_geometry.specs.Namespace.{Namespace}
use Rattle.nvm_geometry.specs.Parts.{part_in}
use Rattle.nvm_plan.specs.declared.job.Job.{Job}
use Rattle.nvm_plan.specs.declared.part.PartResult.{PartResult}
use Rattle.nvm_plan.specs.declared.part.PartResult.TheVariants.{Done, Failed, Looked, NoMemory, Full}
use Rattle.nvm_plan.specs.Fits.{FitsNamespace}
use Rattle.nvm_plan.specs.JobPart.{job_part_in}
use Rattle.nvm_plan.specs.Reply.{can_have}
use Rattle.nvm_plan.specs.Shape.{HasOutcomeShape}
use Rattle.nvm_plan.specs.UnitPlace.{IsUnitPlace}
use Rattle.nvm_store.specs.declared.place.Place.{Place}
use Rattle.nvm_store.specs.Call.{Call, IsCallOn}
use Rattle.nvm_store.specs.History.{IsLawfulHistory}
use Rattle.nvm_store.specs.HistoryEntry.{HistoryEntry}
use Rattle.nvm_store.specs.PassOrder.{NeverGoBack as CallsNeverGoBack, StepsNeverGoBack, entries_of_pass, steps_by}
use Rattle.nvm_store.specs.Place.{IsCovered}
use Rattle.nvm_store.specs.PlacedRun.{RunStep, changes, answers, entries_in, calls_in, IsPlacedRun, IsRunFrom, calls_by, placed_run}
use Rattle.nvm_store.specs.Point.{point, RestsOn}
use Rattle.nvm_audit.specs.LawfulRecord.{IsLawfulRecord}
use Rattle.nvm_audit.specs.LawfulUnit.{IsLawfulUnit}
use Rattle.nvm_audit.specs.RecordedCalls.{IsCallOfPart, BeginsWithStep, AreStepsOf, parts_by, IsPlacedRunOf}
use Rattle.nvm_audit.specs.RecordedPart.{RecordedPart, parts_in_unit, told_of}
use Rattle.nvm_audit.specs.RecordView.{RecordView}
use Rattle.nvm_audit.specs.PointOrder.{least_after}
use Rattle.nvm_audit.specs.Resting.{HasRightStatus, IsRightAtItsPoint}
use Rattle.nvm_audit.proofs.OneActs.{KeepsLooks, HasPart, ShapesByPlan}
use Rattle.nvm_audit.proofs.PartsFrom.{comes_from}
use Rattle.nvm_audit.proofs.InOrder.{Rise, listed}
use Rattle.nvm_audit.proofs.Standing.{Stands, none_stands, one_there, in_filter, in_filter_back, filter_order, all_at}
use Rattle.nvm_audit.proofs.Told.{IsPartOf, part_of_shape}
use Rattle.nvm_audit.proofs.Unrefused.{unrefused}

-- What the laws below say that are used here.
abbrev pub CoversParts : Type 0
CoversParts =
    (ns : Namespace) (job : Job) (unit : ℕ) (place : Place) (part : Operation) → FitsNamespace ns job
    → job_part_in ns job unit ≡ Some part → IsUnitPlace ns unit place → IsCovered place part

abbrev pub HasPlacedRun : Type 0
HasPlacedRun =
    (history : List HistoryEntry) (calls : List Call) → ((pass : ℕ) → CallsNeverGoBack 0 (length history) (calls_by pass calls))
    → IsPlacedRun history calls (placed_run history calls)

abbrev pub RunsStep : Type 0
RunsStep =
    (place : Place) (history : List HistoryEntry) (calls : List Call) (run : List RunStep) → IsLawfulHistory place history
    → All (IsCallOn place history) calls → IsPlacedRun history calls run → IsRunFrom place.size (zero_medium place.size) run

abbrev pub KeepsOrder : Type 0
KeepsOrder =
    (history : List HistoryEntry) (calls : List Call) (run own : List RunStep) (pass : ℕ) → IsPlacedRun history calls run
    → StepsNeverGoBack history 0 own → entries_in own ≡ entries_of_pass pass history → calls_in own ≡ calls_by pass calls
    → steps_by pass run ≡ own

-- a part that ended so rests on its point without an entry there
abbrev pub is_call : PartResult → Bool
is_call Done = false
is_call Failed = true
is_call Looked = true
is_call NoMemory = false
is_call Full = false

lower : (low from high : ℕ) (calls : List Call) → low ≤ from → CallsNeverGoBack from high calls → CallsNeverGoBack low high calls
lower low from high [] le h = tt
lower low from high (c ∷ cs) le h = let first = h.0 in (omega (arith, le, first), h.1, h.2)

-- The calls of steps that never go back never do.
calls_of_steps : (history : List HistoryEntry) (low : ℕ) (steps : List RunStep) → StepsNeverGoBack history low steps
    → CallsNeverGoBack low (length history) (calls_in steps)
calls_of_steps history low [] h = tt
calls_of_steps history low (changes entry ∷ steps) h =
    let first = h.1 in
    lower low (h.0 + 1) (length history) (calls_in steps) (omega (arith, first)) (calls_of_steps history (h.0 + 1) steps h.3)
calls_of_steps history low (answers call ∷ steps) h = (h.0, h.1, calls_of_steps history call.point steps h.2)

-- The calls of one pass's steps are the pass's calls.
calls_by_steps : (w : ℕ) (steps : List RunStep) → calls_in (steps_by w steps) ≡ calls_by w (calls_in steps)
calls_by_steps w [] = refl
calls_by_steps w (changes entry ∷ steps) = by (nat_eq entry.pass w) (calls_by_steps w steps)
  where
    by : (b : Bool) → calls_in (steps_by w steps) ≡ calls_by w (calls_in steps)
        → calls_in (cond b (changes entry ∷ steps_by w steps) (steps_by w steps)) ≡ calls_by w (calls_in steps)
    by true h = h
    by false h = h
calls_by_steps w (answers call ∷ steps) = by (nat_eq call.pass w) (calls_by_steps w steps)
  where
    by : (b : Bool) → calls_in (steps_by w steps) ≡ calls_by w (calls_in steps)
        → calls_in (cond b (answers call ∷ steps_by w steps) (steps_by w steps)) ≡ cond b (call ∷ calls_by w (calls_in steps)) (calls_by w (calls_in steps))
    by true h = ap (λ (l : List Call). call ∷ l) h
    by false h = h

module _ (ns : Namespace) (jobs : List Job) (history : List HistoryEntry) where
  -- A step of another worker's part goes, and one of the worker's own stays.
  kept : (w : ℕ) (p : RecordedPart) (rest more : List RunStep → Type 0) → ((l : List RunStep) → rest l → more (steps_by w l))
      → nat_eq p.worker w ≡ true → (result : PartResult) (steps : List RunStep) → BeginsWithStep ns jobs history p rest result steps
      → BeginsWithStep ns jobs history p more result (steps_by w steps)
  kept w p rest more go e Done steps h =
      let own : nat_eq h.0.pass w ≡ true = ap (λ n. nat_eq n w) h.2.worker ∙ e in
      (h.0, h.1, h.2, steps_by w h.3, ap (steps_by w) h.4 ∙ ap (λ (b : Bool). cond b (changes h.0 ∷ steps_by w h.3) (steps_by w h.3)) own, go h.3 h.5)
  kept w p rest more go e Failed steps h =
      let own : nat_eq h.0.pass w ≡ true = ap (λ (c : Call). nat_eq c.pass w) h.1.is ∙ e in
      (h.0, h.1, steps_by w h.2, ap (steps_by w) h.3 ∙ ap (λ (b : Bool). cond b (answers h.0 ∷ steps_by w h.2) (steps_by w h.2)) own, go h.2 h.4)
  kept w p rest more go e Looked steps h =
      let own : nat_eq h.0.pass w ≡ true = ap (λ (c : Call). nat_eq c.pass w) h.1.is ∙ e in
      (h.0, h.1, steps_by w h.2, ap (steps_by w) h.3 ∙ ap (λ (b : Bool). cond b (answers h.0 ∷ steps_by w h.2) (steps_by w h.2)) own, go h.2 h.4)
  kept w p rest more go e NoMemory steps h = go steps h
  kept w p rest more go e Full steps h = go steps h

  dropped : (w : ℕ) (p : RecordedPart) (rest more : List RunStep → Type 0) → ((l : List RunStep) → rest l → more (steps_by w l))
      → nat_eq p.worker w ≡ false → (result : PartResult) (steps : List RunStep) → BeginsWithStep ns jobs history p rest result steps
      → more (steps_by w steps)
  dropped w p rest more go e Done steps h =
      let other : nat_eq h.0.pass w ≡ false = ap (λ n. nat_eq n w) h.2.worker ∙ e in
      subst more (sym (ap (steps_by w) h.4 ∙ ap (λ (b : Bool). cond b (changes h.0 ∷ steps_by w h.3) (steps_by w h.3)) other)) (go h.3 h.5)
  dropped w p rest more go e Failed steps h =
      let other : nat_eq h.0.pass w ≡ false = ap (λ (c : Call). nat_eq c.pass w) h.1.is ∙ e in
      subst more (sym (ap (steps_by w) h.3 ∙ ap (λ (b : Bool). cond b (answers h.0 ∷ steps_by w h.2) (steps_by w h.2)) other)) (go h.2 h.4)
  dropped w p rest more go e Looked steps h =
      let other : nat_eq h.0.pass w ≡ false = ap (λ (c : Call). nat_eq c.pass w) h.1.is ∙ e in
      subst more (sym (ap (steps_by w) h.3 ∙ ap (λ (b : Bool). cond b (answers h.0 ∷ steps_by w h.2) (steps_by w h.2)) other)) (go h.2 h.4)
  dropped w p rest more go e NoMemory steps h = go steps h
  dropped w p rest more go e Full steps h = go steps h

  steps_of_worker : (w : ℕ) (ps : List RecordedPart) (steps : List RunStep) → AreStepsOf ns jobs history ps steps
      → AreStepsOf ns jobs history (parts_by w ps) (steps_by w steps)
  steps_of_worker w [] steps h = ap (steps_by w) h
  steps_of_worker w (p ∷ ps) steps h = by (λ l r. steps_of_worker w ps l r) (nat_eq p.worker w) refl
    where
      by : ((l : List RunStep) → AreStepsOf ns jobs history ps l → AreStepsOf ns jobs history (parts_by w ps) (steps_by w l)) → (b : Bool)
          → nat_eq p.worker w ≡ b → AreStepsOf ns jobs history (cond b (p ∷ parts_by w ps) (parts_by w ps)) (steps_by w steps)
      by go true e = kept w p (AreStepsOf ns jobs history ps) (AreStepsOf ns jobs history (parts_by w ps)) go e p.part.result steps h
      by go false e = dropped w p (AreStepsOf ns jobs history ps) (AreStepsOf ns jobs history (parts_by w ps)) go e p.part.result steps h

  -- what is known of a worker's steps
  record Sound (w low : ℕ) (ps : List RecordedPart) (steps : List RunStep) : Type 0 where
    never : StepsNeverGoBack history low steps
    pairs : List (ℕ × HistoryEntry)
    are : map (λ (q : ℕ × HistoryEntry). q.1) pairs ≡ entries_in steps
    rise : Rise low pairs
    each : (k : ℕ) (q : ℕ × HistoryEntry) → IsAt pairs k q → IsAt history q.0 q.1 × (q.1.pass ≡ w)
    all : (k : ℕ) (p : RecordedPart) → IsAt ps k p → p.part.result ≡ Done → (entry : HistoryEntry) × IsAt history p.part.point entry × Stands pairs (p.part.point, entry)

  lower_rise : (low from : ℕ) (pairs : List (ℕ × HistoryEntry)) → low ≤ from → Rise from pairs → Rise low pairs
  lower_rise low from [] le h = tt
  lower_rise low from (q ∷ qs) le h = let first = h.0 in (omega (arith, le, first), h.1)

  -- a part without an entry adds no pair
  passed : (w low from : ℕ) (p : RecordedPart) (ps : List RecordedPart) (left steps : List RunStep) → ¬ (p.part.result ≡ Done) → low ≤ from
      → entries_in left ≡ entries_in steps → StepsNeverGoBack history low steps → Sound w from ps left → Sound w low (p ∷ ps) steps
  passed w low from p ps left steps none le same never s =
      record {
        never = never;
        pairs = s.pairs;
        are = s.are ∙ same;
        rise = lower_rise low from s.pairs le s.rise;
        each = s.each;
        all = after;
      }
    where
      after : (k : ℕ) (q : RecordedPart) → IsAt (p ∷ ps) k q → q.part.result ≡ Done
          → (entry : HistoryEntry) × IsAt history q.part.point entry × Stands s.pairs (q.part.point, entry)
      after zero q at done = absurd (none (ap (λ (x : RecordedPart). x.part.result) (some-injective p q at) ∙ done))
      after (suc k) q at done = s.all k q at done

  step : (w low : ℕ) (p : RecordedPart) (ps : List RecordedPart) → p.worker ≡ w → p.part.point ≤ length history → low ≤ p.part.point
      → ((i : ℕ) (q : RecordedPart) → IsAt ps i q → low ≤ q.part.point)
      → ((from : ℕ) → ((i : ℕ) (q : RecordedPart) → IsAt ps i q → from ≤ q.part.point) → (l : List RunStep) → AreStepsOf ns jobs history ps l → Sound w from ps l)
      → (result : PartResult) → p.part.result ≡ result → ((i : ℕ) (q : RecordedPart) → IsAt ps i q → least_after p.part result ≤ q.part.point)
      → (steps : List RunStep) → BeginsWithStep ns jobs history p (AreStepsOf ns jobs history ps) result steps → Sound w low (p ∷ ps) steps
  step w low p ps own within le lows rec Done e tail steps h =
      let s = rec (p.part.point + 1) tail h.3 h.5 in
      record {
        never = subst (StepsNeverGoBack history low) (sym h.4) (p.part.point, le, h.1, s.never);
        pairs = (p.part.point, h.0) ∷ s.pairs;
        are = ap (λ (l : List HistoryEntry). h.0 ∷ l) s.are ∙ sym (ap entries_in h.4);
        rise = (le, s.rise);
        each = each s.pairs s.each;
        all = all s.pairs s.all;
      }
    where
      each : (pairs : List (ℕ × HistoryEntry)) → ((k : ℕ) (q : ℕ × HistoryEntry) → IsAt pairs k q → IsAt history q.0 q.1 × (q.1.pass ≡ w))
          → (k : ℕ) (q : ℕ × HistoryEntry) → IsAt ((p.part.point, h.0) ∷ pairs) k q → IsAt history q.0 q.1 × (q.1.pass ≡ w)
      each pairs rest zero q at =
          subst (λ (x : ℕ × HistoryEntry). IsAt history x.0 x.1 × (x.1.pass ≡ w)) (some-injective (p.part.point, h.0) q at) (h.1, h.2.worker ∙ own)
      each pairs rest (suc k) q at = rest k q at

      all : (pairs : List (ℕ × HistoryEntry))
          → ((k : ℕ) (q : RecordedPart) → IsAt ps k q → q.part.result ≡ Done → (entry : HistoryEntry) × IsAt history q.part.point entry × Stands pairs (q.part.point, entry))
          → (k : ℕ) (q : RecordedPart) → IsAt (p ∷ ps) k q → q.part.result ≡ Done
          → (entry : HistoryEntry) × IsAt history q.part.point entry × Stands ((p.part.point, h.0) ∷ pairs) (q.part.point, entry)
      all pairs rest zero q at done =
          subst (λ (x : RecordedPart). (entry : HistoryEntry) × IsAt history x.part.point entry × Stands ((p.part.point, h.0) ∷ pairs) (x.part.point, entry))
          (some-injective p q at) (h.0, h.1, (0, refl))
      all pairs rest (suc k) q at done = let found = rest k q at done in (found.0, found.1, (suc found.2.0, found.2.1))
  step w low p ps own within le lows rec Failed e tail steps h =
      let s = rec p.part.point tail h.2 h.4 in
      let at : p.part.point ≡ h.0.point = sym (ap (λ (c : Call). c.point) h.1.is) in
      passed w low p.part.point p ps h.2 steps (λ d. cc (e, d)) le (sym (ap entries_in h.3))
      (subst (StepsNeverGoBack history low) (sym h.3) (subst (λ n. (low ≤ n) × (n ≤ length history) × StepsNeverGoBack history n h.2) at (le, within, s.never))) s
  step w low p ps own within le lows rec Looked e tail steps h =
      let s = rec p.part.point tail h.2 h.4 in
      let at : p.part.point ≡ h.0.point = sym (ap (λ (c : Call). c.point) h.1.is) in
      passed w low p.part.point p ps h.2 steps (λ d. cc (e, d)) le (sym (ap entries_in h.3))
      (subst (StepsNeverGoBack history low) (sym h.3) (subst (λ n. (low ≤ n) × (n ≤ length history) × StepsNeverGoBack history n h.2) at (le, within, s.never))) s
  step w low p ps own within le lows rec NoMemory e tail steps h =
      let s = rec low lows steps h in passed w low low p ps steps steps (λ d. cc (e, d)) (omega arith) refl s.never s
  step w low p ps own within le lows rec Full e tail steps h =
      let s = rec low lows steps h in passed w low low p ps steps steps (λ d. cc (e, d)) (omega arith) refl s.never s

  sound : (w low : ℕ) (ps : List RecordedPart) → ((i : ℕ) (p : RecordedPart) → IsAt ps i p → (p.worker ≡ w) × (p.part.point ≤ length history) × (low ≤ p.part.point))
      → ((i j : ℕ) (p q : RecordedPart) → IsAt ps i p → IsAt ps j q → i < j → least_after p.part p.part.result ≤ q.part.point)
      → (steps : List RunStep) → AreStepsOf ns jobs history ps steps → Sound w low ps steps
  sound w low [] known order steps h =
      record {
        never = subst (StepsNeverGoBack history low) (sym h) tt;
        pairs = [];
        are = sym (ap entries_in h);
        rise = tt;
        each = λ k q at. absurd (none_stands k q at);
        all = λ k p at done. absurd (none_stands k p at);
      }
  sound w low (p ∷ ps) known order steps h =
      let here = known 0 p refl in
      step w low p ps here.0 here.1 here.2 (λ i q at. (known (suc i) q at).2)
      (λ from above l r.
      sound w from ps (λ i q at. ((known (suc i) q at).0, (known (suc i) q at).1, above i q at))
      (λ i j a b x y lt. order (suc i) (suc j) a b x y (omega (arith, lt))) l r)
      p.part.result refl (λ i q at. order 0 (suc i) p q refl at (omega arith)) steps h

-- A part that is a call was answered with what the step gives, and looks or fails.
ends : KeepsLooks → (ns : Namespace) (limit : ℕ) (history : List HistoryEntry) (whole : Operation) (p : RecordedPart) (result : PartResult)
    → is_call result ≡ true → HasRightStatus ns.block_size limit history (part_in ns whole p.part.unit) p result
    → IsTrue (can_have whole.deed result)
    → (told_of p ≡ statuses_of (part_in ns whole p.part.unit) (point ns.block_size history p.part.point))
    × (IsLook (part_in ns whole p.part.unit).deed
    ⊎ IsFailedPair (part_in ns whole p.part.unit) (point ns.block_size history p.part.point))
ends looks ns limit history whole p Done is right can = absurd (cc is)
ends looks ns limit history whole p Failed is right can = (right.1, inr right.0)
ends looks ns limit history whole p Looked is right can =
    (right, inl (subst (λ (b : Bool). IsTrue b) (sym (looks ns whole p.part.unit)) can))
ends looks ns limit history whole p NoMemory is right can = absurd (cc is)
ends looks ns limit history whole p Full is right can = absurd (cc is)

module _ (looks : KeepsLooks) (has_part : HasPart) (covers : CoversParts) (shapes : ShapesByPlan) (r : RecordView)
    (lawful : IsLawfulRecord r) (unit : ℕ) (history : List HistoryEntry) (there : IsAt r.units unit history) where
  abbrev pub parts : List RecordedPart
  parts = parts_in_unit unit r.done

  pub its : IsLawfulUnit r.namespace r.limit r.jobs unit history parts
  its = lawful.units unit history there

  -- It is a part of its job's operation.
  of_job : (k : ℕ) (p : RecordedPart) → IsAt parts k p → (rests : IsRightAtItsPoint r.namespace r.limit r.jobs history p)
      → IsPartOf r.namespace rests.whole p.part
  of_job k p at rests =
      let from = (comes_from unit r.done k p at).0 in
      let shown = lawful.shapes p.worker from.work from.job.0 p.done from.worker from.job.1 in
      let same : shown.job ≡ rests.does.job = one_there r.jobs p.done.job shown.job rests.does.job shown.its rests.does.its in
      let free = unrefused r.namespace rests.does.job rests.whole rests.does.ready in
      let shape = (shapes r.namespace rests.does.job rests.whole p.done.parts p.done.statuses p.done.payload free.0 free.1).0
      (subst (λ (j : Job). HasOutcomeShape r.namespace j p.done.parts p.done.statuses p.done.payload) same shown.shape) in
      part_of_shape r.namespace rests.whole p.done.parts p.done.statuses p.done.payload shape from.part.0 p.part from.part.1

  -- what is known of a part that is a call
  pub record IsGood (p : RecordedPart) : Type 0 where
    pub call : Call
    pub of : IsCallOfPart r.namespace r.jobs p call
    pub on : IsCallOn its.place history call

  pub good : (k : ℕ) (p : RecordedPart) → IsAt parts k p → is_call p.part.result ≡ true → IsGood p
  good k p at is =
      let rests = its.rests k p at in
      let n = p.part.point in
      let op = part_in r.namespace rests.whole p.part.unit in
      let size : its.place.size ≡ r.namespace.block_size = its.lies.size in
      let m = point r.namespace.block_size history n in
      let of_its = of_job k p at rests in
      let told = ends looks r.namespace r.limit history rests.whole p p.part.result is rests.status of_its.result in
      let free = unrefused r.namespace rests.does.job rests.whole rests.does.ready in
      let part = has_part r.namespace rests.does.job rests.whole p.part.unit free.0 free.1 of_its.met in
      let fits = all_at (FitsNamespace r.namespace) r.jobs lawful.complete.jobs p.done.job rests.does.job rests.does.its in
      let unit_is : p.part.unit ≡ unit = (comes_from unit r.done k p at).1 in
      let lies = subst (λ (u : ℕ). IsUnitPlace r.namespace u its.place) (sym unit_is) its.lies in
      record {
        call = record { pass = p.worker; job = p.done.job; point = n; operation = op; told = told_of p; read = data_of op m };
        of =
            record {
              whole = rests.whole;
              does = rests.does;
              read = data_of op m;
              is = refl;
              shown = rests.payload;
            };
        on =
            record {
              covered = covers r.namespace rests.does.job p.part.unit its.place op fits part lies;
              rests =
                  subst (λ (s : ℕ). RestsOn s history n op (told_of p) (data_of op m)) (sym size)
                  (record { within = rests.within; statuses = told.0; payload = refl });
              leaves =
                  subst (λ (s : ℕ). IsLook op.deed ⊎ IsFailedPair op (point s history n)) (sym size) told.1;
            };
      }

  record Built (ps : List RecordedPart) : Type 0 where
    steps : List RunStep
    of : AreStepsOf r.namespace r.jobs history ps steps
    on : All (IsCallOn its.place history) (calls_in steps)

  one_more : (k : ℕ) (p : RecordedPart) → IsAt parts k p → (ps : List RecordedPart) → Built ps → (result : PartResult) → p.part.result ≡ result
      → (steps : List RunStep) × BeginsWithStep r.namespace r.jobs history p (AreStepsOf r.namespace r.jobs history ps) result steps
      × All (IsCallOn its.place history) (calls_in steps)
  one_more k p at ps b Done e =
      let made = its.made k p at e in
      (changes made.0 ∷ b.steps, (made.0, made.1, made.2, b.steps, refl, b.of), b.on)
  one_more k p at ps b Failed e =
      let g = good k p at (ap is_call e) in
      (answers g.call ∷ b.steps, (g.call, g.of, b.steps, refl, b.of), All-cons (IsCallOn its.place history) g.call (calls_in b.steps) g.on b.on)
  one_more k p at ps b Looked e =
      let g = good k p at (ap is_call e) in
      (answers g.call ∷ b.steps, (g.call, g.of, b.steps, refl, b.of), All-cons (IsCallOn its.place history) g.call (calls_in b.steps) g.on b.on)
  one_more k p at ps b NoMemory e = (b.steps, b.of, b.on)
  one_more k p at ps b Full e = (b.steps, b.of, b.on)

  build : (ps : List RecordedPart) → ((i : ℕ) (p : RecordedPart) → IsAt ps i p → Stands parts p) → Built ps
  build [] each = record { steps = []; of = refl; on = All-nil (IsCallOn its.place history) }
  build (p ∷ ps) each =
      let here = each 0 p refl in
      let more = one_more here.0 p here.1 ps (build ps (λ i q at. each (suc i) q at)) p.part.result refl in
      record { steps = more.0; of = more.1; on = more.2 }

  built : Built parts
  built = build parts (λ i p at. (i, at))

  own : (w : ℕ) → Sound r.namespace r.jobs history w 0 (parts_by w parts) (steps_by w built.steps)
  own w =
      sound r.namespace r.jobs history w 0 (parts_by w parts)
      (λ i p at.
      let found = in_filter (λ q. nat_eq q.worker w) parts i p at in
      ((Decides-eqb p.worker w).0 found.0, (its.rests found.1.0 p found.1.1).within, omega arith))
      (λ i j p q at after lt.
      let stands = filter_order (λ x. nat_eq x.worker w) parts i j p q at after lt in
      let first = (Decides-eqb p.worker w).0 (in_filter (λ x. nat_eq x.worker w) parts i p at).0 in
      let second = (Decides-eqb q.worker w).0 (in_filter (λ x. nat_eq x.worker w) parts j q after).0 in
      its.order stands.0 stands.1 p q stands.2 stands.3 stands.4 (second ∙ sym first))
      (steps_by w built.steps) (steps_of_worker r.namespace r.jobs history w parts built.steps built.of)

  entries_are : (w : ℕ) → entries_in (steps_by w built.steps) ≡ entries_of_pass w history
  entries_are w =
      let s = own w in
      sym s.are
      ∙ listed (λ (e : HistoryEntry). nat_eq e.pass w) 0 history s.pairs s.rise
      (λ k q at. let is = s.each k q at in record { j = q.0; place = omega arith; at = is.0; passes = (Decides-eqb q.1.pass w).1 is.1 })
      (λ j x at passes.
      let claimed = its.claimed j x at in
      let p = claimed.1 in
      let mine : p.worker ≡ w = sym claimed.3.worker ∙ (Decides-eqb x.pass w).0 passes in
      let there = in_filter_back (λ q. nat_eq q.worker w) parts claimed.0 p claimed.2 ((Decides-eqb p.worker w).1 mine) in
      let found = s.all there.0 p there.1 claimed.3.result in
      let place : p.part.point ≡ 0 + j = claimed.3.point ∙ omega arith in
      let same : found.0 ≡ x = one_there history j found.0 x (subst (λ n. IsAt history n found.0) claimed.3.point found.1) at in
      (found.2.0, subst (λ (y : HistoryEntry). IsAt s.pairs found.2.0 (0 + j, y)) same (subst (λ n. IsAt s.pairs found.2.0 (n, found.0)) place found.2.1)))

  pub runs : HasPlacedRun → RunsStep → KeepsOrder
      → (run : List RunStep) × IsPlacedRunOf r.namespace r.jobs history parts run
      × IsRunFrom r.namespace.block_size (zero_medium r.namespace.block_size) run
  runs placed steps keeps =
      let calls = calls_in built.steps in
      let run_is = placed history calls
      (λ w. subst (CallsNeverGoBack 0 (length history)) (calls_by_steps w built.steps) (calls_of_steps history 0 (steps_by w built.steps) (own w).never)) in
      let size : its.place.size ≡ r.namespace.block_size = its.lies.size in (
        placed_run history calls,
        record {
          whole = run_is.whole;
          in_order =
              λ w.
              subst (AreStepsOf r.namespace r.jobs history (parts_by w parts))
              (sym (keeps history calls (placed_run history calls) (steps_by w built.steps) w run_is (own w).never (entries_are w) (calls_by_steps w built.steps)))
              (steps_of_worker r.namespace r.jobs history w parts built.steps built.of);
          at_points = run_is.at_points;
        },
        subst (λ (s : ℕ). IsRunFrom s (zero_medium s) (placed_run history calls)) size
            (steps its.place history calls (placed_run history calls) its.lawful built.on run_is),
      )
