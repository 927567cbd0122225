-- Each unit by itself is in a shuffle what it is in its own history.
use Rattle.std.proofs.Common.{◌≡◌, ◌⊎◌, ◌↔◌, ℕ, zero, suc, ◌+◌, ◌<◌, ◌≤◌, Bool, true, false, IsTrue, nat_eq, List, [], ◌∷◌, length, map, take, drop, filter, All, refl, ap, sym, ◌∙◌, subst, arith, inl, inr}
use Rattle.std.proofs.lemmas.Bool.{cases_Bool, eq-eqb, eqb-true}
use Rattle.std.proofs.lemmas.List.{take-append-drop}
use Rattle.std.proofs.lemmas.List.Elements.{All-nil, All-cons, All-head, All-tail, All-take, filter-append}
use Rattle.std.proofs.Math.Seq.{take-append_seam}
use mathlib.Core.Option.{some, some-injective, some-ne-none}
use Rattle.nvm_geometry.specs.Boundaries.{unit_number}
use Rattle.nvm_geometry.specs.Namespace.{Namespace}
use Rattle.nvm_plan.specs.UnitPlace.{IsUnitPlace}
use Rattle.nvm_record.specs.Deeds.{IsLook, IsFailedPair}
use Rattle.nvm_record.specs.Lists.{IsAt}
use Rattle.nvm_record.specs.Medium.{Medium, zero_medium}
use Rattle.nvm_record.specs.Status.{IsSuccess}
use Rattle.nvm_record.specs.Step.{Operation, AgreeOn, is_in_range, medium_after, statuses_of, data_of}
use Rattle.nvm_store.specs.declared.place.Place.{Place}
use Rattle.nvm_store.specs.Call.{Call}
use Rattle.nvm_store.specs.History.{replay_from, replay_of, CanFollow}
use Rattle.nvm_store.specs.HistoryEntry.{HistoryEntry}
use Rattle.nvm_store.specs.Place.{IsCovered}
use Rattle.nvm_store.specs.PlacedRun.{RunStep, IsRunFrom, HasItsAnswer, changes, answers, entries_in}
use Rattle.nvm_store.specs.Point.{point}
use Rattle.nvm_space.specs.Shuffle.{AreLawfulHistories, IsShuffle, StandsAtItsPoint}
use Rattle.nvm_space.specs.Shuffle.{count_of_unit, entries_of_unit, unit_of_entry}
use Rattle.nvm_space.proofs.Lists.{at_some}

module _ {A : Type 0} where
  pub all_from_at : (P : A → Type 0) (xs : List A) → ((i : ℕ) (x : A) → IsAt xs i x → P x) → All P xs
  all_from_at P [] each = All-nil P
  all_from_at P (x ∷ xs) each = All-cons P x xs (each 0 x refl) (all_from_at P xs (λ i y at. each (suc i) y at))

  at_from_all : (P : A → Type 0) (xs : List A) (i : ℕ) (x : A) → All P xs → IsAt xs i x → P x
  at_from_all P [] i x all at = absurd (some-ne-none x (sym at))
  at_from_all P (y ∷ ys) zero x all at = subst P (some-injective y x at) (All-head P y ys all)
  at_from_all P (y ∷ ys) (suc i) x all at = at_from_all P ys i x (All-tail P y ys all) at

  -- What passes the test is in the filtered list after what passes before it.
  pub at_filter : (p : A → Bool) (xs : List A) (i : ℕ) (x : A) → IsAt xs i x → p x ≡ true
      → IsAt (filter p xs) (length (filter p (take i xs))) x
  at_filter p [] i x at passes = absurd (some-ne-none x (sym at))
  at_filter p (y ∷ ys) zero x at passes =
      let here : y ≡ x = some-injective y x at in
      let own : p y ≡ true = ap p here ∙ passes in
      rw own at
  at_filter p (y ∷ ys) (suc i) x at passes =
      elim (cases_Bool (p y)) [
        | inl kept ↦ rw kept (at_filter p ys i x at passes)
        | inr left ↦ rw left (at_filter p ys i x at passes)
      ]

  -- What passes of a list's front is the front of what passes.
  pub filter_front : (p : A → Bool) (xs : List A) (n : ℕ)
      → take (length (filter p (take n xs))) (filter p xs) ≡ filter p (take n xs)
  filter_front p xs n =
      let k = length (filter p (take n xs)) in
      ap (λ (ys : List A). take k (filter p ys)) (sym (take-append-drop n xs))
      ∙ ap (λ (ys : List A). take k ys) (filter-append p (take n xs) (drop n xs))
      ∙ take-append_seam (filter p (take n xs)) (filter p (drop n xs))

  -- Each front of what passes is what passes of some front.
  pub front_of_filter : (p : A → Bool) (xs : List A) (k : ℕ)
      → (n : ℕ) × (n ≤ length xs) × (filter p (take n xs) ≡ take k (filter p xs))
  front_of_filter p xs zero = (0, omega arith, refl)
  front_of_filter p [] (suc k) = (0, omega arith, refl)
  front_of_filter p (y ∷ ys) (suc k) =
      elim (cases_Bool (p y)) [
        | inl kept ↦
            let there = front_of_filter p ys k in
            (suc there.0, omega (arith, there.1), rw kept (ap (λ (zs : List A). y ∷ zs) there.2))
        | inr left ↦
            let there = front_of_filter p ys (suc k) in
            (suc there.0, omega (arith, there.1), rw left there.2)
      ]

-- Where each entry succeeds on what the entries before it leave, they are a run of the step.
pub run_of_entries : (size : ℕ) (m : Medium) (entries : List HistoryEntry)
    → ((i : ℕ) (entry : HistoryEntry) → IsAt entries i entry
    → IsSuccess (statuses_of entry.operation (replay_from size m (take i entries))))
    → IsRunFrom size m (map changes entries)
run_of_entries size m [] each = tt
run_of_entries size m (entry ∷ entries) each = (
  each 0 entry refl,
  run_of_entries size (medium_after size entry.operation m) entries (λ i e at. each (suc i) e at),
)

-- The operation's range lies in the unit.
abbrev pub LiesInUnit : Namespace → ℕ → Operation → Type 0
LiesInUnit ns unit op = (lba : ℕ) → IsTrue (is_in_range op lba) → unit_number ns lba ≡ unit

-- The entry lies in the unit in which it begins.
abbrev pub LiesInItsUnit : Namespace → HistoryEntry → Type 0
LiesInItsUnit ns entry = LiesInUnit ns (unit_of_entry ns entry) entry.operation

-- The two media hold the same blocks on the unit's LBAs.
abbrev pub AgreeInUnit : Namespace → ℕ → Medium → Medium → Type 0
AgreeInUnit ns unit m n = (lba : ℕ) → unit_number ns lba ≡ unit → m lba ≡ n lba

-- what the step's locality says
abbrev pub RangeIsKnown : Type 0
RangeIsKnown =
    (op : Operation) (lba : ℕ) → IsTrue (is_in_range op lba) ↔ ((op.first ≤ lba) × (lba < op.first + op.blocks))

abbrev pub OutsideStays : Type 0
OutsideStays =
    (size : ℕ) (op : Operation) (m : Medium) (lba : ℕ) → is_in_range op lba ≡ false → medium_after size op m lba ≡ m lba

abbrev pub StatusesAgree : Type 0
StatusesAgree = (op : Operation) (m n : Medium) → AgreeOn op m n → statuses_of op m ≡ statuses_of op n

abbrev pub DataAgrees : Type 0
DataAgrees = (op : Operation) (m n : Medium) → AgreeOn op m n → data_of op m ≡ data_of op n

abbrev pub BlocksAgree : Type 0
BlocksAgree =
    (size : ℕ) (op : Operation) (m n : Medium) (lba : ℕ) → AgreeOn op m n → m lba ≡ n lba
    → medium_after size op m lba ≡ medium_after size op n lba

-- what is known of looks, and of pairs that fail
abbrev pub LooksLeave : Type 0
LooksLeave =
    (size : ℕ) (op : Operation) (m : Medium) (lba : ℕ) → IsLook op.deed ⊎ IsFailedPair op m
    → medium_after size op m lba ≡ m lba

-- On a unit's LBAs the replay of entries, each of which lies in its unit, is that of the unit's own.
replays_agree : OutsideStays → BlocksAgree → (ns : Namespace) (size unit : ℕ) (m n : Medium)
    (entries : List HistoryEntry) → All (LiesInItsUnit ns) entries → AgreeInUnit ns unit m n
    → AgreeInUnit ns unit (replay_from size m entries) (replay_from size n (entries_of_unit ns unit entries))
replays_agree outside blocks ns size unit m n [] within agree = agree
replays_agree outside blocks ns size unit m n (entry ∷ entries) within agree =
    let op = entry.operation in
    let lies : LiesInItsUnit ns entry = All-head (LiesInItsUnit ns) entry entries within in
    let rest : All (LiesInItsUnit ns) entries = All-tail (LiesInItsUnit ns) entry entries within in
    elim (cases_Bool (nat_eq (unit_of_entry ns entry) unit)) [
      | inl own ↦
          let same : unit_of_entry ns entry ≡ unit = eqb-true (unit_of_entry ns entry) unit own in
          let on : AgreeOn op m n = λ lba inside. agree lba (lies lba inside ∙ same) in
          rw own (replays_agree outside blocks ns size unit (medium_after size op m) (medium_after size op n)
          entries rest (λ lba here. blocks size op m n lba on (agree lba here)))
      | inr other ↦
          rw other (replays_agree outside blocks ns size unit (medium_after size op m) n entries rest
          (λ lba here. outside size op m lba
          (elim (cases_Bool (is_in_range op lba)) [
            | inl inside ↦
                let same : unit_of_entry ns entry ≡ unit = sym (lies lba inside) ∙ here in
                absurd (let differs = sym (eq-eqb (unit_of_entry ns entry) unit same) ∙ other in cc differs)
            | inr out ↦ out
          ]) ∙ agree lba here))
    ]

-- A covered operation's range lies in the unit of the place.
pub lies_in_unit : RangeIsKnown → (ns : Namespace) (unit : ℕ) (place : Place) (op : Operation)
    → IsUnitPlace ns unit place → IsCovered place op → LiesInUnit ns unit op
lies_in_unit range ns unit place op is covered lba inside =
    let within = (range op lba).0 inside in
    let low : op.first ≤ lba = within.0 in
    let high : lba < op.first + op.blocks = within.1 in
    let above : place.first ≤ op.first = covered.range.above in
    let below : op.first + op.blocks ≤ place.first + place.blocks = covered.range.below in
    is.lbas.lies lba (omega arith) (omega arith)

-- The entry is in its unit's history after as many as are of the unit before it.
pub place_of_entry : (ns : Namespace) (histories : List (List HistoryEntry)) (all history : List HistoryEntry) (i : ℕ)
    (entry : HistoryEntry) → IsShuffle ns histories all → IsAt all i entry
    → IsAt histories (unit_of_entry ns entry) history
    → IsAt history (count_of_unit ns (unit_of_entry ns entry) (take i all)) entry
place_of_entry ns histories all history i entry shuffle at in_histories =
    let unit = unit_of_entry ns entry in
    let own : IsAt (entries_of_unit ns unit all) (count_of_unit ns unit (take i all)) entry =
    at_filter (λ e. nat_eq (unit_of_entry ns e) unit) all i entry at (eq-eqb unit unit refl) in
    subst (λ (es : List HistoryEntry). IsAt es (count_of_unit ns unit (take i all)) entry)
    (shuffle.each unit history in_histories) own

-- The entry's history, and that it can follow there.
record Own (ns : Namespace) (histories : List (List HistoryEntry)) (all : List HistoryEntry) (i : ℕ)
    (entry : HistoryEntry) : Type 0 where
  pub history : List HistoryEntry
  pub at : IsAt histories (unit_of_entry ns entry) history
  pub place : Place
  pub lies : IsUnitPlace ns (unit_of_entry ns entry) place
  pub follows : CanFollow place (take (count_of_unit ns (unit_of_entry ns entry) (take i all)) history) entry

own_history : (ns : Namespace) (histories : List (List HistoryEntry)) (all : List HistoryEntry) (i : ℕ)
    (entry : HistoryEntry) → AreLawfulHistories ns histories → IsShuffle ns histories all → IsAt all i entry
    → Own ns histories all i entry
own_history ns histories all i entry lawful shuffle at =
    let unit = unit_of_entry ns entry in
    let known = at_from_all (λ e. unit_of_entry ns e < length histories) all i entry shuffle.known at in
    let there = at_some histories unit known in
    let law = lawful.each unit there.0 there.1 in
    record {
      history = there.0;
      at = there.1;
      place = law.0;
      lies = law.1;
      follows = law.2 (count_of_unit ns unit (take i all)) entry
          (place_of_entry ns histories all there.0 i entry shuffle at there.1);
    }

-- The calls of a run change nothing, and each step has its answer after the entries before it.
abbrev HoldsThere : ℕ → Medium → RunStep → Type 0
HoldsThere size m (changes entry) = IsSuccess (statuses_of entry.operation m)
HoldsThere size m (answers call) =
    HasItsAnswer (answers call) m × ((lba : ℕ) → medium_after size call.operation m lba ≡ m lba)

run_of_steps : (size : ℕ) (m : Medium) (run : List RunStep)
    → ((i : ℕ) (step : RunStep) → IsAt run i step → HoldsThere size (replay_from size m (entries_in (take i run))) step)
    → IsRunFrom size m run
run_of_steps size m [] each = tt
run_of_steps size m (changes entry ∷ steps) each = (
  each 0 (changes entry) refl,
  run_of_steps size (medium_after size entry.operation m) steps (λ i step at. each (suc i) step at),
)
run_of_steps size m (answers call ∷ steps) each =
    let here = each 0 (answers call) refl in
    let same : medium_after size call.operation m ≡ m = λ i lba. here.1 lba i in
    (here.0, rw same (run_of_steps size m steps (λ i step at. each (suc i) step at)))

abbrev entry_of : HistoryEntry → RunStep → HistoryEntry
entry_of other (changes entry) = entry
entry_of other (answers call) = other

abbrev is_entry : RunStep → Bool
is_entry (changes entry) = true
is_entry (answers call) = false

-- An entry of a run is among its entries after those before it.
at_entries : (run : List RunStep) (i : ℕ) (entry : HistoryEntry) → IsAt run i (changes entry)
    → IsAt (entries_in run) (length (entries_in (take i run))) entry
at_entries [] i entry at = absurd (some-ne-none (changes entry) (sym at))
at_entries (changes e ∷ steps) zero entry at =
    ap (λ (step : RunStep). some (entry_of e step)) (some-injective (changes e) (changes entry) at)
at_entries (answers call ∷ steps) zero entry at =
    absurd (let differs = ap is_entry (some-injective (answers call) (changes entry) at) in cc differs)
at_entries (changes e ∷ steps) (suc i) entry at = at_entries steps i entry at
at_entries (answers call ∷ steps) (suc i) entry at = at_entries steps i entry at

-- The entries of a run's front are a front of its entries.
entries_front : (run : List RunStep) (i : ℕ)
    → entries_in (take i run) ≡ take (length (entries_in (take i run))) (entries_in run)
entries_front run zero = refl
entries_front [] (suc i) = refl
entries_front (changes entry ∷ steps) (suc i) = ap (λ (es : List HistoryEntry). entry ∷ es) (entries_front steps i)
entries_front (answers call ∷ steps) (suc i) = entries_front steps i

module _ (range : RangeIsKnown) (outside : OutsideStays) (statuses : StatusesAgree) (payload : DataAgrees)
    (blocks : BlocksAgree) (ns : Namespace) where
  abbrev size : ℕ
  size = ns.block_size

  -- After entries that each lie in their unit, a unit is as after its own among them.
  of_unit : (entries : List HistoryEntry) → All (LiesInItsUnit ns) entries → (unit : ℕ)
      → AgreeInUnit ns unit (replay_of size entries) (replay_of size (entries_of_unit ns unit entries))
  of_unit entries within unit =
      replays_agree outside blocks ns size unit (zero_medium size) (zero_medium size) entries within (λ lba here. refl)

  -- A call that is at its point has there, on its range, the point's blocks.
  module _ (histories : List (List HistoryEntry)) (before : List HistoryEntry)
      (within : All (LiesInItsUnit ns) before) (call : Call) (stands : StandsAtItsPoint ns histories before call) where
    abbrev rests : Medium
    rests = point stands.place.size stands.history call.point

    agrees : AgreeOn call.operation rests (replay_of size before)
    agrees lba inside =
        let here : unit_number ns lba ≡ stands.unit =
        lies_in_unit range ns stands.unit stands.place call.operation stands.lies stands.on.covered lba inside in
        ap (λ (s : ℕ). point s stands.history call.point lba) stands.lies.size
        ∙ ap (λ (es : List HistoryEntry). replay_of size es lba) (sym stands.holds)
        ∙ sym (of_unit before within stands.unit lba here)

    pub has_its_answer : HasItsAnswer (answers call) (replay_of size before)
    has_its_answer = (
      stands.on.rests.statuses ∙ statuses call.operation rests (replay_of size before) agrees,
      stands.on.rests.payload ∙ payload call.operation rests (replay_of size before) agrees,
    )

    changes_nothing : LooksLeave → (lba : ℕ)
        → medium_after size call.operation (replay_of size before) lba ≡ replay_of size before lba
    changes_nothing looks lba =
        elim (cases_Bool (is_in_range call.operation lba)) [
          | inl inside ↦
              sym (blocks size call.operation rests (replay_of size before) lba agrees (agrees lba inside))
              ∙ looks size call.operation rests lba stands.on.leaves
              ∙ agrees lba inside
          | inr out ↦ outside size call.operation (replay_of size before) lba out
        ]

  module _ (histories : List (List HistoryEntry)) (all : List HistoryEntry)
      (lawful : AreLawfulHistories ns histories) (shuffle : IsShuffle ns histories all) where
    pub within : All (LiesInItsUnit ns) all
    within = all_from_at (LiesInItsUnit ns) all
        (λ i entry at.
        let own = own_history ns histories all i entry lawful shuffle at in
        lies_in_unit range ns (unit_of_entry ns entry) own.place entry.operation own.lies own.follows.covered)

    pub within_front : (n : ℕ) → All (LiesInItsUnit ns) (take n all)
    within_front n = All-take (LiesInItsUnit ns) n all within

    -- The unit's own among the first n are the first ones of its history.
    fronts : (n unit : ℕ) (history : List HistoryEntry) → IsAt histories unit history
        → entries_of_unit ns unit (take n all) ≡ take (count_of_unit ns unit (take n all)) history
    fronts n unit history at =
        let k = count_of_unit ns unit (take n all) in
        let front : take k (entries_of_unit ns unit all) ≡ entries_of_unit ns unit (take n all) =
        filter_front (λ e. nat_eq (unit_of_entry ns e) unit) all n in
        sym front ∙ ap (λ (es : List HistoryEntry). take k es) (shuffle.each unit history at)

    pub points_agree : (n unit : ℕ) (history : List HistoryEntry) → IsAt histories unit history
        → AgreeInUnit ns unit (point size all n) (point size history (count_of_unit ns unit (take n all)))
    points_agree n unit history at lba here =
        of_unit (take n all) (within_front n) unit lba here
        ∙ ap (λ (es : List HistoryEntry). replay_of size es lba) (fronts n unit history at)

    pub ends_agree : (unit : ℕ) (history : List HistoryEntry) → IsAt histories unit history
        → AgreeInUnit ns unit (replay_of size all) (replay_of size history)
    ends_agree unit history at lba here =
        of_unit all within unit lba here
        ∙ ap (λ (es : List HistoryEntry). replay_of size es lba) (shuffle.each unit history at)

    pub statuses_agree : (history : List HistoryEntry) (i : ℕ) (entry : HistoryEntry) → IsAt all i entry
        → IsAt histories (unit_of_entry ns entry) history
        → statuses_of entry.operation (point size all i)
        ≡ statuses_of entry.operation (point size history (count_of_unit ns (unit_of_entry ns entry) (take i all)))
    statuses_agree history i entry at in_histories =
        let unit = unit_of_entry ns entry in
        let own = own_history ns histories all i entry lawful shuffle at in
        let lies : LiesInItsUnit ns entry =
        lies_in_unit range ns unit own.place entry.operation own.lies own.follows.covered in
        statuses entry.operation (point size all i) (point size history (count_of_unit ns unit (take i all)))
        (λ lba inside. points_agree i unit history in_histories lba (lies lba inside))

    entry_succeeds : (i : ℕ) (entry : HistoryEntry) → IsAt all i entry
        → IsSuccess (statuses_of entry.operation (point size all i))
    entry_succeeds i entry at =
        let own = own_history ns histories all i entry lawful shuffle at in
        let before = take (count_of_unit ns (unit_of_entry ns entry) (take i all)) own.history in
        let there : IsSuccess (statuses_of entry.operation (replay_of size before)) =
        subst (λ (s : ℕ). IsSuccess (statuses_of entry.operation (replay_of s before))) own.lies.size
        own.follows.succeeds in
        subst IsSuccess (sym (statuses_agree own.history i entry at own.at)) there

    pub shuffle_is_run : IsRunFrom size (zero_medium size) (map changes all)
    shuffle_is_run = run_of_entries size (zero_medium size) all entry_succeeds

  -- A run of a shuffle's entries, with calls between them that are each at their point.
  module _ (looks : LooksLeave) (histories : List (List HistoryEntry)) (run : List RunStep)
      (lawful : AreLawfulHistories ns histories) (shuffle : IsShuffle ns histories (entries_in run))
      (stand : (i : ℕ) (call : Call) → IsAt run i (answers call)
      → StandsAtItsPoint ns histories (entries_in (take i run)) call) where
    step_holds : (i : ℕ) (step : RunStep) → IsAt run i step
        → HoldsThere size (replay_of size (entries_in (take i run))) step
    step_holds i (changes entry) at =
        let n = length (entries_in (take i run)) in
        subst (λ (es : List HistoryEntry). IsSuccess (statuses_of entry.operation (replay_of size es)))
        (sym (entries_front run i))
        (entry_succeeds histories (entries_in run) lawful shuffle n entry (at_entries run i entry at))
    step_holds i (answers call) at =
        let before = entries_in (take i run) in
        let there : All (LiesInItsUnit ns) before =
        subst (All (LiesInItsUnit ns)) (sym (entries_front run i))
        (within_front histories (entries_in run) lawful shuffle (length before)) in (
          has_its_answer histories before there call (stand i call at),
          changes_nothing histories before there call (stand i call at) looks,
        )

    pub steps_are_run : IsRunFrom size (zero_medium size) run
    steps_are_run = run_of_steps size (zero_medium size) run step_holds
