-- A change of the book in its slot, and the unit given back with it.
use Rattle.std.proofs.Common.{◌≡◌, ◌⊎◌, ℕ, ◌+◌, ◌<◌, ◌≤◌, List, [], ◌∷◌, ◌++◌, length, if◌then◌else◌, subst, refl, sym, ap, ◌∙◌, arith, inl, inr, Bool, true, false, Some, length-append}
use Rattle.atomic_table.proofs.Lists.{at_snoc}
use Rattle.nvm_record.specs.Deeds.{IsAct}
use Rattle.nvm_record.specs.Medium.{Medium}
use Rattle.nvm_record.specs.Status.{IsSuccess}
use Rattle.nvm_record.specs.Step.{Operation, statuses_of}
use Rattle.nvm_store.specs.History.{CanFollow, replay_of}
use Rattle.nvm_store.specs.HistoryEntry.{HistoryEntry}
use Rattle.nvm_store.specs.Place.{IsCovered}
use Rattle.nvm_unit.specs.declared.bounds.Bounds.{Bounds}
use Rattle.nvm_unit.specs.declared.replies.Changed.{Changed}
use Rattle.nvm_unit.specs.declared.replies.Changed.TheVariants.{Done, Failed, NoMemory, Full}
use Rattle.nvm_unit.specs.declared.views.PassView.{PassView}
use Rattle.nvm_unit.specs.Inside.Attempt.{Attempts}
use Rattle.nvm_unit.specs.Inside.Book.{Recorded, recorded}
use Rattle.nvm_unit.specs.Inside.Parts.{seated, held_history, HasUnit}
use Rattle.nvm_unit.specs.Inside.Plays.{Sits, resting, holding, ReturnsAs, AddsAs, CanReturn, CanAppend}
use Rattle.nvm_unit.specs.Passes.{BearsNumbers, IsProperPass, UnitName}
use Rattle.nvm_unit.specs.Replies.{AnswersChange, Makes, entry_of_job, is_done, medium_at, pass_after}
use Rattle.nvm_unit.specs.Views.{added, shown}
use Rattle.nvm_unit.proofs.EventsKept.{FollowsLawfully}
use Rattle.nvm_unit.proofs.Groups.{at_single}
use Rattle.nvm_unit.proofs.Histories.{entries_more, rise_more}
use Rattle.nvm_unit.proofs.Lending.{lent, lent_at}
use Rattle.nvm_unit.proofs.OnePass.{book_of_unit, proper_shown}

-- What is answered to an act that was done.
room_if_done : (changed : Changed) (n limit : ℕ) (op : Operation) (m : Medium) → AnswersChange changed n limit op m → is_done changed ≡ true → (n < limit) × IsSuccess (statuses_of op m)
room_if_done (Done point) n limit op m answers done = (answers.1, answers.2)
room_if_done (Failed point statuses) n limit op m answers done = absurd (cc)
room_if_done (NoMemory point) n limit op m answers done = absurd (cc)
room_if_done (Full point) n limit op m answers done = absurd (cc)

-- One more entry, by a pass of the unit.
bears_more : (count : ℕ) (h : List HistoryEntry) (entry : HistoryEntry) → BearsNumbers count h → entry.pass < count → BearsNumbers count (h ++ entry ∷ [])
bears_more count h entry bears lt k x at =
    elim (at_snoc h entry x k at) [
      | inl before ↦ bears k x before
      | inr last ↦ subst (λ (y : HistoryEntry). y.pass < count) last lt
    ]

-- the history, or with the entry after it
abbrev grown : Bool → List HistoryEntry → HistoryEntry → List HistoryEntry
grown done h entry = if done then h ++ entry ∷ [] else h

-- the pass that gives the unit back with it
abbrev grown_pass : Bool → List HistoryEntry → HistoryEntry → PassView → PassView
grown_pass done h entry p = if done then added (length h) h entry p else shown true (length h) h p

-- The attempt by the pass of this number, in a unit of this limit, is one by the pass p.
pub attempted : (changed : Changed) (limit number job : ℕ) (op : Operation) (book book' : Recorded) (p : PassView) → limit ≡ p.bounds.limit → number ≡ p.number
    → Attempts changed limit (record { pass = number; job = job; operation = op }) book book' → Attempts changed p.bounds.limit (entry_of_job p job op) book book'
attempted changed limit number job op book book' p room numbered done =
    let here = subst (λ (l : ℕ). Attempts changed l (record { pass = number; job = job; operation = op }) book book') room done in
    subst (λ (k : ℕ). Attempts changed p.bounds.limit (record { pass = k; job = job; operation = op }) book book') numbered here

-- The book in the slot was `book`, and is `book'`.
module _ (unit : UnitName) (m : Sits) (has : HasUnit unit m) (book book' : Recorded) (there : m.1 ≡ (0, Some book) ∷ []) (job : ℕ) (op : Operation) where
  -- The entry can follow, where there is one.
  abbrev Fits : Bool → Type 0
  Fits done = done ≡ true → (length (held_history m) < (seated m).bounds.limit) × CanFollow (seated m).bounds.place (held_history m) (entry_of_job (seated m) job op)

  -- The book has the history, or one with the entry after it.
  abbrev Grows : Bool → Type 0
  Grows done = book' ≡ recorded (seated m).bounds (grown done (held_history m) (entry_of_job (seated m) job op))

  book_is : book ≡ recorded (seated m).bounds (held_history m)
  book_is = book_of_unit unit m has book there ∙ ap (λ (b : Bounds). recorded b (held_history m)) (sym has.bounds)

  at_lent : lent m book' ≡ holding (seated m ∷ []) (held_history m) book'
  at_lent = lent_at m (seated m ∷ []) (held_history m) (recorded unit.bounds (held_history m)) has.alone book'

  abbrev Ready : ℕ → Type 0
  Ready entries =
      ((ps : List PassView) × (history : List HistoryEntry) × (b : Bounds) × CanReturn (λ _. true) entries (lent m book') ps history b)
      ⊎ ((p : PassView) × (history : List HistoryEntry) × (entry : HistoryEntry) × CanAppend entries (lent m book') p history entry)

  at_grown : (done : Bool) → Grows done → lent m book' ≡ holding (seated m ∷ []) (held_history m) (recorded (seated m).bounds (grown done (held_history m) (entry_of_job (seated m) job op)))
  at_grown done is = at_lent ∙ ap (λ (x : Recorded). holding (seated m ∷ []) (held_history m) x) is

  count_is : (done : Bool) → Grows done → (entries : ℕ) → entries ≡ length book'.history → entries ≡ length (grown done (held_history m) (entry_of_job (seated m) job op))
  count_is done is entries count = count ∙ ap (λ (x : Recorded). length x.history) is

  one_more : length (held_history m ++ entry_of_job (seated m) job op ∷ []) ≡ length (held_history m) + 1
  one_more = length-append (held_history m) (entry_of_job (seated m) job op ∷ [])

  ready_with : (done : Bool) → Fits done → Grows done → (entries : ℕ) → entries ≡ length book'.history → Ready entries
  ready_with false fits is entries count =
      inl (
        seated m ∷ [],
        held_history m,
        (seated m).bounds,
        record {
          at = at_grown false is;
          count = count_is false is entries count;
          filled = omega arith;
          bounds = λ i q at. ap (λ (x : PassView). x.bounds) (sym (at_single (seated m) q i at));
          alone = λ _. refl;
        },
      )
  ready_with true fits is entries count =
      inr (
        seated m,
        held_history m,
        entry_of_job (seated m) job op,
        record { at = at_grown true is; count = count_is true is entries count ∙ one_more; number = refl; follows = (fits refl).1; room = (fits refl).0 },
      )

  -- The pass is at rest again, and what it has seen is what the book has.
  abbrev Ends : PassView → Sits → Type 0
  Ends q m' = (m' ≡ resting (q ∷ [])) × IsProperPass q × (book' ≡ recorded q.bounds q.seen)

  ends_with : FollowsLawfully → (done : Bool) → Fits done → Grows done → (entries : ℕ) → entries ≡ length book'.history
      → (m' : Sits) → ReturnsAs (λ _. true) entries (lent m book') m' → AddsAs entries (lent m book') m' → Ends (grown_pass done (held_history m) (entry_of_job (seated m) job op) (seated m)) m'
  ends_with law false fits is entries count m' back more =
      let h = held_history m in (
        back (seated m ∷ []) h (recorded (seated m).bounds h) (at_grown false is) (count_is false is entries count),
        proper_shown true (length h) (seated m) h has.proper has.finds,
        is,
      )
  ends_with law true fits is entries count m' back more =
      let p = seated m in
      let h = held_history m in
      let entry = entry_of_job p job op in
      let room : length h < p.bounds.limit = (fits refl).0 in
      let longer : length (h ++ entry ∷ []) ≡ length h + 1 = one_more in
      let below : p.number < p.bounds.passes = subst (λ (b : Bounds). p.number < b.passes) (sym has.bounds) has.below in (
        more p h entry (at_grown true is) (count_is true is entries count ∙ longer),
        record {
          seen = record {
            lawful = law p.bounds.place h entry has.finds.lawful.lawful (fits refl).1;
            within = (omega arith);
            bears = bears_more p.bounds.passes h entry has.finds.lawful.bears below;
          };
          own = entries_more p.number h entry refl ∙ ap (λ (x : List (ℕ × HistoryEntry)). x ++ (length h, entry) ∷ []) has.finds.mine;
          marks = rise_more 0 p.marks p.floor (length h) has.proper.marks has.finds.floor;
        },
        is,
      )

  -- A history within the limit stays so.
  within_with : (done : Bool) → Fits done → Grows done → length book'.history ≤ (seated m).bounds.limit
  within_with false fits is =
      let long : length book'.history ≡ length (held_history m) = ap (λ (x : Recorded). length x.history) is in
      subst (λ (n : ℕ). n ≤ (seated m).bounds.limit) (sym long) has.finds.lawful.within
  within_with true fits is =
      let long : length book'.history ≡ length (held_history m) + 1 = ap (λ (x : Recorded). length x.history) is ∙ one_more in
      let room : length (held_history m) < (seated m).bounds.limit = (fits refl).0 in
      omega arith

  module _ (changed : Changed) (done : Attempts changed (seated m).bounds.limit (entry_of_job (seated m) job op) book book') (act : IsAct op.deed) (covered : IsCovered (seated m).bounds.place op) where
    answers : AnswersChange changed (length (held_history m)) (seated m).bounds.limit op (medium_at (seated m).bounds (held_history m))
    answers = subst (λ (x : Recorded). AnswersChange changed (length x.history) (seated m).bounds.limit op (replay_of x.place.size x.history)) book_is done.0

    grows : Grows (is_done changed)
    grows = done.1 ∙ ap (λ (x : Recorded). recorded_from x) book_is where
      recorded_from : Recorded → Recorded
      recorded_from x = record { place = x.place; history = grown (is_done changed) x.history (entry_of_job (seated m) job op) }

    fits : Fits (is_done changed)
    fits done_here =
        let room = room_if_done changed (length (held_history m)) (seated m).bounds.limit op (medium_at (seated m).bounds (held_history m)) answers done_here in
        (room.0, record { act = act; covered = covered; succeeds = room.1 })

    pub change_within : length book'.history ≤ (seated m).bounds.limit
    change_within = within_with (is_done changed) fits grows

    module _ (entries : ℕ) (count : entries ≡ length book'.history) where
      -- The unit can be given back, whatever the attempt came to.
      pub change_ready : Ready entries
      change_ready = ready_with (is_done changed) fits grows entries count

      pub change_ends : FollowsLawfully → (m' : Sits) → ReturnsAs (λ _. true) entries (lent m book') m' → AddsAs entries (lent m book') m'
          → (q : PassView) × Makes changed (seated m) job op q × Ends q m' × (q.bounds ≡ unit.bounds) × (q.number ≡ (seated m).number)
      change_ends law m' back more =
          let q = pass_after changed (held_history m) (entry_of_job (seated m) job op) (seated m) in
          let kept = same_name (is_done changed) in
          (q, (held_history m, has.finds, answers, refl), ends_with law (is_done changed) fits grows entries count m' back more, kept.0, kept.1) where
            same_name : (b : Bool) → ((grown_pass b (held_history m) (entry_of_job (seated m) job op) (seated m)).bounds ≡ unit.bounds)
                × ((grown_pass b (held_history m) (entry_of_job (seated m) job op) (seated m)).number ≡ (seated m).number)
            same_name true = (has.bounds, refl)
            same_name false = (has.bounds, refl)
