-- What a pass keeps of the last point that it has seen, and what it answers from that.
use Rattle.std.proofs.Common.{◌≡◌, ◌≢◌, ℕ, ◌<◌, ◌≤◌, List, [], ◌∷◌, length, subst, refl, sym, ap, ◌∙◌, arith, true, Option, Some, None, Ok, Err, Result, IfSome, IsSome, is_some}
use Rattle.nvm_record.specs.Medium.{Medium}
use Rattle.nvm_record.specs.Step.{Operation, data_of}
use Rattle.nvm_store.specs.Contents.{Contents, Covers, Holds}
use Rattle.nvm_store.specs.declared.place.Place.{Place}
use Rattle.nvm_store.specs.History.{replay_of}
use Rattle.nvm_store.specs.HistoryEntry.{HistoryEntry}
use Rattle.nvm_store.specs.Place.{IsCovered}
use Rattle.nvm_unit.specs.declared.bounds.Bounds.{Bounds}
use Rattle.nvm_unit.specs.declared.replies.LookFault.{LookFault}
use Rattle.nvm_unit.specs.declared.replies.LookFault.TheVariants.{Newer, NoMemory}
use Rattle.nvm_unit.specs.declared.replies.ObserveFault.{ObserveFault}
use Rattle.nvm_unit.specs.declared.replies.ObserveFault.TheVariants as observe_fault
use Rattle.nvm_unit.specs.declared.replies.Observed.{Observed}
use Rattle.nvm_unit.specs.declared.snapshot.Snapshot.{Snapshot}
use Rattle.nvm_unit.specs.declared.views.PassView.{PassView}
use Rattle.nvm_unit.specs.Inside.Attempt.{AnswersFrom}
use Rattle.nvm_unit.specs.Inside.Book.{Recorded, recorded}
use Rattle.nvm_unit.specs.Inside.Parts.{seated, held_history, HasUnit, Recalls}
use Rattle.nvm_unit.specs.Inside.Plays.{Sits}
use Rattle.nvm_unit.specs.Inside.Snapshot.{IsSnapshotOf, IsVersionOf}
use Rattle.nvm_unit.specs.Passes.{UnitName, Finds, IsProperPass}
use Rattle.nvm_unit.specs.Replies.{AnswersLook, Learns, Looks, Observes, medium_at}
use Rattle.nvm_unit.specs.Views.{looked, shown}
use Rattle.nvm_unit.proofs.Histories.{begins_itself, begins_all}
use Rattle.nvm_unit.proofs.OnePass.{book_of_unit}

-- Only the data of a Read wants memory.
pub wants_data : (fault : ObserveFault) (n : ℕ) (op : Operation) (m : Medium) → AnswersLook (Err fault) n op m → IsSome (data_of op m)
wants_data (observe_fault.NoMemory point) n op m answers = answers.1

module _ (unit : UnitName) (m : Sits) (has : HasUnit unit m) where
  -- The book that is found in the slot.
  module _ (book : Recorded) (there : m.1 ≡ (0, Some book) ∷ []) where
    pages : book ≡ recorded unit.bounds (held_history m)
    pages = book_of_unit unit m has book there

    -- A snapshot with as many entries as the book has shows the book.
    pub recalls_book : (snapshot : Snapshot) → Recalls snapshot (seated m) → snapshot.entries ≡ length book.history → IsSnapshotOf snapshot book
    recalls_book snapshot recalls count =
        let long : length book.history ≡ length (held_history m) = ap (λ (x : Recorded). length x.history) pages in
        let all : held_history m ≡ (seated m).seen = begins_all (seated m).seen (held_history m) has.finds.seen (sym long ∙ (sym count ∙ recalls.0)) in
        subst (IsSnapshotOf snapshot) (ap (λ (h : List HistoryEntry). recorded (seated m).bounds h) (sym all) ∙ (ap (λ (b : Bounds). recorded b (held_history m)) has.bounds ∙ sym pages)) recalls

    pub book_covers : (op : Operation) → IsCovered unit.bounds.place op → IsCovered book.place op
    book_covers op = subst (λ (x : Recorded). IsCovered x.place op) (sym pages)

  -- A look at the book, by its pass.
  pub looks_at_book : (answer : Result Observed ObserveFault) (op : Operation) (q : PassView) → q ≡ shown true (length (held_history m)) (held_history m) (seated m)
      → AnswersLook answer (length (held_history m)) op (replay_of unit.bounds.place.size (held_history m)) → Observes answer (seated m) op q
  looks_at_book answer op q is answers = (
    held_history m,
    has.finds,
    subst (λ (b : Bounds). AnswersLook answer (length (held_history m)) op (replay_of b.place.size (held_history m))) (sym has.bounds) answers,
    is,
  )

-- A look at what the pass p keeps, where n entries were found.
module _ (n : ℕ) (p : PassView) (snapshot : Snapshot) (recalls : Recalls snapshot p) where
  version_is : (u : Contents) → snapshot.version ≡ Some u → IsVersionOf (recorded p.bounds p.seen) u
  version_is u is = subst (λ (x : Option Contents). IfSome x (IsVersionOf (recorded p.bounds p.seen))) is recalls.1

  pub version_covers : (b : Bounds) (op : Operation) → p.bounds ≡ b → IsCovered b.place op → IfSome snapshot.version (λ u. Covers u op)
  version_covers b op same covered = each snapshot.version recalls.1 where
    each : (version : Option Contents) → IfSome version (IsVersionOf (recorded p.bounds p.seen)) → IfSome version (λ u. Covers u op)
    each None shows = tt
    each (Some u) shows = subst (λ (x : Place). IsCovered x op) (sym shows.0) (subst (λ (x : Bounds). IsCovered x.place op) (sym same) covered)

  -- A pass that keeps a version was refused memory for data alone.
  refused : (op : Operation) (version : Option Contents) → snapshot.version ≡ version → is_some version ≡ true
      → ((u : Contents) → snapshot.version ≡ Some u → (x : Medium) → Holds u x → IsSome (data_of op x)) → IsSome (data_of op (medium_at p.bounds p.seen))
  refused op None is kept each = absurd (cc)
  refused op (Some u) is kept each = each u is (medium_at p.bounds p.seen) (version_is u is).1

  module _ (q : PassView) (proper : IsProperPass p) (learns : Learns n p q) where
    seen_is_all : n ≡ length p.seen → Finds (length p.seen) p p.seen
    seen_is_all here =
        record { count = refl; seen = begins_itself p.seen; floor = subst (λ (k : ℕ). p.floor ≤ k) here learns.0.floor; mine = proper.own; lawful = proper.seen }

    learns_as : (k : ℕ) → k ≡ n → Learns k p q
    learns_as k is = subst (λ (x : ℕ). Learns x p q) (sym is) learns

    pub look_told : (answer : Result Observed LookFault) (op : Operation) → AnswersFrom answer n snapshot op → Looks answer (is_some snapshot.version) p op q
    look_told (Ok observed) op told =
        let here : n ≡ length p.seen = told.0 ∙ recalls.0 in
        let point : observed.point ≡ length p.seen = told.1 ∙ here in
        let holds = (version_is told.2 told.3).1 in
        (point, (p.seen, seen_is_all here, (point, told.4 (medium_at p.bounds p.seen) holds), learns.1 ∙ ap (λ (k : ℕ). looked true k p) here))
    look_told (Err (Newer count)) op told =
        let apart : n ≢ length p.seen = λ same. told.0 (same ∙ sym recalls.0) in
        let up : length p.seen ≤ n = learns.0.seen in
        let same : count ≡ n = told.1 in
        let more : length p.seen < count = omega arith in
        (more, learns_as count same)
    look_told (Err (NoMemory point)) op told =
        (told.1 ∙ (told.0 ∙ recalls.0), learns_as point told.1, λ keeps. refused op snapshot.version refl keeps told.2)
