-- What the rows of a whole order say of how often points are there.
use Rattle.std.proofs.Common.{◌≡◌, ◌≢◌, ℕ, zero, suc, ◌+◌, ◌-◌, ◌<◌, ◌≤◌, ◌⊎◌, inl, inr, true, List, Some, All, length, slice_get, slice_index, sym, subst, ◌∙◌, arith}
use Rattle.std.proofs.lemmas.Bool.{cases_eq}
use Rattle.std.proofs.lemmas.Option.{slice_get_within}
use Rattle.nvm_standard.specs.PointView.{PointView, TableView}
use Rattle.nvm_standard.specs.declared.point.Presence.TheVariants.{Sure, OneOf, Together, Repeated}
use Rattle.nvm_standard.specs.Explanation.{IsPlacedRight}
use Rattle.nvm_standard.specs.Inside.Done.{AreRows, IsRowOf}
use Rattle.nvm_standard.specs.Inside.Right.{ComesAfter, FollowsRow, HasOne, IsAsPresent, IsEmpty, IsFull, WasBefore}
use Rattle.nvm_standard.specs.OrderView.{OrderView}
use Rattle.nvm_standard.specs.Places.{IsDoneAt, IsOf}
use Rattle.nvm_standard.specs.Presence.{FollowsItsBlock, IsDone, IsPresent}
use Rattle.nvm_standard.proofs.Standing.{earlier_or_last, placed_right, fits_its, some_same}

pub from_one : (v : ℕ) → v ≢ 0 → v ≡ v - 1 + 1
from_one v ne = omega arith

-- A block that is done is one of the point's, and its position one of the order's.
pub done_low : (t : TableView) (o : OrderView) (n x i : ℕ) (q : PointView) → All (IsPlacedRight t) o.placed → slice_get t.points n ≡ Some q
    → IsDoneAt o n x i → q.first ≤ x
done_low t o n x i q right its done =
    let at : slice_get t.points done.p.point ≡ Some q = subst (λ (m : ℕ). slice_get t.points m ≡ Some q) (sym done.its) its in
    let fits = fits_its t done.p q (placed_right t o i done.p right done.placed) at in
    let low = fits.from in
    let high = done.block.from in
    omega (arith, low, high)

pub done_within : (o : OrderView) (n x i : ℕ) → IsDoneAt o n x i → i < length o.placed
done_within o n x i done = slice_get_within o.placed i done.p done.placed

-- the row has what was done in a block
pub done_row : (o : OrderView) (n x i : ℕ) (q : PointView) (row : List ℕ) → IsRowOf o (length o.placed) n q row → q.presence ≢ Repeated
    → IsDoneAt o n x i → slice_index row (x - q.first) ≡ i + 1
done_row o n x i q row is ne done = is.whole ne x i (done_within o n x i done) done

done_of_place : (o : OrderView) (n a : ℕ) (q : PointView) (row : List ℕ) → IsRowOf o (length o.placed) n q row → slice_index row a ≢ 0
    → IsDone o n (q.first + a)
done_of_place o n a q row is ne =
    record { position = slice_index row a - 1; done = is.sound a (slice_index row a - 1) (from_one (slice_index row a) ne) }

full_done : (o : OrderView) (n x : ℕ) (q : PointView) (row : List ℕ) → IsRowOf o (length o.placed) n q row → q.presence ≢ Repeated
    → IsFull row → IsOf q x → IsDone o n x
full_done o n x q row is ne full of =
    let all = is.all ne in
    let low = of.from in
    let high = of.below in
    let e : q.first + (x - q.first) ≡ x = omega (arith, low) in
    subst (IsDone o n) e (done_of_place o n (x - q.first) q row is (full (x - q.first) (omega (arith, all, low, high))))

follows_block : (t : TableView) (o : OrderView) (rows : List (List ℕ)) (n : ℕ) (q : PointView) (row : List ℕ) → All (IsPlacedRight t) o.placed
    → AreRows t o (length o.placed) rows → slice_get t.points n ≡ Some q → slice_get rows n ≡ Some row → FollowsRow t rows n q
    → (x i : ℕ) → IsDoneAt o n x i → FollowsItsBlock o n x i
follows_block t o rows n q row right are its at follows x i done =
    let same : row ≡ follows.row = some_same row follows.row (sym at ∙ follows.at) in
    let is = are.each n q row its at in
    let b = are.each follows.before follows.point follows.row_before follows.its follows.at_before in
    let low : q.first ≤ x = done_low t o n x i q right its done in
    let back : q.first + (x - q.first) ≡ x = omega (arith, low) in
    let there : slice_index row (x - q.first) ≡ i + 1 = done_row o n x i q row is follows.kept done in
    let there' : slice_index follows.row (x - q.first) ≡ i + 1 = subst (λ (r : List ℕ). slice_index r (x - q.first) ≡ i + 1) same there in
    let was0 = follows.after (x - q.first) (λ none. absurd (omega (arith, none, there'))) in
    let was : WasBefore follows.row_before follows.point.first x (i + 1) =
    subst (λ (m : ℕ). WasBefore follows.row_before follows.point.first x m) there'
    (subst (λ (y : ℕ). WasBefore follows.row_before follows.point.first y (slice_index follows.row (x - q.first))) back was0) in
    let a = x - follows.point.first in
    let low' = was.low in
    let back' : follows.point.first + a ≡ x = omega (arith, low') in
    let value = from_one (slice_index follows.row_before a) was.there in
    let earlier = was.earlier in
    record {
      before = follows.before;
      next = follows.next;
      position = slice_index follows.row_before a - 1;
      earlier = omega (arith, value, earlier);
      done = subst (λ (y : ℕ). IsDoneAt o follows.before y (slice_index follows.row_before a - 1)) back' (b.sound a (slice_index follows.row_before a - 1) value);
    }

not_repeated_sure : (q : PointView) → q.presence ≡ Sure → q.presence ≢ Repeated
not_repeated_sure q e f = cc

not_repeated_one : (q : PointView) → q.presence ≡ OneOf → q.presence ≢ Repeated
not_repeated_one q e f = cc

not_repeated_together : (q : PointView) → q.presence ≡ Together → q.presence ≢ Repeated
not_repeated_together q e f = cc

one_block : (t : TableView) (o : OrderView) (n : ℕ) (q : PointView) (row : List ℕ) → All (IsPlacedRight t) o.placed → slice_get t.points n ≡ Some q
    → IsRowOf o (length o.placed) n q row → q.presence ≢ Repeated → HasOne row
    → (x y i j : ℕ) → IsDoneAt o n x i → IsDoneAt o n y j → x ≡ y
one_block t o n q row right its is ne one x y i j dx dy =
    let lx = done_low t o n x i q right its dx in
    let ly = done_low t o n y j q right its dy in
    let wx = done_row o n x i q row is ne dx in
    let wy = done_row o n y j q row is ne dy in
    let ax = one.alone (x - q.first) (λ none. absurd (omega (arith, none, wx))) in
    let ay = one.alone (y - q.first) (λ none. absurd (omega (arith, none, wy))) in
    omega (arith, lx, ly, ax, ay)

together_all : (t : TableView) (o : OrderView) (n : ℕ) (q : PointView) (row : List ℕ)
    → IsRowOf o (length o.placed) n q row → q.presence ≢ Repeated → IsFull row ⊎ IsEmpty row
    → (x y i : ℕ) → IsDoneAt o n x i → IsOf q y → IsDone o n y
together_all t o n q row is ne full x y i done of =
    elim full [
      | inl f ↦ full_done o n y q row is ne f of
      | inr empty ↦ let none = empty (x - q.first) in let there = done_row o n x i q row is ne done in absurd (omega (arith, none, there))
    ]

pub present_of : (t : TableView) (o : OrderView) (rows : List (List ℕ)) (n : ℕ) (q : PointView) (row : List ℕ) → All (IsPlacedRight t) o.placed
    → AreRows t o (length o.placed) rows → slice_get t.points n ≡ Some q → slice_get rows n ≡ Some row
    → IsAsPresent q row → (q.after ≡ true → FollowsRow t rows n q) → IsPresent o n q
present_of t o rows n q row right are its at present follows =
    let is = are.each n q row its at in
    record {
      once = λ ne x i j di dj.
          let wi = done_row o n x i q row is ne di in let wj = done_row o n x j q row is ne dj in omega (arith, wi, wj);
      sure = λ e x of. full_done o n x q row is (not_repeated_sure q e) (present.sure e) of;
      some = λ e. let one = present.one e in (q.first + one.place, done_of_place o n one.place q row is one.there);
      one = λ e. one_block t o n q row right its is (not_repeated_one q e) (present.one e);
      together = λ e. together_all t o n q row is (not_repeated_together q e) (present.together e);
      after = λ e. follows_block t o rows n q row right are its at (follows e);
    }

-- The rows of an order in which each point is there as its presence says.

full_to : (row : List ℕ) (n : ℕ) → ((a : ℕ) → a < n → slice_index row a ≢ 0) ⊎ ((a : ℕ) × ((a < n) × (slice_index row a ≡ 0)))
full_to row zero = inl (λ a less none. absurd (omega arith))
full_to row (suc n) =
    elim (full_to row n) [
      | inr gap ↦ inr (gap.0, (omega (arith, gap.1.0), gap.1.1))
      | inl full ↦ elim (cases_eq (slice_index row n) 0) [
        | inl none ↦ inr (n, (omega arith, none))
        | inr there ↦ inl (λ a less. elim (earlier_or_last a n (omega arith)) [
          | inl h ↦ full a h
          | inr e ↦ subst (λ (b : ℕ). slice_index row b ≢ 0) (sym e) there
        ])
      ]
    ]

place_of_done : (t : TableView) (o : OrderView) (n a : ℕ) (q : PointView) (row : List ℕ) → IsRowOf o (length o.placed) n q row → q.presence ≢ Repeated
    → IsDone o n (q.first + a) → slice_index row a ≢ 0
place_of_done t o n a q row is ne done none =
    let there = done_row o n (q.first + a) done.position q row is ne done.done in
    let e : q.first + a - q.first ≡ a = omega arith in
    let there' : slice_index row a ≡ done.position + 1 = subst (λ (b : ℕ). slice_index row b ≡ done.position + 1) e there in
    omega (arith, none, there')

sure_full : (t : TableView) (o : OrderView) (n : ℕ) (q : PointView) (row : List ℕ) → IsRowOf o (length o.placed) n q row → q.presence ≢ Repeated
    → ((x : ℕ) → IsOf q x → IsDone o n x) → IsFull row
sure_full t o n q row is ne all a less =
    let many = is.all ne in
    place_of_done t o n a q row is ne (all (q.first + a) (record { from = omega arith; below = omega (arith, less, many) }))

one_of_present : (t : TableView) (o : OrderView) (n : ℕ) (q : PointView) (row : List ℕ) → All (IsPlacedRight t) o.placed → slice_get t.points n ≡ Some q
    → IsRowOf o (length o.placed) n q row → q.presence ≢ Repeated → (some : (x : ℕ) × IsDone o n x)
    → ((x y i j : ℕ) → IsDoneAt o n x i → IsDoneAt o n y j → x ≡ y) → HasOne row
one_of_present t o n q row right its is ne some one =
    let x = some.0 in
    let done = some.1 in
    let low = done_low t o n x done.position q right its done.done in
    let there = done_row o n x done.position q row is ne done.done in
    record {
      place = x - q.first;
      there = λ none. absurd (omega (arith, there, none));
      alone = λ a ne'.
          let other = done_of_place o n a q row is ne' in
          let same = one (q.first + a) x other.position done.position other.done done.done in omega (arith, same, low);
    }

together_of_present : (t : TableView) (o : OrderView) (n : ℕ) (q : PointView) (row : List ℕ) → IsRowOf o (length o.placed) n q row
    → q.presence ≢ Repeated → ((x y i : ℕ) → IsDoneAt o n x i → IsOf q y → IsDone o n y) → IsFull row ⊎ IsEmpty row
together_of_present t o n q row is ne together =
    elim (full_to row (length row)) [
      | inl full ↦ inl full
      | inr gap ↦ inr (λ a. elim (cases_eq (slice_index row a) 0) [
        | inl none ↦ none
        | inr there ↦
            let done = done_of_place o n a q row is there in
            let many = is.all ne in
            let less = gap.1.0 in
            let of : IsOf q (q.first + gap.0) = record { from = omega arith; below = omega (arith, less, many) } in
            absurd (place_of_done t o n gap.0 q row is ne (together (q.first + a) (q.first + gap.0) done.position done.done of) gap.1.1)
      ])
    ]

pub as_present : (t : TableView) (o : OrderView) (n : ℕ) (q : PointView) (row : List ℕ) → All (IsPlacedRight t) o.placed → slice_get t.points n ≡ Some q
    → IsRowOf o (length o.placed) n q row → IsPresent o n q → IsAsPresent q row
as_present t o n q row right its is present =
    record {
      sure = λ e. sure_full t o n q row is (not_repeated_sure q e) (present.sure e);
      one = λ e. one_of_present t o n q row right its is (not_repeated_one q e) (present.some e) (present.one e);
      together = λ e. together_of_present t o n q row is (not_repeated_together q e) (present.together e);
    }

-- What is done of a point that comes after the one before it was done earlier of that one.
pub after_present : (t : TableView) (o : OrderView) (rows : List (List ℕ)) (n : ℕ) (q b : PointView) (row before : List ℕ)
    → All (IsPlacedRight t) o.placed → AreRows t o (length o.placed) rows → 0 < n
    → slice_get t.points n ≡ Some q → slice_get rows n ≡ Some row → slice_get t.points (n - 1) ≡ Some b → slice_get rows (n - 1) ≡ Some before
    → b.presence ≢ Repeated → ((x i : ℕ) → IsDoneAt o n x i → FollowsItsBlock o n x i) → ComesAfter row q.first before b.first
after_present t o rows n q b row before right are more its at its' at' ne follows a there =
    let value = from_one (slice_index row a) there in
    let done = (are.each n q row its at).sound a (slice_index row a - 1) value in
    let f = follows (q.first + a) (slice_index row a - 1) done in
    let next = f.next in
    let e : f.before ≡ n - 1 = omega (arith, next) in
    let earlier = f.earlier in
    let was : IsDoneAt o (n - 1) (q.first + a) f.position = subst (λ (m : ℕ). IsDoneAt o m (q.first + a) f.position) e f.done in
    let low = done_low t o (n - 1) (q.first + a) f.position b right its' was in
    let here = done_row o (n - 1) (q.first + a) f.position b before (are.each (n - 1) b before its' at') ne was in
    record {
      low = low;
      there = λ none. absurd (omega (arith, none, here));
      earlier = omega (arith, here, value, earlier);
    }
