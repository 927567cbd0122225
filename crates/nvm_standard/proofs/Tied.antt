-- What the rows of a whole order say of entries beside tied points.
use Rattle.std.proofs.Common.{◌≡◌, ◌≢◌, ℕ, ◌+◌, ◌-◌, ◌<◌, true, false, List, Some, All, length, slice_get, slice_index, sym, subst, ◌∙◌, arith}
use Rattle.std.proofs.lemmas.Option.{slice_get_within}
use Rattle.nvm_standard.specs.PointView.{PointView, TableView}
use Rattle.nvm_standard.specs.declared.point.Presence.TheVariants.{Repeated}
use Rattle.nvm_standard.specs.Clauses.{KeepsTied}
use Rattle.nvm_standard.specs.Explanation.{IsPlacedRight}
use Rattle.nvm_standard.specs.Inside.Done.{IsRowOf}
use Rattle.nvm_standard.specs.Inside.Right.{KeepsTiedOne, StaysOut}
use Rattle.nvm_standard.specs.OrderView.{OrderView, PlacedView}
use Rattle.nvm_standard.specs.Places.{StandsAt, HasBlock, IsDoneAt}
use Rattle.nvm_standard.proofs.Present.{done_low, done_row, from_one}
use Rattle.nvm_standard.proofs.Standing.{some_same}

same_its : (t : TableView) (o : OrderView) (i n : ℕ) (p : PlacedView) (q q' : PointView) → StandsAt t o i p q' → p.point ≡ n
    → slice_get t.points n ≡ Some q → q' ≡ q
same_its t o i n p q q' s is its =
    let its' : slice_get t.points n ≡ Some q' = subst (λ (m : ℕ). slice_get t.points m ≡ Some q') is s.its in
    some_same q' q (sym its' ∙ its)

pub untied_one : (t : TableView) (o : OrderView) (n : ℕ) (q : PointView) → slice_get t.points n ≡ Some q → q.tied ≡ false → KeepsTiedOne t o n
untied_one t o n q its untied i j k x y p p' q0 q' less more s tied is has s' put each hasx hasy done =
    let e : q0 ≡ q = same_its t o i n p q q0 s is its in
    let tied' : q.tied ≡ true = subst (λ (r : PointView). r.tied ≡ true) e tied in cc

pub tied_one : (t : TableView) (o : OrderView) (n : ℕ) (q : PointView) (row : List ℕ) → All (IsPlacedRight t) o.placed → slice_get t.points n ≡ Some q
    → q.presence ≢ Repeated → IsRowOf o (length o.placed) n q row → ((j : ℕ) → StaysOut t o row q.first j) → KeepsTiedOne t o n
tied_one t o n q row right its ne is out i j k x y p p' q0 q' less more s tied at has s' put each hasx hasy done =
    let donex : IsDoneAt o n x i = record { p = p; placed = s.placed; its = at; block = has } in
    let lx = done_low t o n x i q right its donex in
    let ly = done_low t o n y k q right its done in
    let wx = done_row o n x i q row is ne donex in
    let wy = done_row o n y k q row is ne done in
    let bx : x ≡ q.first + (x - q.first) = omega (arith, lx) in
    let by' : y ≡ q.first + (y - q.first) = omega (arith, ly) in
    out j p' q' s' put each (x - q.first) (y - q.first) (subst (HasBlock p') bx hasx) (subst (HasBlock p') by' hasy)
    (λ none. absurd (omega (arith, none, wx))) (omega (arith, wx, less)) (omega (arith, wy, more))

pub tied_all : (t : TableView) (o : OrderView) → ((n : ℕ) → n < length t.points → KeepsTiedOne t o n) → KeepsTied t o
tied_all t o each i j k n x y p p' q q' less more s tied is has s' put entry hasx hasy done =
    let inside : p.point < length t.points = slice_get_within t.points p.point q s.its in
    each n (omega (arith, inside, is)) i j k x y p p' q q' less more s tied is has s' put entry hasx hasy done

-- In an order that keeps it no entry is between two blocks of a tied point.
pub out_of_keeps : (t : TableView) (o : OrderView) (n : ℕ) (q : PointView) (row : List ℕ) → slice_get t.points n ≡ Some q → q.tied ≡ true
    → IsRowOf o (length o.placed) n q row → KeepsTied t o → (j : ℕ) → StaysOut t o row q.first j
out_of_keeps t o n q row its tied is keeps j p' q' s' put each a b hasa hasb ne before past =
    let va = from_one (slice_index row a) ne in
    let da = is.sound a (slice_index row a - 1) va in
    let vb : slice_index row b ≡ slice_index row b - 1 + 1 = omega (arith, past) in
    let db = is.sound b (slice_index row b - 1) vb in
    let at : slice_get t.points da.p.point ≡ Some q = subst (λ (m : ℕ). slice_get t.points m ≡ Some q) (sym da.its) its in
    keeps (slice_index row a - 1) j (slice_index row b - 1) n (q.first + a) (q.first + b) da.p p' q q' (omega (arith, va, before))
    (omega (arith, vb, past)) (record { placed = da.placed; its = at }) tied da.its da.block s' put each hasa hasb db
