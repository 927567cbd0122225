-- At which positions of an explanation a point is done in a block.
use Rattle.std.proofs.Common.{◌≡◌, ◌≢◌, ℕ, ◌<◌, Bool, true, false, if◌then◌else◌, Option, Some, slice_get, sym, subst, refl, ◌∙◌, arith}
use Rattle.nvm_standard.specs.PointView.{PointView, TableView}
use Rattle.nvm_standard.specs.declared.point.Presence.TheVariants.{Repeated}
use Rattle.nvm_standard.specs.Contents.{first_blocks}
use Rattle.nvm_standard.specs.Explanation.{IsExplanation}
use Rattle.nvm_standard.specs.Fits.{FitsPoint}
use Rattle.nvm_standard.specs.OrderView.{OrderView, PlacedView}
use Rattle.nvm_standard.specs.Places.{StandsAt, HasBlock, IsDoneAt, IsOf}
use Rattle.nvm_standard.proofs.Standing.{fits_its, placed_right, some_same}
use Rattle.nvm_standard.specs.Nodes.{block_at, named_at, node_at}
use Rattle.nvm_standard.specs.Serving.{FindsThere}
use Rattle.nvm_standard.specs.declared.node.Node.{Node}

module _ (t : TableView) (o : OrderView) (e : IsExplanation t o) where
  pub fits_of : (i : ℕ) (p : PlacedView) (q : PointView) → StandsAt t o i p q → FitsPoint t p q
  fits_of i p q s = fits_its t p q (placed_right t o i p e.fits s.placed) s.its

  -- The point of number n stands there.
  pub stands_done : (n x i : ℕ) (q : PointView) (d : IsDoneAt o n x i) → slice_get t.points n ≡ Some q → StandsAt t o i d.p q
  stands_done n x i q d its = record { placed = d.placed; its = subst (λ (m : ℕ). slice_get t.points m ≡ Some q) (sym d.its) its }

  -- What is done is a point of the table.
  pub record Its (n : ℕ) : Type 0 where
    pub point : PointView
    pub its : slice_get t.points n ≡ Some point

  pub its_of : (n x i : ℕ) → IsDoneAt o n x i → Its n
  its_of n x i d =
      let right = placed_right t o i d.p e.fits d.placed in
      record { point = right.point; its = subst (λ (m : ℕ). slice_get t.points m ≡ Some right.point) d.its right.its }

  pub of_done : (n x i : ℕ) (q : PointView) → IsDoneAt o n x i → slice_get t.points n ≡ Some q → IsOf q x
  of_done n x i q d its =
      let fits = fits_of i d.p q (stands_done n x i q d its) in
      let from = fits.from in
      let to = fits.to in
      let low = d.block.from in
      let high = d.block.below in
      record { from = omega (arith, from, low); below = omega (arith, to, high) }

  -- at the block that names it
  named : (n x i : ℕ) (q : PointView) → slice_get t.points n ≡ Some q → (b : Bool) → q.each ≡ b → IsDoneAt o n x i
      → IsDoneAt o n (if b then x else q.first) i
  named n x i q its true each d = d
  named n x i q its false each d =
      let fits = fits_of i d.p q (stands_done n x i q d its) in
      let some = fits.some in
      let from = fits.from in
      let to = fits.to in
      let whole = fits.whole each in
      record { p = d.p; placed = d.placed; its = d.its; block = record { from = omega (arith, from, to, whole); below = omega (arith, some, from) } }

  pub to_named : (n x i : ℕ) → IsDoneAt o n x i → IsDoneAt o n (node_at t n x).block i
  unfolding block_at
  to_named n x i d =
      let of = its_of n x i d in
      let q = of.point in
      subst (λ (r : Option PointView). IsDoneAt o n (named_at r x) i) (sym of.its) (named n x i q of.its q.each refl d)

  unnamed : (n x i : ℕ) (q : PointView) → slice_get t.points n ≡ Some q → IsOf q x → (b : Bool) → q.each ≡ b
      → IsDoneAt o n (if b then x else q.first) i → IsDoneAt o n x i
  unnamed n x i q its of true each d = d
  unnamed n x i q its of false each d =
      let fits = fits_of i d.p q (stands_done n q.first i q d its) in
      let from = fits.from in
      let whole = fits.whole each in
      let low = d.block.from in
      let least = of.from in
      let most = of.below in
      record {
        p = d.p;
        placed = d.placed;
        its = d.its;
        block = record { from = omega (arith, low, least); below = omega (arith, from, low, most, whole) };
      }

  pub from_named : (n x i : ℕ) (q : PointView) → slice_get t.points n ≡ Some q → IsOf q x → IsDoneAt o n (node_at t n x).block i
      → IsDoneAt o n x i
  unfolding block_at
  from_named n x i q its of d =
      unnamed n x i q its of q.each refl (subst (λ (r : Option PointView). IsDoneAt o n (named_at r x) i) its d)

  -- Where all blocks are done at one moment, so is another.
  pub whole_done : (n x y i : ℕ) (q : PointView) (d : IsDoneAt o n x i) → slice_get t.points n ≡ Some q → q.each ≡ false → IsOf q y → HasBlock d.p y
  whole_done n x y i q d its each of =
      let fits = fits_of i d.p q (stands_done n x i q d its) in
      let from = fits.from in
      let to = fits.to in
      let whole = fits.whole each in
      let least = of.from in
      let most = of.below in
      record { from = omega (arith, to, whole, least); below = omega (arith, from, whole, most) }

  -- Two at one position are one.
  pub one_there : (n m x y i : ℕ) → IsDoneAt o n x i → IsDoneAt o m y i → n ≡ m
  one_there n m x y i d f =
      let same : d.p ≡ f.p = some_same d.p f.p (sym d.placed ∙ f.placed) in
      sym d.its ∙ (subst (λ (p : PlacedView). d.p.point ≡ p.point) same refl ∙ f.its)

  pub once_done : (n x i j : ℕ) (q : PointView) → slice_get t.points n ≡ Some q → q.presence ≢ Repeated → IsDoneAt o n x i → IsDoneAt o n x j
      → i ≡ j
  once_done n x i j q its ne d f = (e.present n q its).once ne x i j d f

-- The one comes before the other.
abbrev pub Precedes : OrderView → Node → Node → Type 0
Precedes o a b = (i j : ℕ) → IsDoneAt o a.point a.block i → IsDoneAt o b.point b.block j → i < j

-- The reader may find in the block what was there at first.
abbrev pub IsFirst : TableView → OrderView → Node → Type 0
IsFirst t o a =
    (q : PointView) → slice_get t.points a.point ≡ Some q → FindsThere t q a.block (first_blocks t o a.block)
