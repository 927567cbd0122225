-- Who left in a block what it holds as a position of an explanation comes.
use Rattle.std.proofs.Common.{◌≡◌, ◌≢◌, ◌⊎◌, ℕ, zero, suc, ◌+◌, ◌-◌, ◌<◌, ◌≤◌, Bool, true, false, inl, inr, Option, Some, None, length, slice_get, get_or, ap, sym, subst, refl, ◌∙◌, arith}
use Rattle.std.proofs.lemmas.Option.{slice_get-get_or}
use Rattle.nvm_record.specs.declared.block.Block.{Block}
use Rattle.nvm_record.specs.Medium.{Medium}
use Rattle.nvm_standard.specs.PointView.{PointView, TableView, PutView, leaves, puts, zeroes, mark, deallocates, anything}
use Rattle.nvm_standard.specs.Clauses.{is_put}
use Rattle.nvm_standard.specs.Contents.{after, after_point, blocks_before, first_blocks, has_block, put_at, put_over}
use Rattle.nvm_standard.specs.Explanation.{IsExplanation, IsPlacedRight}
use Rattle.nvm_standard.specs.Fits.{IsAllowed}
use Rattle.nvm_standard.specs.OrderView.{OrderView, PlacedView, ValueView, as_is, puts as puts_this}
use Rattle.nvm_standard.specs.Places.{StandsAt, HasBlock}
use Rattle.nvm_standard.proofs.Blocks.{before_first, before_next}
use Rattle.nvm_standard.proofs.Standing.{earlier_or_last, same_placed, same_point}

-- Nothing is put in the block from one position up to another.
abbrev pub Silent : TableView → OrderView → ℕ → ℕ → ℕ → Type 0
Silent t o i k x =
    (j : ℕ) (p : PlacedView) (q : PointView) → i ≤ j → j < k → StandsAt t o j p q → HasBlock p x
    → put_at t.block_size q.put p.value (x - q.first) ≡ None

-- What is in the block as position k comes was put at an earlier one, and nothing since.
pub record LeftBy (t : TableView) (o : OrderView) (k x : ℕ) : Type 0 where
  pub i : ℕ
  pub below : i < k
  pub p : PlacedView
  pub q : PointView
  pub stands : StandsAt t o i p q
  pub block : HasBlock p x
  pub puts : put_at t.block_size q.put p.value (x - q.first) ≡ Some (blocks_before t o k x)
  pub silent : Silent t o (i + 1) k x

-- It was there at first.
pub record LeftFirst (t : TableView) (o : OrderView) (k x : ℕ) : Type 0 where
  pub is : blocks_before t o k x ≡ first_blocks t o x
  pub silent : Silent t o 0 k x

-- what a point leaves in a block that it has, and in another
here : (size : ℕ) (q : PointView) (p : PlacedView) (m : Medium) (x : ℕ) → HasBlock p x
    → after_point size (Some q) p m x ≡ put_over (put_at size q.put p.value (x - q.first)) (m x)
here size q p m x has = let low = has.from in let high = has.below in grind arith

there : (size : ℕ) (q : PointView) (p : PlacedView) (m : Medium) (x : ℕ) → has_block p x ≡ false → after_point size (Some q) p m x ≡ m x
there size q p m x out = grind arith

has_it : (p : PlacedView) (x : ℕ) → has_block p x ≡ true → HasBlock p x
has_it p x e = record { from = grind arith; below = grind arith }

not_it : (p : PlacedView) (x : ℕ) → has_block p x ≡ false → HasBlock p x → ⊥
not_it p x e has = let low = has.from in let high = has.below in grind arith

after_is : (t : TableView) (q : PointView) (p : PlacedView) (m : Medium) (x : ℕ) → slice_get t.points p.point ≡ Some q
    → after t p m x ≡ after_point t.block_size (Some q) p m x
unfolding after
after_is t q p m x its = ap (λ (r : Option PointView). after_point t.block_size r p m x) its

module _ (t : TableView) (o : OrderView) (x : ℕ) where
  silent_more : (i k : ℕ) (p : PlacedView) (q : PointView) → StandsAt t o k p q
      → (HasBlock p x → put_at t.block_size q.put p.value (x - q.first) ≡ None) → Silent t o i k x → Silent t o i (k + 1) x
  silent_more i k p q s none silent j p' q' low below s' has =
      elim (earlier_or_last j k below) [
        | inl h ↦ silent j p' q' low h s' has
        | inr same ↦
            let at : StandsAt t o k p' q' = subst (λ (m : ℕ). StandsAt t o m p' q') same s' in
            let ep : p' ≡ p = same_placed t o k p' p q' q at s in
            let eq : q' ≡ q = same_point t o k p' p q' q at s in
            let has' : HasBlock p x = subst (λ (r : PlacedView). HasBlock r x) ep has in
            subst (λ (r : PlacedView). put_at t.block_size q'.put r.value (x - q'.first) ≡ None) (sym ep)
            (subst (λ (r : PointView). put_at t.block_size r.put p.value (x - r.first) ≡ None) (sym eq) (none has'))
      ]

  next : (k : ℕ) (p : PlacedView) (q : PointView) → StandsAt t o k p q
      → blocks_before t o (k + 1) x ≡ after_point t.block_size (Some q) p (blocks_before t o k) x
  next k p q s = ap (λ (n : Medium). n x) (before_next t o k p q s) ∙ after_is t q p (blocks_before t o k) x s.its

  -- Nothing was put at the position.
  unchanged : (k : ℕ) (p : PlacedView) (q : PointView) → StandsAt t o k p q
      → (HasBlock p x → put_at t.block_size q.put p.value (x - q.first) ≡ None) → (b : Bool) → has_block p x ≡ b
      → blocks_before t o (k + 1) x ≡ blocks_before t o k x
  unchanged k p q s none false e = next k p q s ∙ there t.block_size q p (blocks_before t o k) x e
  unchanged k p q s none true e =
      let has = has_it p x e in
      next k p q s ∙ (here t.block_size q p (blocks_before t o k) x has ∙ ap (λ (n : Option Block). put_over n (blocks_before t o k x)) (none has))

  -- Where nothing is put, the block holds what it held.
  pub same_on : IsExplanation t o → (i j k : ℕ) → i ≤ j → j ≤ k → k ≤ length o.placed → Silent t o i k x
      → blocks_before t o k x ≡ blocks_before t o j x
  same_on ex i j zero low up most silent =
      let e : zero ≡ j = omega (arith, up) in subst (λ (n : ℕ). blocks_before t o zero x ≡ blocks_before t o n x) e refl
  same_on ex i j (suc k) low up most silent = elim (earlier_or_last j (suc k) (omega (arith, up))) [
    | inl less ↦
        let d : PlacedView = record { point = 0; first = 0; blocks = 0; value = as_is } in
        let inside : k < length o.placed = omega (arith, most) in
        let p = get_or o.placed k d in
        let right : IsPlacedRight t p = ex.fits k d inside in
        let s : StandsAt t o k p right.point = record { placed = slice_get-get_or o.placed k d inside; its = right.its } in
        let more : k + 1 ≡ suc k = omega arith in
        let one : blocks_before t o (k + 1) x ≡ blocks_before t o k x =
        unchanged k p right.point s (silent k p right.point (omega (arith, low, less)) (omega arith) s) (has_block p x) refl in
        subst (λ (n : ℕ). blocks_before t o n x ≡ blocks_before t o j x) more
        (one
        ∙ same_on ex i j k low (omega (arith, less)) (omega (arith, most))
        (λ m p' q' from below s' has. silent m p' q' from (omega (arith, below)) s' has))
    | inr same ↦ subst (λ (n : ℕ). blocks_before t o (suc k) x ≡ blocks_before t o n x) (sym same) refl
  ]

  kept : (k : ℕ) (p : PlacedView) (q : PointView) → StandsAt t o k p q
      → (HasBlock p x → put_at t.block_size q.put p.value (x - q.first) ≡ None) → LeftBy t o k x ⊎ LeftFirst t o k x
      → LeftBy t o (k + 1) x ⊎ LeftFirst t o (k + 1) x
  kept k p q s none (inl by) =
      let same = unchanged k p q s none (has_block p x) refl in
      let below = by.below in
      inl (record {
        i = by.i;
        below = omega (arith, below);
        p = by.p;
        q = by.q;
        stands = by.stands;
        block = by.block;
        puts = by.puts ∙ ap Some (sym same);
        silent = silent_more (by.i + 1) k p q s none by.silent;
      })
  kept k p q s none (inr first) =
      inr (record { is = unchanged k p q s none (has_block p x) refl ∙ first.is; silent = silent_more 0 k p q s none first.silent })

  step : (k : ℕ) (p : PlacedView) (q : PointView) → StandsAt t o k p q → LeftBy t o k x ⊎ LeftFirst t o k x → (b : Bool) → has_block p x ≡ b
      → (r : Option Block) → put_at t.block_size q.put p.value (x - q.first) ≡ r → LeftBy t o (k + 1) x ⊎ LeftFirst t o (k + 1) x
  step k p q s before b e r put = by b e r put
    where
      m : Medium
      m = blocks_before t o k

      by : (b : Bool) → has_block p x ≡ b → (r : Option Block) → put_at t.block_size q.put p.value (x - q.first) ≡ r
          → LeftBy t o (k + 1) x ⊎ LeftFirst t o (k + 1) x
      by false e r put = kept k p q s (λ has. absurd (not_it p x e has)) before
      by true e None put = kept k p q s (λ _. put) before
      by true e (Some new) put =
          let is : blocks_before t o (k + 1) x ≡ new =
          next k p q s ∙ (here t.block_size q p m x (has_it p x e) ∙ ap (λ (n : Option Block). put_over n (m x)) put) in
          inl (record {
            i = k;
            below = omega arith;
            p = p;
            q = q;
            stands = s;
            block = has_it p x e;
            puts = put ∙ ap Some (sym is);
            silent = λ j p' q' low below s' has. absurd (omega (arith, low, below));
          })

  pub left : IsExplanation t o → (k : ℕ) → k ≤ length o.placed → LeftBy t o k x ⊎ LeftFirst t o k x
  left ex zero most =
      inr (record { is = ap (λ (n : Medium). n x) (before_first t o); silent = λ j p q low below s has. absurd (omega (arith, below)) })
  left ex (suc k) most =
      let d : PlacedView = record { point = 0; first = 0; blocks = 0; value = as_is } in
      let inside : k < length o.placed = omega (arith, most) in
      let p = get_or o.placed k d in
      let right : IsPlacedRight t p = ex.fits k d inside in
      let s : StandsAt t o k p right.point = record { placed = slice_get-get_or o.placed k d inside; its = right.its } in
      let same : k + 1 ≡ suc k = omega arith in
      subst (λ (n : ℕ). LeftBy t o n x ⊎ LeftFirst t o n x) same
      (step k p right.point s (left ex k (omega (arith, most))) (has_block p x) refl
      (put_at t.block_size right.point.put p.value (x - right.point.first)) refl)

-- What is put is something.
pub puts_some : (t : TableView) (put : PutView) (value : ValueView) (i : ℕ) → is_put put ≡ true → IsAllowed t put value
    → put_at t.block_size put value i ≢ None
puts_some t leaves value i is allowed none = cc
puts_some t (puts payload) value i is allowed none = cc
puts_some t zeroes value i is allowed none = cc
puts_some t mark value i is allowed none = cc
puts_some t deallocates as_is i is allowed none = allowed
puts_some t deallocates (puts_this content) i is allowed none = cc
puts_some t anything as_is i is allowed none = allowed
puts_some t anything (puts_this content) i is allowed none = cc
