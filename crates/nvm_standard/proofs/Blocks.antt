-- The blocks as an order goes on, and the contents that are kept of them.
use Rattle.std.proofs.Common.{◌≡◌, ◌≢◌, ℕ, ◌+◌, ◌-◌, ◌<◌, ◌≤◌, inl, inr, List, [], ◌∷◌, ◌++◌, Option, Some, None, length, take, slice_get, get_or, ap, sym, subst, refl, ◌∙◌, arith}
use Rattle.std.proofs.Math.ListN.{set}
use Rattle.std.proofs.lemmas.List.{length-set}
use Rattle.std.proofs.lemmas.Bool.{cases_eq}
use Rattle.std.proofs.lemmas.List.{take_more}
use Rattle.std.proofs.lemmas.Option.{slice_get_within, get_or_from_slice_get}
use Rattle.nvm_record.specs.declared.block.Block.{Block}
use Rattle.nvm_record.specs.Medium.{Medium}
use Rattle.nvm_standard.specs.PointView.{PointView, TableView}
use Rattle.nvm_standard.specs.Clauses.{FindsContents}
use Rattle.nvm_standard.specs.Contents.{after, after_all, after_point, blocks_before, first_blocks, put_at, put_over, MayFind}
use Rattle.nvm_standard.specs.Inside.Held.{Holds, FindsTo, after_blocks}
use Rattle.nvm_standard.specs.OrderView.{OrderView, PlacedView, ContentView, block_of}
use Rattle.nvm_standard.specs.Places.{StandsAt, HasBlock}
use Rattle.nvm_standard.proofs.Setting.{set_other, set_same}
use Rattle.nvm_standard.proofs.Standing.{earlier_or_last, same_placed, same_point, within}

after_all-append : (t : TableView) (ps qs : List PlacedView) (m : Medium) → after_all t (ps ++ qs) m ≡ after_all t qs (after_all t ps m)
after_all-append t [] qs m = refl
after_all-append t (p ∷ ps) qs m = after_all-append t ps qs (after t p m)

-- One more position is done.
pub before_next : (t : TableView) (o : OrderView) (k : ℕ) (p : PlacedView) (q : PointView) → StandsAt t o k p q
    → blocks_before t o (k + 1) ≡ after t p (blocks_before t o k)
unfolding blocks_before
before_next t o k p q s =
    let inside : k < length o.placed = slice_get_within o.placed k p s.placed in
    let more = take_more o.placed k p inside in
    let here : get_or o.placed k p ≡ p = get_or_from_slice_get o.placed k p p s.placed in
    ap (λ (ps : List PlacedView). after_all t ps (first_blocks t o)) (more ∙ ap (λ (r : PlacedView). take k o.placed ++ r ∷ []) here)
    ∙ after_all-append t (take k o.placed) (p ∷ []) (first_blocks t o)

pub before_first : (t : TableView) (o : OrderView) → blocks_before t o 0 ≡ first_blocks t o
unfolding blocks_before
before_first t o = refl

pub same_medium : (t : TableView) (held : List ContentView) (m n : Medium) → ((x : ℕ) → m x ≡ n x) → Holds t held m → Holds t held n
same_medium t held m n same holds =
    record { all = holds.all; each = λ x c h. holds.each x c h ∙ same x }

-- One block is set.
pub one_set : (t : TableView) (held : List ContentView) (m n : Medium) (b : ℕ) (c : ContentView) → Holds t held m
    → n b ≡ block_of t.block_size c → ((x : ℕ) → x ≢ b → n x ≡ m x) → Holds t (set held b c) n
one_set t held m n b c holds here there =
    record {
      all = length-set held b c ∙ holds.all;
      each = λ x d h. elim (cases_eq x b) [
        | inl same ↦
            subst (λ (y : ℕ). block_of t.block_size d ≡ n y) (sym same)
            (ap (block_of t.block_size) (sym (set_same held b c d (subst (λ (y : ℕ). slice_get (set held b c) y ≡ Some d) same h))) ∙ sym here)
        | inr ne ↦ holds.each x d (set_other held b x c d ne h) ∙ sym (there x ne)
      ];
    }

-- Where nothing of it is done yet, it is the medium.
pub none_after : (size : ℕ) (q : PointView) (p : PlacedView) (m : Medium) (x : ℕ) → m x ≡ after_blocks size q p p.first m x
none_after size q p m x = grind arith

-- Where all of it is done, it is the medium after it.
pub all_after : (t : TableView) (o : OrderView) (q : PointView) (p : PlacedView) (m : Medium) → slice_get t.points p.point ≡ Some q
    → (x : ℕ) → after_blocks t.block_size q p (p.first + p.blocks) m x ≡ after t p m x
unfolding after
all_after t o q p m its x = sym (ap (λ (r : Option PointView). after_point t.block_size r p m x) its)

pub finds_more : (t : TableView) (o : OrderView) (k : ℕ) (p0 : PlacedView) (q0 : PointView) → StandsAt t o k p0 q0
    → ((x : ℕ) → HasBlock p0 x → MayFind t.block_size q0.found (x - q0.first) (blocks_before t o k x))
    → FindsTo t o k → FindsTo t o (k + 1)
finds_more t o k p0 q0 s0 here before i p q x below s has =
    elim (earlier_or_last i k below) [
      | inl h ↦ before i p q x h s has
      | inr e ↦
          let s' : StandsAt t o k p q = subst (λ (j : ℕ). StandsAt t o j p q) e s in
          let has' : HasBlock p0 x = subst (λ (r : PlacedView). HasBlock r x) (same_placed t o k p p0 q q0 s' s0) has in
          subst (λ (j : ℕ). MayFind t.block_size q.found (x - q.first) (blocks_before t o j x)) (sym e)
          (subst (λ (r : PointView). MayFind t.block_size r.found (x - r.first) (blocks_before t o k x)) (same_point t o k p0 p q0 q s0 s')
          (here x has'))
    ]

pub finds_all : (t : TableView) (o : OrderView) (k : ℕ) → length o.placed ≤ k → FindsTo t o k → FindsContents t o
finds_all t o k long before i p q x s has =
    let inside = within t o i p q s in before i p q x (omega (arith, inside, long)) s has

-- One more block is put.
pub put_here : (size : ℕ) (q : PointView) (p : PlacedView) (b : ℕ) (m : Medium) (new : Block) → p.first ≤ b
    → put_at size q.put p.value (b - q.first) ≡ Some new → after_blocks size q p (b + 1) m b ≡ new
put_here size q p b m new low is =
    let put : put_over (put_at size q.put p.value (b - q.first)) (m b) ≡ new = ap (λ (n : Option Block). put_over n (m b)) is in grind arith

pub put_there : (size : ℕ) (q : PointView) (p : PlacedView) (b : ℕ) (m : Medium) (x : ℕ) → x ≢ b
    → after_blocks size q p (b + 1) m x ≡ after_blocks size q p b m x
put_there size q p b m x ne = grind arith

-- Nothing is put in it.
pub put_none : (size : ℕ) (q : PointView) (p : PlacedView) (b : ℕ) (m : Medium) → put_at size q.put p.value (b - q.first) ≡ None
    → (x : ℕ) → after_blocks size q p b m x ≡ after_blocks size q p (b + 1) m x
put_none size q p b m is x =
    elim (cases_eq x b) [
      | inl same ↦
          let put : put_over (put_at size q.put p.value (b - q.first)) (m b) ≡ m b = ap (λ (n : Option Block). put_over n (m b)) is in
          subst (λ (y : ℕ). after_blocks size q p b m y ≡ after_blocks size q p (b + 1) m y) (sym same) (grind arith)
      | inr ne ↦ sym (put_there size q p b m x ne)
    ]
