-- What a contradiction says would be so in an explanation: so there is none.
use Rattle.std.proofs.Common.{◌≡◌, ℕ, ◌-◌, zero, suc, List, Option, Some, None, length, slice_get, refl, sym, subst, inl, inr, arith}
use Rattle.nvm_standard.specs.PointView.{PointView, TableView}
use Rattle.nvm_standard.specs.declared.point.Presence.{Presence}
use Rattle.nvm_standard.specs.declared.point.Presence.TheVariants.{Sure, Optional, OneOf, Together, Repeated}
use Rattle.nvm_standard.specs.Explanation.{IsExplanation}
use Rattle.nvm_standard.specs.OrderView.{OrderView}
use Rattle.nvm_standard.specs.Places.{IsDoneAt}
use Rattle.nvm_standard.specs.Presence.{IsDone}
use Rattle.nvm_standard.specs.Absurd.{IsAbsurd, IsContradiction, IsNobody}
use Rattle.nvm_standard.specs.Knowledge.{IsWithin, Knowledge}
use Rattle.nvm_standard.specs.Nodes.{node, node_at}
use Rattle.nvm_standard.specs.Readings.{IsSource, IsUnserved}
use Rattle.nvm_standard.specs.Rules.{IsGiven, IsOwn}
use Rattle.nvm_standard.specs.Standing.{order_of, IsAtFirst, IsBeforeWith, IsFollowed, IsFrom, IsThereBy, IsSure, IsSureAt, IsThereWith, IsUpTo, known_by, known_with}
use Rattle.nvm_standard.specs.declared.contradiction.Conclusion.{Conclusion}
use Rattle.nvm_standard.specs.declared.contradiction.Conclusion.TheVariants.{Loop, Nobody, Nowhere}
use Rattle.nvm_standard.specs.declared.fact.Fact.{Fact}
use Rattle.nvm_standard.specs.declared.fact.Fact.TheVariants.{Time, Deallocate, Own, Source, Over, Under, First, AtFirst, TiedBefore, TiedAfter}
use Rattle.nvm_standard.specs.declared.known.Order.{Order}
use Rattle.nvm_standard.specs.declared.node.Node.{Node}
use Rattle.nvm_standard.proofs.Done.{IsFirst, Precedes, from_named, of_done, once_done, to_named}
use Rattle.nvm_standard.proofs.Finding.{from_source, is_first}
use Rattle.nvm_standard.proofs.Ruling.{by_deallocate, by_first, by_over, by_own, by_source, by_tied_after, by_tied_before, by_under}
use Rattle.nvm_standard.proofs.Earlier.{by_time, truth}
use Rattle.nvm_standard.proofs.Wider.{absurd_wider, given_wider, with_wider}

module _ (t : TableView) (o : OrderView) (e : IsExplanation t o) where
  abbrev K : Knowledge
  K = truth t o

  abbrev Before : Node → Node → Type 0
  Before = Precedes o

  abbrev There : Node → Type 0
  There a = IsDone o a.point a.block

  abbrev IsSo : Option Order → Type 0
  IsSo None = Unit {0}
  IsSo (Some p) = Before p.earlier p.later

  says : (fact : Fact) → IsGiven t K fact → IsSo (order_of t fact)
  says (Time a b) g = λ i j d f. by_time t o e a.point b.point _ _ i j g d f
  says (Deallocate n w x) g = by_deallocate t o e n w x g
  says (Own n x) g = by_own t o e n x g
  says (Source w r x) g = by_source t o e w r x g.0 g.1
  says (Over r w x s) g = by_over t o e r w x s g.0 g.1
  says (Under w s x r) g = by_under t o e w s x r g.there g.before g.once g.overwritten
  says (First r w x) g = by_first t o e r w x g.0 g.1 g.2
  says (AtFirst r x) g = tt
  says (TiedBefore r x w y) g = by_tied_before t o e r x w y g.0 g.1
  says (TiedAfter w r x y) g = by_tied_after t o e w r x y g.0 g.1

  chained : (a b c : Node) → Before a b → There b → Before b c → Before a c
  chained a b c first there second i k da dc =
      let less = first i there.position da there.done in
      let more = second there.position k there.done dc in omega (arith, less, more)

  -- The source of what is there is there.
  source_there : (w r x : ℕ) → IsSource t K w r x → There (node_at t r x) → There (node_at t w x)
  source_there w r x source there =
      let k = there.position in
      let d = from_named t o e r x k source.point source.reads.its source.reads.block there.done in
      let from = from_source t o e w r x k source d in
      record { position = from.i; done = to_named t o e w x from.i from.done }

  -- The point before one that is there is there.
  before_there : (n x : ℕ) → IsOwn t n x → IsFollowed t K n x → There (node_at t (n - 1) x)
  before_there n x is (inl there) =
      let d = from_named t o e n x there.position is.point is.its is.block there.done in
      let f = (e.present n is.point is.its).after is.after x there.position d in
      let next = f.next in
      let same : f.before ≡ n - 1 = omega (arith, next) in
      record { position = f.position; done = to_named t o e (n - 1) x f.position (subst (λ (m : ℕ). IsDoneAt o m x f.position) same f.done) }
  before_there n x is (inr whole) =
      let f = (e.present n is.point is.its).after is.after whole.by whole.there.position whole.there.done in
      let next = f.next in
      let same : f.before ≡ n - 1 = omega (arith, next) in
      let some : IsDoneAt o (n - 1) whole.by f.position = subst (λ (m : ℕ). IsDoneAt o m whole.by f.position) same f.done in
      let there = (e.present (n - 1) whole.point whole.its).together whole.together whole.by x f.position some whole.block in
      record { position = there.position; done = to_named t o e (n - 1) x there.position there.done }

  is_there : (fact : Fact) (a : Node) → IsGiven t K fact → IsThereBy t K fact a → There a
  is_there (Time earlier later) a g is = absurd is
  is_there (Deallocate deallocate writer x) a g is = absurd is
  is_there (Own n x) a g is = subst There (sym is.0) (before_there n x g is.1)
  is_there (Source w r x) a g is = subst There (sym is.0) (source_there w r x g.1 is.1)
  is_there (Over reader writer x source) a g is = absurd is
  is_there (Under writer source x reader) a g is = absurd is
  is_there (First reader writer x) a g is = absurd is
  is_there (AtFirst reader x) a g is = absurd is
  is_there (TiedBefore reader x entry y) a g is = absurd is
  is_there (TiedAfter entry reader x y) a g is = absurd is

  -- What a reader found that is there and that none serves was there at first.
  at_first : (r x : ℕ) → IsUnserved t K r x → There (node_at t r x) → IsFirst t o (node r x)
  at_first r x unserved there =
      is_first t o e r x there.position unserved
      (from_named t o e r x there.position unserved.point unserved.reads.its unserved.reads.block there.done)

  is_at_first : (fact : Fact) (a : Node) → IsGiven t K fact → IsAtFirst fact a → IsFirst t o a
  is_at_first (Time earlier later) a g is = absurd is
  is_at_first (Deallocate deallocate writer x) a g is = absurd is
  is_at_first (Own later x) a g is = absurd is
  is_at_first (Source w r x) a g is = absurd is
  is_at_first (Over reader writer x source) a g is = absurd is
  is_at_first (Under writer source x reader) a g is = absurd is
  is_at_first (First reader writer x) a g is = absurd is
  is_at_first (AtFirst r x) a g is = subst (IsFirst t o) (sym is) (at_first r x g.1 g.0)
  is_at_first (TiedBefore reader x entry y) a g is = absurd is
  is_at_first (TiedAfter entry reader x y) a g is = absurd is

  there_with : (fact : Fact) → IsGiven t K fact → (a : Node) → IsThereWith t K fact a → There a
  there_with fact g a (inl old) = old
  there_with fact g a (inr new) = is_there fact a g new

  first_with : (fact : Fact) → IsGiven t K fact → (a : Node) → (known_with t K (Some fact)).first a → IsFirst t o a
  first_with fact g a (inl old) = old
  first_with fact g a (inr new) = is_at_first fact a g new

  before_with : (There' : Node → Type 0) → ((a : Node) → There' a → There a) → (order : Option Order) → IsSo order → (x y : Node)
      → IsBeforeWith There' Before order x y → Before x y
  before_with There' all None is x y old = old
  before_with There' all (Some new) is x y (inl old) = old
  before_with There' all (Some new) is x y (inr both) = from both.1 (to both.0)
    where
      to : IsUpTo There' Before x new.earlier → Before x new.later
      to (inl same) = subst (λ (n : Node). Before n new.later) (sym same) is
      to (inr before) = chained x new.earlier new.later before.1 (all _ before.0) is

      from : IsFrom There' Before new.later y → Before x new.later → Before x y
      from (inl same) h = subst (λ (n : Node). Before x n) (sym same) h
      from (inr after) h = chained x new.later y h (all _ after.0) after.1

  -- A fact that is given says nothing but what is so.
  so_with : (fact : Fact) → IsGiven t K fact → IsWithin (known_with t K (Some fact)) K
  so_with fact g = record {
    there = there_with fact g;
    before = before_with (IsThereWith t K fact) (there_with fact g) (order_of t fact) (says fact g);
    first = first_with fact g;
  }

  one_block : (q : PointView) (n x : ℕ) → slice_get t.points n ≡ Some q → (p : Presence) → q.presence ≡ p → IsSureAt p q x → IsDone o n x
  one_block q n x its Sure is sure = (e.present n q its).sure is x sure
  one_block q n x its Optional is sure = absurd sure
  one_block q n x its OneOf is sure =
      let some = (e.present n q its).some is in
      let of = of_done t o e n some.0 some.1.position q some.1.done its in
      let low = of.from in
      let high = of.below in
      let one = sure.0 in
      let here = sure.1 in
      let same : some.0 ≡ x = omega (arith, low, high, one, here) in
      subst (λ (y : ℕ). IsDone o n y) same some.1
  one_block q n x its Together is sure = absurd sure
  one_block q n x its Repeated is sure = absurd sure

  sure_there : (a : Node) → IsSure t a → There a
  sure_there a is = one_block is.point a.point a.block is.its is.point.presence refl is.sure

  nobody : (r x k : ℕ) → IsNobody t K r x → IsDoneAt o r x k → ⊥
  nobody r x k source d =
      let from = from_source t o e r r x k source d in
      let one = once_done t o e r x from.i k source.point source.reads.its source.reads.once from.done d in
      let below = from.below in omega (arith, one, below)

  absurd_is : (conclusion : Conclusion) → IsAbsurd t K conclusion → ⊥
  absurd_is Loop s =
      let less = s.loop s.there.position s.there.position s.there.done s.there.done in omega (arith, less)
  absurd_is (Nobody r x) s =
      nobody r x s.0.position s.1 (from_named t o e r x s.0.position s.1.point s.1.reads.its s.1.reads.block s.0.done)
  absurd_is (Nowhere r) s =
      let some = (e.present r s.point s.its).some s.one in
      let x = some.0 in
      let there = some.1 in
      nobody r x there.position (s.each x (of_done t o e r x there.position s.point there.done s.its)) there.done

  module _ (facts : List Fact) (given : (n : ℕ) (fact : Fact) → slice_get facts n ≡ Some fact → IsGiven t (known_by t facts n) fact) where
    next : (n : ℕ) → IsWithin (known_by t facts n) K → (fact : Option Fact) → slice_get facts n ≡ fact
        → IsWithin (known_with t (known_by t facts n) fact) K
    next n w None at = w
    next n w (Some fact) at =
        let g = given_wider t (known_by t facts n) K w fact (given n fact at) in
        let wide = with_wider t (known_by t facts n) K w fact in
        let so = so_with fact g in
        record {
          there = λ a is. so.there a (wide.there a is);
          before = λ x y is. so.before x y (wide.before x y is);
          first = λ a is. so.first a (wide.first a is);
        }

    -- What is known by the facts is so.
    so : (n : ℕ) → IsWithin (known_by t facts n) K
    so zero = record { there = sure_there; before = λ a b is. absurd is; first = λ a is. absurd is }
    so (suc n) = next n (so n) (slice_get facts n) refl

-- No order is an explanation.
pub contradicted : (t : TableView) (facts : List Fact) (conclusion : Conclusion) → IsContradiction t facts conclusion
    → (o : OrderView) → IsExplanation t o → ⊥
contradicted t facts conclusion c o e =
    let n = length facts in
    absurd_is t o e conclusion (absurd_wider t (known_by t facts n) (truth t o) (so t o e facts c.given n) conclusion c.absurd_then)
