-- What is known by the first facts of a contradiction (own): all that follows from them along a chain whose inner links are there.
use Rattle.std.specs.Prelude.{◌≡◌, ◌⊎◌, ℕ, ◌-◌, zero, suc, List, Option, Some, None, slice_get}
use Rattle.nvm_standard.specs.PointView.{PointView, TableView}
use Rattle.nvm_standard.specs.declared.point.Presence.{Presence}
use Rattle.nvm_standard.specs.declared.point.Presence.TheVariants.{Sure, Optional, OneOf, Together, Repeated}
use Rattle.nvm_standard.specs.Places.{IsOf}
use Rattle.nvm_standard.specs.declared.fact.Fact.{Fact}
use Rattle.nvm_standard.specs.declared.fact.Fact.TheVariants.{Time, Deallocate, Own, Source, Over, Under, First, AtFirst, TiedBefore, TiedAfter}
use Rattle.nvm_standard.specs.declared.known.Order.{Order}
use Rattle.nvm_standard.specs.declared.node.Node.{Node}
use Rattle.nvm_standard.specs.Knowledge.{Knowledge}
use Rattle.nvm_standard.specs.Nodes.{node, node_at}

abbrev pub order : Node → Node → Order
order earlier later = record { earlier = earlier; later = later }

-- The one comes before the other at the block.
abbrev pub order_at : TableView → ℕ → ℕ → ℕ → Order
order_at t earlier later x = order (node_at t earlier x) (node_at t later x)

-- what the fact says of an order
abbrev pub order_of : TableView → Fact → Option Order
order_of t (Time earlier later) = Some (order (node_at t earlier.point earlier.block) (node_at t later.point later.block))
order_of t (Deallocate deallocate writer x) = Some (order_at t deallocate writer x)
order_of t (Own later x) = Some (order_at t (later - 1) later x)
order_of t (Source writer reader x) = Some (order_at t writer reader x)
order_of t (Over reader writer x source) = Some (order_at t reader writer x)
order_of t (Under writer source x reader) = Some (order_at t writer source x)
order_of t (First reader writer x) = Some (order_at t reader writer x)
order_of t (AtFirst reader x) = None
order_of t (TiedBefore reader x entry y) = Some (order_at t reader entry x)
order_of t (TiedAfter entry reader x y) = Some (order_at t entry reader x)

abbrev pub IsSureAt : Presence → PointView → ℕ → Type 0
IsSureAt Sure q x = IsOf q x
IsSureAt Optional q x = ⊥
IsSureAt OneOf q x = (q.blocks ≡ 1) × (x ≡ q.first)
IsSureAt Together q x = ⊥
IsSureAt Repeated q x = ⊥

-- The table says that it is there: it is sure, or it is in one of its blocks and has no other.
pub record IsSure (t : TableView) (node : Node) : Type 0 where
  pub point : PointView
  pub its : slice_get t.points node.point ≡ Some point
  pub sure : IsSureAt point.presence point node.block

-- The point before the later one is done in all of its blocks or none, and the later one is there in some block.
pub record IsWhollyThere (t : TableView) (K : Knowledge) (later x : ℕ) : Type 0 where
  pub point : PointView
  pub its : slice_get t.points (later - 1) ≡ Some point
  pub together : point.presence ≡ Together
  pub block : IsOf point x
  pub by : ℕ
  pub there : K.there (node later by)

-- The point before the later one is there at the block, since the later one is.
abbrev pub IsFollowed : TableView → Knowledge → ℕ → ℕ → Type 0
IsFollowed t K later x = K.there (node_at t later x) ⊎ IsWhollyThere t K later x

-- By the fact it is there: the source of a reader that is, or the point before one that is.
abbrev pub IsThereBy : TableView → Knowledge → Fact → Node → Type 0
IsThereBy t K (Time earlier later) a = ⊥
IsThereBy t K (Deallocate deallocate writer x) a = ⊥
IsThereBy t K (Own later x) a = (a ≡ node_at t (later - 1) x) × IsFollowed t K later x
IsThereBy t K (Source writer reader x) a = (a ≡ node_at t writer x) × K.there (node_at t reader x)
IsThereBy t K (Over reader writer x source) a = ⊥
IsThereBy t K (Under writer source x reader) a = ⊥
IsThereBy t K (First reader writer x) a = ⊥
IsThereBy t K (AtFirst reader x) a = ⊥
IsThereBy t K (TiedBefore reader x entry y) a = ⊥
IsThereBy t K (TiedAfter entry reader x y) a = ⊥

-- By the fact it found what was in its block at first.
abbrev pub IsAtFirst : Fact → Node → Type 0
IsAtFirst (Time earlier later) a = ⊥
IsAtFirst (Deallocate deallocate writer x) a = ⊥
IsAtFirst (Own later x) a = ⊥
IsAtFirst (Source writer reader x) a = ⊥
IsAtFirst (Over reader writer x source) a = ⊥
IsAtFirst (Under writer source x reader) a = ⊥
IsAtFirst (First reader writer x) a = ⊥
IsAtFirst (AtFirst reader x) a = a ≡ node reader x
IsAtFirst (TiedBefore reader x entry y) a = ⊥
IsAtFirst (TiedAfter entry reader x y) a = ⊥

-- It is the node, or comes before it where that is there.
abbrev pub IsUpTo : (Node → Type 0) → (Node → Node → Type 0) → Node → Node → Type 0
IsUpTo There Before x a = (x ≡ a) ⊎ (There a × Before x a)

-- It is the node, or comes after it where that is there.
abbrev pub IsFrom : (Node → Type 0) → (Node → Node → Type 0) → Node → Node → Type 0
IsFrom There Before a y = (y ≡ a) ⊎ (There a × Before a y)

-- The one comes before the other with this more: it did already, or the new order joins what is up to its earlier node with what is from
-- its later one on.
abbrev pub IsBeforeWith : (Node → Type 0) → (Node → Node → Type 0) → Option Order → Node → Node → Type 0
IsBeforeWith There Before None x y = Before x y
IsBeforeWith There Before (Some o) x y = Before x y ⊎ (IsUpTo There Before x o.earlier × IsFrom There Before o.later y)

-- what is there with one fact more
abbrev pub IsThereWith : TableView → Knowledge → Fact → Node → Type 0
IsThereWith t K fact a = K.there a ⊎ IsThereBy t K fact a

-- what is known with one fact more
abbrev pub known_with : TableView → Knowledge → Option Fact → Knowledge
known_with t K None = K
known_with t K (Some fact) =
    record {
      there = IsThereWith t K fact;
      before = IsBeforeWith (IsThereWith t K fact) K.before (order_of t fact);
      first = λ a. K.first a ⊎ IsAtFirst fact a;
    }

-- what is known by the first n facts
abbrev pub known_by : TableView → List Fact → ℕ → Knowledge
known_by t facts zero = record { there = IsSure t; before = λ x y. ⊥; first = λ a. ⊥ }
known_by t facts (suc n) = known_with t (known_by t facts n) (slice_get facts n)

-- Some node that is there comes before itself.
pub record HasLoop (K : Knowledge) : Type 0 where
  pub node : Node
  pub there : K.there node
  pub loop : K.before node node
