-- What one fact more gives.
use Rattle.std.proofs.Common.{◌≡◌, ◌⊎◌, ◌∙◌, ℕ, suc, ◌+◌, ◌<◌, List, [], Option, Some, None, Contains, length, slice_get, sym, subst, inl, inr, arith}
use Rattle.std.proofs.lemmas.Option.{slice_get_within}
use Rattle.nvm_standard.specs.PointView.{TableView}
use Rattle.nvm_standard.proofs.Standing.{earlier_or_last, some_same}
use Rattle.nvm_standard.specs.Absurd.{IsAbsurd, IsContradiction}
use Rattle.nvm_standard.specs.Inside.Derived.{AreDerived}
use Rattle.nvm_standard.specs.Inside.Noted.{IsNoted, IsNotedThere, noted}
use Rattle.nvm_standard.specs.Knowledge.{IsWithin}
use Rattle.nvm_standard.specs.Rules.{IsGiven}
use Rattle.nvm_standard.specs.Standing.{IsAtFirst, IsBeforeWith, IsFrom, IsThereBy, IsSure, IsThereWith, IsUpTo, known_by, known_with, order, order_of}
use Rattle.nvm_standard.specs.declared.contradiction.Conclusion.{Conclusion}
use Rattle.nvm_standard.specs.declared.fact.Fact.{Fact}
use Rattle.nvm_standard.specs.declared.known.Known.{Known}
use Rattle.nvm_standard.specs.declared.known.Order.{Order}
use Rattle.nvm_standard.specs.declared.node.Node.{Node}
use Rattle.nvm_standard.proofs.Pushed.{none_noted}
use Rattle.nvm_standard.proofs.Wider.{absurd_wider, given_wider, with_wider}

-- Before the first fact.
pub none_derived : (t : TableView) (facts : List Fact) (known : Known) → known.orders.items ≡ [] → known.there.items ≡ []
    → known.firsts.items ≡ [] → AreDerived t facts 0 known
none_derived t facts known orders there firsts = record {
  given = λ k fact less at. absurd (omega (arith, less));
  within = record {
    there = none_there;
    before = λ x y has. absurd (none_noted (order x y) (subst (λ (os : List Order). Contains os (order x y)) orders has));
    first = λ a has. absurd (none_noted a (subst (λ (nodes : List Node). Contains nodes a) firsts has));
  };
}
  where
    none_there : (a : Node) → IsNotedThere t known.there.items a → IsSure t a
    none_there a (inl sure) = sure
    none_there a (inr has) = absurd (none_noted a (subst (λ (nodes : List Node). Contains nodes a) there has))

before_there : (There Here : Node → Type 0) (Before : Node → Node → Type 0) → ((a : Node) → There a → Here a) → (o : Option Order) (x y : Node)
    → IsBeforeWith There Before o x y → IsBeforeWith Here Before o x y
before_there There Here Before all None x y is = is
before_there There Here Before all (Some o) x y (inl old) = inl old
before_there There Here Before all (Some o) x y (inr both) = inr (up_to both.0, from both.1)
  where
    up_to : IsUpTo There Before x o.earlier → IsUpTo Here Before x o.earlier
    up_to (inl same) = inl same
    up_to (inr before) = inr (all _ before.0, before.1)

    from : IsFrom There Before o.later y → IsFrom Here Before o.later y
    from (inl same) = inl same
    from (inr after) = inr (all _ after.0, after.1)

-- What is noted of a fact follows from it and from what was noted.
pub fact_noted : (t : TableView) (fact : Fact) (old new : Known)
    → ((a : Node) → Contains new.there.items a → Contains old.there.items a ⊎ IsThereBy t (noted t old) fact a)
    → ((a : Node) → Contains new.firsts.items a → Contains old.firsts.items a ⊎ IsAtFirst fact a)
    → ((x y : Node) → IsNoted new.orders.items x y → IsBeforeWith (IsNotedThere t new.there.items) (IsNoted old.orders.items) (order_of t fact) x y)
    → IsWithin (noted t new) (known_with t (noted t old) (Some fact))
fact_noted t fact old new sources firsts orders = record {
  there = there;
  before = λ x y is.
      before_there (IsNotedThere t new.there.items) (IsThereWith t (noted t old) fact) (IsNoted old.orders.items) there (order_of t fact) x y
      (orders x y is);
  first = firsts;
}
  where
    there : (a : Node) → IsNotedThere t new.there.items a → IsThereWith t (noted t old) fact a
    there a (inl sure) = inl (inl sure)
    there a (inr has) = elim (sources a has) [ inl before ↦ inl (inr before) | inr more ↦ inr more ]

-- One fact more is given, and what is noted follows from it and from what was noted.
pub next_derived : (t : TableView) (facts : List Fact) (n : ℕ) (fact : Fact) (old new : Known) → slice_get facts n ≡ Some fact
    → AreDerived t facts n old → IsGiven t (noted t old) fact → IsWithin (noted t new) (known_with t (noted t old) (Some fact))
    → AreDerived t facts (n + 1) new
next_derived t facts n fact old new at d given more =
    let e : suc n ≡ n + 1 = omega arith in
    subst (λ (k : ℕ). AreDerived t facts k new) e (record { given = each; within = within })
  where
    each : (k : ℕ) (other : Fact) → k < suc n → slice_get facts k ≡ Some other → IsGiven t (known_by t facts k) other
    each k other less here = elim (earlier_or_last k n (omega (arith, less))) [
      | inl h ↦ d.given k other h here
      | inr same ↦
          let is : fact ≡ other = some_same fact other (sym at ∙ subst (λ (i : ℕ). slice_get facts i ≡ Some other) same here) in
          subst (λ (i : ℕ). IsGiven t (known_by t facts i) other) (sym same)
          (given_wider t (noted t old) (known_by t facts n) d.within other (subst (IsGiven t (noted t old)) is given))
    ]

    wide : IsWithin (known_with t (noted t old) (Some fact)) (known_with t (known_by t facts n) (Some fact))
    wide = with_wider t (noted t old) (known_by t facts n) d.within fact

    with_it : IsWithin (noted t new) (known_with t (known_by t facts n) (Some fact))
    with_it = record {
      there = λ a is. wide.there a (more.there a is);
      before = λ x y is. wide.before x y (more.before x y is);
      first = λ a is. wide.first a (more.first a is);
    }

    within : IsWithin (noted t new) (known_by t facts (suc n))
    within = subst (λ (f : Option Fact). IsWithin (noted t new) (known_with t (known_by t facts n) f)) (sym at) with_it

-- Facts that are all given, and a conclusion that follows from what is noted, are a contradiction.
pub all_derived : (t : TableView) (facts : List Fact) (known : Known) (conclusion : Conclusion) → AreDerived t facts (length facts) known
    → IsAbsurd t (noted t known) conclusion → IsContradiction t facts conclusion
all_derived t facts known conclusion d is = record {
  given = λ k fact at. d.given k fact (slice_get_within facts k fact at) at;
  absurd_then = absurd_wider t (noted t known) (known_by t facts (length facts)) d.within conclusion is;
}
