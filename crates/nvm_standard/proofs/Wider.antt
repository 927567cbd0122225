-- What is given by what is known is given by more.
use Rattle.std.proofs.Common.{ℕ, inl, inr, Option, Some, None}
use Rattle.nvm_standard.specs.PointView.{PointView, TableView}
use Rattle.nvm_standard.specs.declared.contradiction.Conclusion.{Conclusion}
use Rattle.nvm_standard.specs.declared.contradiction.Conclusion.TheVariants.{Loop, Nobody, Nowhere}
use Rattle.nvm_standard.specs.declared.fact.Fact.{Fact}
use Rattle.nvm_standard.specs.declared.fact.Fact.TheVariants.{Time, Deallocate, Own, Source, Over, Under, First, AtFirst, TiedBefore, TiedAfter}
use Rattle.nvm_standard.specs.declared.known.Order.{Order}
use Rattle.nvm_standard.specs.declared.node.Node.{Node}
use Rattle.nvm_standard.specs.Absurd.{IsAbsurd}
use Rattle.nvm_standard.specs.Knowledge.{IsWithin, Knowledge}
use Rattle.nvm_standard.specs.Readings.{Divides, DividesBefore, FindsNotFirst, IsExcused, IsSource, IsUnserved, NoOtherServes, WasPut}
use Rattle.nvm_standard.specs.Rules.{IsGiven, IsOverwritten, IsTied, IsUnder}
use Rattle.nvm_standard.specs.Serving.{SurelyPuts}
use Rattle.nvm_standard.specs.Standing.{IsBeforeWith, IsFollowed, IsFrom, IsThereBy, IsThereWith, IsUpTo, known_with}
use Rattle.nvm_standard.specs.Times.{ComesBefore}

module _ (t : TableView) (K L : Knowledge) (within : IsWithin K L) where
  comes : (n m x : ℕ) → ComesBefore t K n m x → ComesBefore t L n m x
  comes n m x (inl before) = inl (within.before _ _ before)
  comes n m x (inr times) = inr times

  puts : (n x : ℕ) → SurelyPuts t K n x → SurelyPuts t L n x
  puts n x s = record { point = s.point; its = s.its; puts = s.puts; block = s.block; there = within.there _ s.there }

  divides : (q : PointView) (n x : ℕ) → Divides t K q n x → Divides t L q n x
  divides q n x (inl sure) = inl (puts n x sure)
  divides q n x (inr s) =
      inr (record { point = s.point; its = s.its; block = s.block; there = within.there _ s.there; differs = s.differs })

  before : (q : PointView) (reader x n : ℕ) → DividesBefore t K q reader x n → DividesBefore t L q reader x n
  before q reader x n s = record { divides = divides q n x s.divides; before = comes n reader x s.before }

  excused : (q : PointView) (n reader x : ℕ) → IsExcused t K q n reader x → IsExcused t L q n reader x
  excused q n reader x (inl after) = inl (comes reader n x after)
  excused q n reader x (inr s) =
      inr (record { number = s.number; is = before q reader x s.number s.is; after = comes n s.number x s.after })

  only : (q : PointView) (reader x w : ℕ) → NoOtherServes t K q reader x w → NoOtherServes t L q reader x w
  only q reader x w none n serves = elim (none n serves) [
    | inl itself ↦ inl itself
    | inr other ↦ elim other [ inl its ↦ inr (inl its) | inr out ↦ inr (inr (excused q n reader x out)) ]
  ]

  not_first : (q : PointView) (x : ℕ) → FindsNotFirst t K q x → FindsNotFirst t L q x
  not_first q x s =
      record { number = s.number; first = within.first _ s.first; other = s.other; its = s.its; differs = s.differs }

  was_put : (q : PointView) (reader x : ℕ) → WasPut t K q reader x → WasPut t L q reader x
  was_put q reader x (inl cannot) = inl cannot
  was_put q reader x (inr (inl first)) = inr (inl (not_first q x first))
  was_put q reader x (inr (inr n)) = inr (inr (n.0, before q reader x n.0 n.1))

  source_wider : (w reader x : ℕ) → IsSource t K w reader x → IsSource t L w reader x
  source_wider w reader x s = record {
    point = s.point;
    reads = s.reads;
    was_put = was_put s.point reader x s.was_put;
    only = only s.point reader x w s.only;
  }

  unserved_wider : (reader x : ℕ) → IsUnserved t K reader x → IsUnserved t L reader x
  unserved_wider reader x s = record { point = s.point; reads = s.reads; none = only s.point reader x reader s.none }

  overwritten : (w reader x source : ℕ) → IsOverwritten t K w reader x source → IsOverwritten t L w reader x source
  overwritten w reader x source s = record {
    not_reader = s.not_reader;
    not_source = s.not_source;
    puts = puts w x s.puts;
    is_source = source_wider source reader x s.is_source;
  }

  tied : (reader x entry y : ℕ) → IsTied t K reader x entry y → IsTied t L reader x entry y
  tied reader x entry y s = record {
    not_reader = s.not_reader;
    reading = s.reading;
    reader_is = s.reader_is;
    tied = s.tied;
    one = s.one;
    other = s.other;
    putting = s.putting;
    entry_is = s.entry_is;
    both = s.both;
    there = within.there _ s.there;
  }

  under : (w source x reader : ℕ) → IsUnder t K w source x reader → IsUnder t L w source x reader
  under w source x reader s = record {
    there = within.there _ s.there;
    before = comes w reader x s.before;
    once = s.once;
    overwritten = overwritten w reader x source s.overwritten;
  }

  pub given_wider : (fact : Fact) → IsGiven t K fact → IsGiven t L fact
  given_wider (Time earlier later) g = g
  given_wider (Deallocate deallocate w x) g = g
  given_wider (Own later x) g = g
  given_wider (Source w reader x) g = (g.0, source_wider w reader x g.1)
  given_wider (Over reader w x source) g = (comes source w x g.0, overwritten w reader x source g.1)
  given_wider (Under w source x reader) g = under w source x reader g
  given_wider (First reader w x) g = (g.0, puts w x g.1, unserved_wider reader x g.2)
  given_wider (AtFirst reader x) g = (within.there _ g.0, unserved_wider reader x g.1)
  given_wider (TiedBefore reader x entry y) g = (comes reader entry y g.0, tied reader x entry y g.1)
  given_wider (TiedAfter entry reader x y) g = (comes entry reader y g.0, tied reader x entry y g.1)

  pub absurd_wider : (conclusion : Conclusion) → IsAbsurd t K conclusion → IsAbsurd t L conclusion
  absurd_wider Loop s = record { node = s.node; there = within.there _ s.there; loop = within.before _ _ s.loop }
  absurd_wider (Nobody reader x) s = (within.there _ s.0, source_wider reader reader x s.1)
  absurd_wider (Nowhere reader) s = record {
    point = s.point;
    its = s.its;
    one = s.one;
    each = λ x of. source_wider reader reader x (s.each x of);
  }

  followed : (later x : ℕ) → IsFollowed t K later x → IsFollowed t L later x
  followed later x (inl there) = inl (within.there _ there)
  followed later x (inr s) =
      inr (record { point = s.point; its = s.its; together = s.together; block = s.block; by = s.by; there = within.there _ s.there })

  there_by : (fact : Fact) (a : Node) → IsThereBy t K fact a → IsThereBy t L fact a
  there_by (Time earlier later) a is = is
  there_by (Deallocate deallocate w x) a is = is
  there_by (Own later x) a is = (is.0, followed later x is.1)
  there_by (Source w r x) a is = (is.0, within.there _ is.1)
  there_by (Over reader w x source) a is = is
  there_by (Under w source x reader) a is = is
  there_by (First reader w x) a is = is
  there_by (AtFirst reader x) a is = is
  there_by (TiedBefore reader x entry y) a is = is
  there_by (TiedAfter entry reader x y) a is = is

  there_with : (fact : Fact) (a : Node) → IsThereWith t K fact a → IsThereWith t L fact a
  there_with fact a (inl old) = inl (within.there a old)
  there_with fact a (inr new) = inr (there_by fact a new)

  before_with : (fact : Fact) (o : Option Order) (x y : Node) → IsBeforeWith (IsThereWith t K fact) K.before o x y
      → IsBeforeWith (IsThereWith t L fact) L.before o x y
  before_with fact None x y is = within.before x y is
  before_with fact (Some o) x y (inl old) = inl (within.before x y old)
  before_with fact (Some o) x y (inr both) = inr (up_to both.0, from both.1)
    where
      up_to : IsUpTo (IsThereWith t K fact) K.before x o.earlier → IsUpTo (IsThereWith t L fact) L.before x o.earlier
      up_to (inl same) = inl same
      up_to (inr before) = inr (there_with fact _ before.0, within.before _ _ before.1)

      from : IsFrom (IsThereWith t K fact) K.before o.later y → IsFrom (IsThereWith t L fact) L.before o.later y
      from (inl same) = inl same
      from (inr after) = inr (there_with fact _ after.0, within.before _ _ after.1)

  pub with_wider : (fact : Fact) → IsWithin (known_with t K (Some fact)) (known_with t L (Some fact))
  with_wider fact = record {
    there = there_with fact;
    before = λ x y is. before_with fact _ x y is;
    first = first;
  }
    where
      first : (a : Node) → (known_with t K (Some fact)).first a → (known_with t L (Some fact)).first a
      first a (inl old) = inl (within.first a old)
      first a (inr new) = inr new
