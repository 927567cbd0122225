-- Whose put a reader finds in an explanation.
use Rattle.std.proofs.Common.{◌≡◌, ◌⊎◌, ℕ, ◌+◌, ◌-◌, ◌<◌, ◌≤◌, inl, inr, List, Some, slice_get, subst, refl, arith}
use Rattle.std.proofs.lemmas.Option.{slice_get_within}
use Rattle.nvm_record.specs.declared.block.Block.{Block}
use Rattle.nvm_record.specs.declared.block.Block.TheVariants.{Bytes}
use Rattle.nvm_record.specs.Medium.{zero_medium}
use Rattle.nvm_trace.specs.declared.start.Start.{Start}
use Rattle.nvm_trace.specs.declared.start.Start.TheVariants.{Zeroes, Unknown}
use Rattle.nvm_standard.specs.PointView.{FoundView, PointView, TableView}
use Rattle.nvm_standard.specs.Contents.{MayFind, blocks_before, bytes_at, first_blocks, with_first}
use Rattle.nvm_standard.specs.Explanation.{IsExplanation}
use Rattle.nvm_standard.specs.Fits.{MayBegin}
use Rattle.nvm_standard.specs.OrderView.{OrderView, FirstView}
use Rattle.nvm_standard.specs.Places.{IsDoneAt}
use Rattle.nvm_standard.specs.Presence.{IsDone}
use Rattle.nvm_standard.specs.Knowledge.{Knowledge}
use Rattle.nvm_standard.specs.Nodes.{node}
use Rattle.nvm_standard.specs.Readings.{Divides, DividesBefore, FindsNotFirst, FindsOther, IsReadingOf, IsExcused, IsServedBy, NoOtherServes, WasPut, IsSource, IsUnserved}
use Rattle.nvm_standard.specs.Serving.{CanFindFrom, FindsThere, SurelyPuts}
use Rattle.nvm_standard.proofs.Done.{IsFirst, fits_of, from_named, of_done, once_done, stands_done}
use Rattle.nvm_standard.proofs.LeftBy.{LeftBy, LeftFirst, Silent, left, puts_some, same_on}
use Rattle.nvm_standard.proofs.Earlier.{comes, truth}

-- At an earlier position the writer was done in the block, and nothing was put there since.
pub record IsFrom (t : TableView) (o : OrderView) (writer x k : ℕ) : Type 0 where
  pub i : ℕ
  pub below : i < k
  pub done : IsDoneAt o writer x i
  pub silent : Silent t o (i + 1) k x

first_of : (t : TableView) (o : OrderView) (q : PointView) (x : ℕ) (s : Start) → MayBegin s o.first
    → FindsThere t q x (first_blocks t o x) → CanFindFrom s t q x
unfolding first_blocks
first_of t o q x Zeroes begins finds =
    subst (λ (fs : List FirstView). FindsThere t q x (with_first t.block_size fs (zero_medium t.block_size) x)) begins finds
first_of t o q x Unknown begins finds = tt

module _ (t : TableView) (o : OrderView) (e : IsExplanation t o) where
  abbrev K : Knowledge
  K = truth t o

  -- What surely puts the block is done there,
  pub sure_done : (w x : ℕ) → SurelyPuts t K w x → IsDone o w x
  sure_done w x sure =
      let there = sure.there in
      record { position = there.position; done = from_named t o e w x there.position sure.point sure.its sure.block there.done }

  -- and not where nothing is put.
  pub not_silent : (w x i j k : ℕ) → SurelyPuts t K w x → IsDoneAt o w x j → i ≤ j → j < k → Silent t o i k x → ⊥
  not_silent w x i j k sure d low below silent =
      let s = stands_done t o e w x j sure.point d sure.its in
      let fits = fits_of t o e j d.p sure.point s in
      puts_some t sure.point.put d.p.value (x - sure.point.first) sure.puts fits.value (silent j d.p sure.point low below s d.block)

  finds : (reader x k : ℕ) (q : PointView) → slice_get t.points reader ≡ Some q → IsDoneAt o reader x k → FindsThere t q x (blocks_before t o k x)
  finds reader x k q its r = e.contents k r.p q x (stands_done t o e reader x k q r its) r.block

  -- What another found is none of what q finds.
  differ : (x : ℕ) (q other : PointView) → FindsOther t q x other → (b : Block) → FindsThere t other x b → FindsThere t q x b → ⊥
  differ x q other not b held found =
      let is : b ≡ Bytes (bytes_at t.block_size not.payload (x - other.first)) =
      subst (λ (f : FoundView). MayFind t.block_size f (x - other.first) b) not.found held in
      not.differs (subst (λ (c : Block). FindsThere t q x c) is found)

  -- What divides is done,
  dividing : (q : PointView) (n x : ℕ) → Divides t K q n x → IsDone o n x
  dividing q n x (inl sure) = sure_done n x sure
  dividing q n x (inr found) =
      let there = found.there in
      record { position = there.position; done = from_named t o e n x there.position found.point found.its found.block there.done }

  -- and not where the block keeps what the reader finds.
  not_kept : (q : PointView) (n reader x i k : ℕ) → slice_get t.points reader ≡ Some q → IsDoneAt o reader x k → (d : DividesBefore t K q reader x n)
      → i ≤ (dividing q n x d.divides).position → Silent t o i k x → ⊥
  not_kept q n reader x i k its r d low silent =
      let there = dividing q n x d.divides in
      let j = there.position in
      let below = comes t o e n reader x j k d.before there.done r in
      by d.divides j there.done low below
    where
      by : Divides t K q n x → (j : ℕ) → IsDoneAt o n x j → i ≤ j → j < k → ⊥
      by (inl sure) j done low below = not_silent n x i j k sure done low below silent
      by (inr other) j done low below =
          let inside = slice_get_within o.placed k r.p r.placed in
          let same : blocks_before t o k x ≡ blocks_before t o j x =
          same_on t o x e i j k low (omega (arith, below)) (omega (arith, inside)) silent in
          differ x q other.point other.differs (blocks_before t o j x) (finds n x j other.point other.its done)
          (subst (λ (b : Block). FindsThere t q x b) same (finds reader x k q its r))

  excused : (q : PointView) (n reader x i k : ℕ) → slice_get t.points reader ≡ Some q → IsExcused t K q n reader x → IsDoneAt o n x i
      → IsDoneAt o reader x k → i < k → Silent t o (i + 1) k x → ⊥
  excused q n reader x i k its (inl before) d r less silent =
      let more = comes t o e reader n x k i before r d in omega (arith, less, more)
  excused q n reader x i k its (inr between) d r less silent =
      let m = between.number in
      let there = dividing q m x between.is.divides in
      let after = comes t o e n m x i there.position between.after d there.done in
      not_kept q m reader x (i + 1) k its r between.is (omega (arith, after)) silent

  -- What a position finds that another put is what that may put there.
  served : (reader x k : ℕ) (q : PointView) → slice_get t.points reader ≡ Some q → IsDoneAt o reader x k → (l : LeftBy t o k x)
      → IsServedBy t q l.p.point x
  served reader x k q its r l =
      let d : IsDoneAt o l.p.point x l.i = record { p = l.p; placed = l.stands.placed; its = refl; block = l.block } in
      let fits = fits_of t o e l.i l.p l.q l.stands in
      record {
        point = l.q;
        its = l.stands.its;
        block = of_done t o e l.p.point x l.i l.q d l.stands.its;
        serves =
            record { value = l.p.value; allowed = fits.value; block = blocks_before t o k x; puts = l.puts; finds = finds reader x k q its r };
      }

  -- It is none but the writer.
  left_by_it : (reader writer x k : ℕ) (q : PointView) → IsReadingOf t reader x q → NoOtherServes t K q reader x writer
      → IsDoneAt o reader x k → (l : LeftBy t o k x) → l.p.point ≡ writer
  left_by_it reader writer x k q reads only r l =
      let n = l.p.point in
      let d : IsDoneAt o n x l.i = record { p = l.p; placed = l.stands.placed; its = refl; block = l.block } in
      let below = l.below in
      elim (only n (served reader x k q reads.its r l)) [
        | inl same ↦
            let at : IsDoneAt o reader x l.i = subst (λ (m : ℕ). IsDoneAt o m x l.i) same d in
            let one = once_done t o e reader x l.i k q reads.its reads.once at r in absurd (omega (arith, below, one))
        | inr other ↦ elim other [ inl same ↦ same | inr out ↦ absurd (excused q n reader x l.i k reads.its out d r below l.silent) ]
      ]

  other_first : (x : ℕ) (q : PointView) → FindsNotFirst t K q x → FindsThere t q x (first_blocks t o x) → ⊥
  other_first x q not found =
      differ x q not.other not.differs (first_blocks t o x) (not.first not.other not.its) found

  not_first : (reader x k : ℕ) (q : PointView) → IsReadingOf t reader x q → WasPut t K q reader x → IsDoneAt o reader x k
      → LeftFirst t o k x → ⊥
  not_first reader x k q reads put r l = by put
    where
      found : FindsThere t q x (first_blocks t o x)
      found = subst (λ (b : Block). FindsThere t q x b) l.is (finds reader x k q reads.its r)

      by : WasPut t K q reader x → ⊥
      by (inl cannot) = cannot (first_of t o q x t.start e.start found)
      by (inr (inl not)) = other_first x q not found
      by (inr (inr other)) = not_kept q other.0 reader x 0 k reads.its r other.1 (omega arith) l.silent

  left_there : (n x k : ℕ) → IsDoneAt o n x k → LeftBy t o k x ⊎ LeftFirst t o k x
  left_there n x k d =
      let inside = slice_get_within o.placed k d.p d.placed in left t o x e k (omega (arith, inside))

  -- A reader finds what its source put.
  pub from_source : (writer reader x k : ℕ) → IsSource t K writer reader x → IsDoneAt o reader x k → IsFrom t o writer x k
  from_source writer reader x k source r =
      elim (left_there reader x k r) [
        | inl l ↦
            let same = left_by_it reader writer x k source.point source.reads source.only r l in
            record { i = l.i; below = l.below; done = record { p = l.p; placed = l.stands.placed; its = same; block = l.block }; silent = l.silent }
        | inr first ↦ absurd (not_first reader x k source.point source.reads source.was_put r first)
      ]

  -- A reader that none serves finds what was there at first.
  pub from_first : (reader x k : ℕ) → IsUnserved t K reader x → IsDoneAt o reader x k → LeftFirst t o k x
  from_first reader x k unserved r =
      elim (left_there reader x k r) [
        | inl l ↦
            let same = left_by_it reader reader x k unserved.point unserved.reads unserved.none r l in
            let d : IsDoneAt o reader x l.i = record { p = l.p; placed = l.stands.placed; its = same; block = l.block } in
            let one = once_done t o e reader x l.i k unserved.point unserved.reads.its unserved.reads.once d r in
            let below = l.below in absurd (omega (arith, below, one))
        | inr first ↦ first
      ]

  pub is_first : (reader x k : ℕ) → IsUnserved t K reader x → IsDoneAt o reader x k → IsFirst t o (node reader x)
  is_first reader x k unserved r q its =
      let first = from_first reader x k unserved r in subst (λ (b : Block). FindsThere t q x b) first.is (finds reader x k q its r)
