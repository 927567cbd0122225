-- In an explanation each rule says what is so.
use Rattle.std.proofs.Common.{◌≡◌, ◌≢◌, ℕ, ◌+◌, ◌-◌, sym, subst, arith}
use Rattle.nvm_standard.specs.PointView.{TableView}
use Rattle.nvm_standard.specs.Explanation.{IsExplanation}
use Rattle.nvm_standard.specs.OrderView.{OrderView}
use Rattle.nvm_standard.specs.Places.{IsDoneAt}
use Rattle.nvm_standard.specs.Presence.{IsDone}
use Rattle.nvm_standard.specs.Knowledge.{Knowledge}
use Rattle.nvm_standard.specs.Nodes.{node_at}
use Rattle.nvm_standard.specs.Readings.{IsSource, IsUnserved}
use Rattle.nvm_standard.specs.Rules.{IsOnce, IsOwn, IsOverwritten, IsTied}
use Rattle.nvm_standard.specs.Serving.{SurelyPuts}
use Rattle.nvm_standard.specs.Times.{ComesBefore, IsDeallocate}
use Rattle.nvm_standard.specs.declared.node.Node.{Node}
use Rattle.nvm_standard.proofs.Done.{Precedes, from_named, its_of, once_done, stands_done, to_named, whole_done}
use Rattle.nvm_standard.proofs.Finding.{from_first, from_source, not_silent}
use Rattle.nvm_standard.proofs.Earlier.{apart, comes, deallocated, earlier, truth}

module _ (t : TableView) (o : OrderView) (e : IsExplanation t o) where
  abbrev K : Knowledge
  K = truth t o

  abbrev Before : Node → Node → Type 0
  Before = Precedes o

  pub by_deallocate : (n w x : ℕ) → IsDeallocate t n w x → Before (node_at t n x) (node_at t w x)
  by_deallocate n w x is i j dn dw =
      deallocated t o e n w x i j is (from_named t o e n x i is.first is.first_is is.deallocated dn)
      (from_named t o e w x j is.second is.second_is is.written dw)

  pub by_own : (n x : ℕ) → IsOwn t n x → Before (node_at t (n - 1) x) (node_at t n x)
  by_own n x is i j db dn =
      let d = from_named t o e n x j is.point is.its is.block dn in
      let f = (e.present n is.point is.its).after is.after x j d in
      let next = f.next in
      let same : f.before ≡ n - 1 = omega (arith, next) in
      let was : IsDoneAt o (n - 1) x f.position = subst (λ (m : ℕ). IsDoneAt o m x f.position) same f.done in
      let its = its_of t o e (n - 1) x f.position was in
      let one = once_done t o e (n - 1) (node_at t (n - 1) x).block i f.position its.point its.its (is.once its.point its.its) db
      (to_named t o e (n - 1) x f.position was) in
      let before = f.earlier in
      omega (arith, one, before)

  pub by_source : (w r x : ℕ) → IsOnce t w → IsSource t K w r x → Before (node_at t w x) (node_at t r x)
  by_source w r x once source i k dw dr =
      let d = from_named t o e r x k source.point source.reads.its source.reads.block dr in
      let from = from_source t o e w r x k source d in
      let its = its_of t o e w x from.i from.done in
      let one = once_done t o e w (node_at t w x).block i from.i its.point its.its (once its.point its.its) dw
      (to_named t o e w x from.i from.done) in
      let below = from.below in
      omega (arith, one, below)

  pub by_over : (r w x s : ℕ) → ComesBefore t K s w x → IsOverwritten t K w r x s → Before (node_at t r x) (node_at t w x)
  by_over r w x s before is k j dr dw =
      let source = is.is_source in
      let d = from_named t o e r x k source.point source.reads.its source.reads.block dr in
      let f = from_named t o e w x j is.puts.point is.puts.its is.puts.block dw in
      let from = from_source t o e s r x k source d in
      let after = comes t o e s w x from.i j before from.done f in
      earlier k j (apart t o e r w x x k j (λ same. is.not_reader (sym same)) d f)
      (λ less. not_silent t o e w x (from.i + 1) j k is.puts f (omega (arith, after)) less from.silent)

  pub by_under : (w s x r : ℕ) → IsDone o r (node_at t r x).block → ComesBefore t K w r x → IsOnce t s
      → IsOverwritten t K w r x s → Before (node_at t w x) (node_at t s x)
  by_under w s x r there before once is j i dw ds =
      let source = is.is_source in
      let k = there.position in
      let d = from_named t o e r x k source.point source.reads.its source.reads.block there.done in
      let f = from_named t o e w x j is.puts.point is.puts.its is.puts.block dw in
      let from = from_source t o e s r x k source d in
      let its = its_of t o e s x from.i from.done in
      let one = once_done t o e s (node_at t s x).block i from.i its.point its.its (once its.point its.its) ds
      (to_named t o e s x from.i from.done) in
      let less = comes t o e w r x j k before f d in
      earlier j i (apart t o e w s x (node_at t s x).block j i is.not_source f ds)
      (λ more. not_silent t o e w x (from.i + 1) j k is.puts f (omega (arith, one, more)) less from.silent)

  pub by_first : (r w x : ℕ) → w ≢ r → SurelyPuts t K w x → IsUnserved t K r x → Before (node_at t r x) (node_at t w x)
  by_first r w x ne sure unserved k j dr dw =
      let d = from_named t o e r x k unserved.point unserved.reads.its unserved.reads.block dr in
      let f = from_named t o e w x j sure.point sure.its sure.block dw in
      let first = from_first t o e r x k unserved d in
      earlier k j (apart t o e r w x x k j (λ same. ne (sym same)) d f)
      (λ less. not_silent t o e w x 0 j k sure f (omega arith) less first.silent)

  pub by_tied_before : (r x w y : ℕ) → ComesBefore t K r w y → IsTied t K r x w y
      → Before (node_at t r x) (node_at t w x)
  by_tied_before r x w y before is k j dr dw =
      let d = from_named t o e r x k is.reading is.reader_is is.one dr in
      let f = from_named t o e w x j is.putting is.entry_is is.both.one dw in
      let i = is.there.position in
      let b = from_named t o e r y i is.reading is.reader_is is.other is.there.done in
      let has = whole_done t o e w x y j is.putting f is.entry_is is.both.one_moment is.both.other in
      let at : IsDoneAt o w y j = record { p = f.p; placed = f.placed; its = f.its; block = has } in
      let less = comes t o e r w y i j before b at in
      earlier k j (apart t o e r w x x k j is.not_reader d f)
      (λ more. e.tied i j k r y x b.p f.p is.reading is.putting less more (stands_done t o e r y i is.reading b is.reader_is) is.tied b.its b.block
      (stands_done t o e w x j is.putting f is.entry_is) is.both.puts is.both.one_moment has f.block d)

  pub by_tied_after : (w r x y : ℕ) → ComesBefore t K w r y → IsTied t K r x w y
      → Before (node_at t w x) (node_at t r x)
  by_tied_after w r x y before is j k dw dr =
      let d = from_named t o e r x k is.reading is.reader_is is.one dr in
      let f = from_named t o e w x j is.putting is.entry_is is.both.one dw in
      let i = is.there.position in
      let b = from_named t o e r y i is.reading is.reader_is is.other is.there.done in
      let has = whole_done t o e w x y j is.putting f is.entry_is is.both.one_moment is.both.other in
      let at : IsDoneAt o w y j = record { p = f.p; placed = f.placed; its = f.its; block = has } in
      let more = comes t o e w r y j i before at b in
      earlier j k (apart t o e w r x x j k (λ same. is.not_reader (sym same)) f d)
      (λ less. e.tied k j i r x y d.p f.p is.reading is.putting less more (stands_done t o e r x k is.reading d is.reader_is) is.tied d.its d.block
      (stands_done t o e w x j is.putting f is.entry_is) is.both.puts is.both.one_moment f.block has b)
