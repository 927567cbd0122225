use Rattle.std.proofs.Common.{◌≡◌, ℕ, ◌-◌, ◌<◌, inl, inr, length, sym, subst, arith}
use Rattle.nvm_record.specs.declared.block.Block.{Block}
use Rattle.nvm_standard.specs.PointView.{seen, seen_table}
use Rattle.nvm_standard.specs.Contents.{MayFind}
use Rattle.nvm_standard.specs.OrderView.{block_of, seen_content}
use Rattle.nvm_standard.proofs.Standing.{earlier_or_last, not_both, read_seen}
use Rattle.nvm_standard.proofs.holding.finds.Goals as goal

pub loop-block-preserved : goal.loop-block-preserved
loop-block-preserved c = λ m holds x low below.
    let size = (seen_table c.args.points.now).block_size in
    let q = seen c.args.point.now in
    let b = c.loop-block.block in
    elim (earlier_or_last x b below) [
      | inl h ↦ c.loop-block.invariant m holds x low h
      | inr e ↦
          let inside : b < length c.args.held.now.items = omega arith in
          let at = read_seen seen_content c.args.held.now.items b c.index.result.now inside c.index.ensures in
          let is : block_of size (seen_content c.index.result.now) ≡ m b = holds.each b (seen_content c.index.result.now) at in
          let found : MayFind size q.found (b - q.first) (block_of size (seen_content c.index.result.now)) =
          subst (λ (n : ℕ). MayFind n q.found (b - q.first) (block_of n (seen_content c.index.result.now))) c.bytes.ensures.value
          (c.may_find.ensures.0 c.if-not-may_find.false) in
          subst (λ (y : ℕ). MayFind size q.found (y - q.first) (m y)) (sym e)
          (subst (λ (k : Block). MayFind size q.found (b - q.first) k) is found)
    ]

pub returns-then-not-may_find-clause-wrong : goal.returns-then-not-may_find-clause-wrong
returns-then-not-may_find-clause-wrong c = λ m holds all.
    let size = (seen_table c.args.points.now).block_size in
    let q = seen c.args.point.now in
    let b = c.loop-block.block in
    let content = seen_content c.index.result.now in
    let at = read_seen seen_content c.args.held.now.items b c.index.result.now (omega arith) c.index.ensures in
    let is : block_of size content ≡ m b = holds.each b content at in
    let found : MayFind size q.found (b - q.first) (m b) = all b (record { from = omega arith; below = omega arith }) in
    let here : MayFind c.bytes.result q.found (b - q.first) (block_of c.bytes.result content) =
    subst (λ (n : ℕ). MayFind n q.found (b - q.first) (block_of n content)) (sym c.bytes.ensures.value)
    (subst (λ (k : Block). MayFind size q.found (b - q.first) k) (sym is) found) in
    absurd (not_both c.may_find.result (c.may_find.ensures.1 here) c.if-not-may_find.true)
