use Rattle.std.proofs.Common.{◌≡◌, ℕ, ◌+◌, map, sym, subst, ◌∙◌, arith}
use Rattle.nvm_standard.specs.PointView.{seen, seen_table}
use Rattle.nvm_standard.specs.Inside.Held.{Holds, after_blocks}
use Rattle.nvm_standard.specs.OrderView.{seen_content, seen_placed}
use Rattle.nvm_standard.proofs.holding.put.Goals as goal

pub loop-block-preserved : goal.loop-block-preserved
loop-block-preserved c =
    let t = seen_table c.args.points.now in
    let q = seen c.args.point.now in
    let p = seen_placed c.args.placed.now in
    let b = c.loop-block.block in
    let same : t.block_size ≡ c.bytes-size.result = sym c.bytes-size.ensures.value in
    record {
      holds = λ m holds.
          subst (λ (n : ℕ). Holds t (map seen_content c.put_in.new.held.items) (after_blocks n q p (b + 1) m)) (sym same)
          (c.put_in.ensures.holds t m same
          (subst (λ (n : ℕ). Holds t (map seen_content c.loop-block.held.items) (after_blocks n q p b m)) same (c.loop-block.invariant.holds m holds)));
      many = c.put_in.ensures.many ∙ c.loop-block.invariant.many;
    }

pub returns : goal.returns
returns c = λ m holds.
    let t = seen_table c.args.points.now in
    let q = seen c.args.point.now in
    let p = seen_placed c.args.placed.now in
    let e : c.loop-block.block ≡ p.first + p.blocks = omega arith in
    subst (λ (b : ℕ). Holds t (map seen_content c.loop-block.held.items) (after_blocks t.block_size q p b m)) e
    (c.loop-block.invariant.holds m holds)
