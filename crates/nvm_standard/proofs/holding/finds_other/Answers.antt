use Rattle.std.proofs.Common.{◌+◌, map, sym, ap, subst, ◌∙◌, arith}
use Rattle.std.proofs.lemmas.List.{length-map}
use Rattle.nvm_record.specs.Medium.{Medium}
use Rattle.nvm_standard.specs.PointView.{seen, seen_table}
use Rattle.nvm_standard.specs.Contents.{blocks_before}
use Rattle.nvm_standard.specs.Inside.Held.{Holds, after_blocks}
use Rattle.nvm_standard.specs.OrderView.{seen_content, seen_order, seen_placed}
use Rattle.nvm_standard.proofs.Blocks.{all_after, before_first, before_next, finds_all, finds_more, same_medium}
use Rattle.nvm_standard.proofs.Standing.{not_both}
use Rattle.nvm_standard.proofs.holding.finds_other.Goals as goal

pub loop-position-init : goal.loop-position-init
loop-position-init c =
    let t = seen_table c.args.points.now in
    let o = seen_order c.args.order.now in
    record {
      holds = subst (Holds t (map seen_content c.in_ok-held.held.items)) (sym (before_first t o)) c.in_ok-held.ensures;
      found = λ i p q x none s has. absurd (omega arith);
    }

pub loop-position-preserved : goal.loop-position-preserved
loop-position-preserved c =
    let t = seen_table c.args.points.now in
    let o = seen_order c.args.order.now in
    let k = c.loop-position.position in
    let p = seen_placed c.stands_at.result.0.now in
    let q = seen c.stands_at.result.1.now in
    let before = c.loop-position.invariant in
    let m = blocks_before t o k in
    let put = c.put.ensures m before.holds in
    record {
      holds =
          same_medium t (map seen_content c.put.new.held.items) (after_blocks t.block_size q p (p.first + p.blocks) m) (blocks_before t o (k + 1))
          (λ x. all_after t o q p m c.stands_at.ensures.stands.its x ∙ sym (ap (λ (n : Medium). n x) (before_next t o k p q c.stands_at.ensures.stands))) put;
      found =
          finds_more t o k p q c.stands_at.ensures.stands
          (c.finds.ensures.right m before.holds c.if-not-finds.false) before.found;
    }

pub returns-clause-right : goal.returns-clause-right
returns-clause-right c =
    let same = length-map c.args.order.now.placed.items seen_placed in
    finds_all (seen_table c.args.points.now) (seen_order c.args.order.now) c.loop-position.position
    (omega (arith, same, c.loop-position-test.false)) c.loop-position.invariant.found

pub returns-then-not-finds-clause-wrong : goal.returns-then-not-finds-clause-wrong
returns-then-not-finds-clause-wrong c = λ keeps.
    let t = seen_table c.args.points.now in
    let o = seen_order c.args.order.now in
    let k = c.loop-position.position in
    let p = seen_placed c.stands_at.result.0.now in
    let q = seen c.stands_at.result.1.now in
    not_both c.finds.result
    (c.finds.ensures.wrong (blocks_before t o k) c.loop-position.invariant.holds (λ x has. keeps k p q x c.stands_at.ensures.stands has)) c.if-not-finds.true
