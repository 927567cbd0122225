use Rattle.std.proofs.Common.{◌≡◌, ◌+◌, ◌-◌, arith, sym, ◌∙◌}
use Rattle.nvm_record.proofs.GroupsEqual.{group_more, rest_decides}
use Rattle.nvm_record.proofs.equality.are_equal.Goals as goal

pub loop-from-preserved : goal.loop-from-preserved
loop-from-preserved c =
    let long : c.loop-from.from + 256 - c.loop-from.from ≡ 256 = omega arith in
    record {
      long = c.loop-from.invariant.long;
      within = omega arith;
      front = group_more c.args.one.now c.args.other.now c.loop-from.from 256 c.loop-from.invariant.front (let group = rw long at c.if-not-is_group_equal.ensures in sym group);
    }

pub returns : goal.returns
returns c = c.eq.ensures ∙ rest_decides c.args.one.now c.args.other.now c.loop-from.from c.loop-from.invariant.front
