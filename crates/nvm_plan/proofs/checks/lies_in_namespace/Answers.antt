use Rattle.std.proofs.Common.{◌≡◌, true, sym, ◌∙◌}
use Rattle.nvm_record.specs.Op.{carries_ranges}
use Rattle.nvm_record.specs.Ranges.{ranges_of}
use Rattle.nvm_plan.proofs.Unrefused.{ranges_tested}
use Rattle.nvm_plan.proofs.checks.lies_in_namespace.Goals as goal

pub returns-then-carries_ranges : goal.returns-then-carries_ranges
returns-then-carries_ranges c =
    let carries : carries_ranges c.args.command.now.op ≡ true = sym c.carries_ranges.ensures ∙ c.if-carries_ranges.true in
    rw carries (ranges_tested c.ranges_in_range.result c.args.geometry (ranges_of c.args.command.now.payload) (rw c.as_slice.ensures at c.ranges_in_range.ensures))
