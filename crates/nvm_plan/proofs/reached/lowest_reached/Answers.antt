use Rattle.std.proofs.Common.{List, ℕ, sym, subst}
use Rattle.nvm_record.specs.Ranges.{ranges_have, ranges_of}
use Rattle.nvm_geometry.specs.Lowest.{IsLowest}
use Rattle.nvm_plan.specs.declared.reach.Reach.{Reach}
use Rattle.nvm_plan.specs.Inside.Reach.{reach_has}
use Rattle.nvm_plan.proofs.reached.lowest_reached.Goals as goal

pub returns-in-Ranges : goal.returns-in-Ranges
returns-in-Ranges c =
    subst (λ (r : Reach). IsLowest (reach_has r) c.args.from c.lowest_of_ranges.result) (sym c.in-Ranges.is)
    (subst (λ (bytes : List ℕ). IsLowest (ranges_have (ranges_of bytes)) c.args.from c.lowest_of_ranges.result) c.as_slice.ensures
    c.lowest_of_ranges.ensures)
