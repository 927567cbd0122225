use Rattle.std.proofs.Common.{refl, arith}
use Rattle.std.proofs.lemmas.Bool.{false≢true}
use Rattle.nvm_geometry.proofs.Deallocations.{range_ends, ranges_end}
use Rattle.nvm_geometry.proofs.large_geometry.LargeGeometry.ranges_in_range.Goals as goal

pub returns-then-not-in_range : goal.returns-then-not-in_range
returns-then-not-in_range c = (
  (λ h. absurd (false≢true h)),
  (λ all.
      c.if-not-in_range.ensures.1
      (rw c.at-range.ensures
      (range_ends c.args.self c.args.ranges.now c.loop-place.place all
      (omega (arith, c.range_count-place-end.ensures))))),
)

pub returns : goal.returns
returns c = (
  (λ _. ranges_end c.args.self c.args.ranges.now
      (λ k below. c.loop-place.invariant k (omega (arith, below, c.range_count-place-end.ensures)))),
  (λ _. refl),
)
