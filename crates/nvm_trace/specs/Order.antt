-- The order of the steps on one unit (own). A step that made an entry has the entry's place in it. A look, and a pair whose
-- comparison failed, comes after the entries that it saw and before the next one.
use Rattle.std.specs.Prelude.{◌≡◌, ℕ, ◌+◌, ◌*◌, ◌<◌, if◌then◌else◌}
use Rattle.nvm_trace.specs.declared.step.Step.{Step}

-- The entry at place n has level 2 * n + 1, and what rests on point n without an entry has level 2 * n. Steps of one level are
-- looks and failed pairs between the same entries, and have no order.
abbrev pub level_of : Step → ℕ
level_of s = 2 * s.point + (if s.made then 1 else 0)

-- The one step comes before the other in the order of their unit.
pub record Precedes (earlier later : Step) : Type 0 where
  pub unit : earlier.unit ≡ later.unit
  pub level : level_of earlier < level_of later
