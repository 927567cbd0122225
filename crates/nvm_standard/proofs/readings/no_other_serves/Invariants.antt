use Rattle.std.proofs.Common.{◌≡◌, ◌⊎◌, ℕ, ◌<◌}
use Rattle.nvm_standard.specs.PointView.{seen, seen_table}
use Rattle.nvm_standard.specs.Inside.Noted.{noted}
use Rattle.nvm_standard.specs.Readings.{IsExcused, IsServedBy}
use Rattle.nvm_standard.proofs.readings.no_other_serves.Given as goal

abbrev pub invariant-loop-number : goal.invariant-loop-number
invariant-loop-number l =
    (n : ℕ) → n < l.number → IsServedBy (seen_table l.points) (seen l.reading) n l.reader.block
    → (n ≡ l.reader.point)
    ⊎ ((n ≡ l.writer) ⊎ IsExcused (seen_table l.points) (noted (seen_table l.points) l.known) (seen l.reading) n l.reader.point l.reader.block)
