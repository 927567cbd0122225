use Rattle.std.proofs.Common.{ℕ, ◌+◌, ◌<◌, ◌≤◌}
use Rattle.nvm_standard.specs.PointView.{seen_table}
use Rattle.nvm_standard.specs.Absurd.{IsNobody}
use Rattle.nvm_standard.specs.Inside.Noted.{noted}
use Rattle.nvm_standard.proofs.contradicting.is_nowhere.Given as goal

abbrev pub invariant-loop-place : goal.invariant-loop-place
invariant-loop-place l =
    (x : ℕ) → l.point.first ≤ x → x < l.point.first + l.place
    → IsNobody (seen_table l.points) (noted (seen_table l.points) l.known) l.reader x
