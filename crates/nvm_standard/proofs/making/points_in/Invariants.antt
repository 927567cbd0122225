use Rattle.std.proofs.Common.{◌≡◌, ◌++◌, map, drop}
use Rattle.nvm_standard.specs.PointView.{seen}
use Rattle.nvm_standard.specs.Table.{points_from}
use Rattle.nvm_standard.proofs.making.points_in.Given as goal

-- With those of the commands that are left the points are all.
abbrev pub invariant-loop-number : goal.invariant-loop-number
invariant-loop-number l =
    map seen l.points.items ++ points_from l.trace.namespace l.held l.number (drop l.number l.trace.jobs)
    ≡ points_from l.trace.namespace l.held 0 l.trace.jobs
