use Rattle.std.proofs.Common.{ℕ, List}
use Rattle.nvm_unit.specs.Ends.{views_of}
use Rattle.nvm_unit.specs.declared.views.PassView.{PassView}
use Rattle.nvm_space.specs.Inside.Replying.{left_of}
use Rattle.nvm_space.specs.Ports.{ArePassesOfAll}
use Rattle.nvm_space.specs.Progress.{IsProgress}
use Rattle.nvm_space.specs.UnderWay.{IsUnderWay}
use Rattle.nvm_space.proofs.running.poll_job.Given as goal

-- From wherever the job was begun, it is done, or under way.
abbrev pub invariant-loop-progress : goal.invariant-loop-progress
invariant-loop-progress g l = record {
  passes : (n : ℕ) → ArePassesOfAll l.units n l.fn.passes.items → ArePassesOfAll l.units n l.passes.items;
  progress : (start : List PassView) → IsUnderWay l.geometry l.lists l.job l.fn.under_way start (views_of l.fn.passes.items)
      → IsProgress l.geometry l.lists l.fn.under_way.number l.job start (views_of l.passes.items) l.progress;
}

-- Each part leaves fewer.
abbrev pub decreases-loop-progress : goal.decreases-loop-progress
decreases-loop-progress g l = left_of l.geometry l.job l.progress
