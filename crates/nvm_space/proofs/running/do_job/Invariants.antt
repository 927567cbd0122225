use Rattle.std.proofs.Common.{ℕ}
use Rattle.nvm_unit.specs.Ends.{views_of}
use Rattle.nvm_space.specs.Inside.Replying.{left_of}
use Rattle.nvm_space.specs.Ports.{ArePassesOfAll}
use Rattle.nvm_space.specs.Progress.{IsProgress}
use Rattle.nvm_space.proofs.running.do_job.Given as goal

-- The job is done, or under way.
abbrev pub invariant-loop-progress : goal.invariant-loop-progress
invariant-loop-progress g l = record {
  passes : (n : ℕ) → ArePassesOfAll l.units n l.fn.passes.items → ArePassesOfAll l.units n l.passes.items;
  progress : IsProgress l.geometry l.lists l.number l.job (views_of l.fn.passes.items) (views_of l.passes.items) l.progress;
}

-- Each part leaves fewer.
abbrev pub decreases-loop-progress : goal.decreases-loop-progress
decreases-loop-progress g l = left_of l.geometry l.job l.progress
