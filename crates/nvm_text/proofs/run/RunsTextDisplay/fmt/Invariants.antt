-- What was written, and the runs of what is left, is the whole text.
use Rattle.std.proofs.Common.{◌≡◌, ◌++◌, ℕ, List, length}
use Rattle.std.specs.Fmt.{HasWritten, IsPlainFormatter}
use Rattle.nvm_text.specs.Runs.{runs}
use Rattle.nvm_text.specs.Lines.{runs_text}
use Rattle.nvm_text.proofs.run.RunsTextDisplay.fmt.Given as goal

abbrev pub invariant-loop-rest : goal.invariant-loop-rest
invariant-loop-rest g l =
    IsPlainFormatter l.initial.f → (done : List ℕ) × (runs_text (runs l.fn.self.0.now) ≡ done ++ runs_text (runs l.rest))
    × HasWritten g.W.Write.write_str_gives l.initial.f done l.f

abbrev pub decreases-loop-rest : goal.decreases-loop-rest
decreases-loop-rest g l = length l.rest
