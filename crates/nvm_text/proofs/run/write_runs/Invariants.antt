-- What was written, and the runs of what is left, is the whole text.
use Rattle.std.proofs.Common.{◌≡◌, ◌++◌, ℕ, List, length}
use Rattle.std.specs.Io.KnownBytes.{Appends}
use Rattle.nvm_text.specs.Runs.{runs}
use Rattle.nvm_text.specs.Lines.{runs_text}
use Rattle.nvm_text.proofs.run.write_runs.Given as goal

abbrev pub invariant-loop-rest : goal.invariant-loop-rest
invariant-loop-rest g l =
    (done : List ℕ) × (runs_text (runs l.bytes) ≡ done ++ runs_text (runs l.rest)) × Appends (g.W.Write.contents l.initial.writer) (g.W.Write.contents l.writer) done

abbrev pub decreases-loop-rest : goal.decreases-loop-rest
decreases-loop-rest g l = length l.rest
