use Rattle.std.proofs.Common.{sym, subst, List}
use Rattle.nvm_text.specs.Runs.{Run, AreLongestRuns}
use Rattle.nvm_text.proofs.RunLemmas.{only_longest, runs_longest}
use Rattle.nvm_text.proofs.laws.runs_are_longest.Goals as goal

pub returns : goal.returns
returns c = λ bytes rs. (only_longest bytes rs, λ e. subst (λ (x : List Run). AreLongestRuns bytes x) (sym e) (runs_longest bytes))
