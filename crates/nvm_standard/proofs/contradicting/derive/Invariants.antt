use Rattle.nvm_standard.specs.PointView.{seen_table}
use Rattle.nvm_standard.specs.Inside.Derived.{AreDerived}
use Rattle.nvm_standard.proofs.contradicting.derive.Given as goal

abbrev pub invariant-loop-n : goal.invariant-loop-n
invariant-loop-n l = AreDerived (seen_table l.points) l.facts.items l.n l.known
