use Rattle.nvm_audit.specs.Inside.Audited.{view_of_shown, IsJudgedDownTo}
use Rattle.nvm_audit.proofs.walking.judge_at.Given as goal

abbrev pub invariant-loop-at : goal.invariant-loop-at
invariant-loop-at l = IsJudgedDownTo (view_of_shown l.u) l.n l.at l.findings.items

abbrev pub decreases-loop-at : goal.decreases-loop-at
decreases-loop-at l = l.at
