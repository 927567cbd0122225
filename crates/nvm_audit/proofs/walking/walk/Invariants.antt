use Rattle.nvm_audit.specs.Inside.Audited.{view_of_shown, IsWalkedTo}
use Rattle.nvm_audit.proofs.walking.walk.Given as goal

abbrev pub invariant-loop-place : goal.invariant-loop-place
invariant-loop-place l = IsWalkedTo (view_of_shown l.u) l.place l.blocks l.findings.items
