use Rattle.std.proofs.Common.{inl, subst}
use Rattle.nvm_geometry.specs.Large.{IsLarge}
use Rattle.nvm_geometry.specs.Namespace.{Namespace}
use Rattle.nvm_c.specs.Identify.{Reports}
use Rattle.nvm_c.proofs.identify.identify_numbers.Goals as goal

-- The geometry is the namespace of the numbers.
pub returns-in-Some : goal.returns-in-Some
returns-in-Some c = inl (
  subst IsLarge c.in-Some.ensures.taken c.in-Some.ensures.sound,
  subst (λ (ns : Namespace). Reports c.report.result ns c.args.buffer.now c.report.new.buffer) c.in-Some.ensures.taken c.report.ensures,
)
