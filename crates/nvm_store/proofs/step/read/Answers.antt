use Rattle.std.proofs.Common.{length, ap, ◌∙◌}
use Rattle.nvm_store.proofs.step.read.Goals as goal

pub returns-clause-length : goal.returns-clause-length
returns-clause-length c = ap length c.new.ensures ∙ c.in_ok-bytes.ensures.len
