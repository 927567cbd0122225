use Rattle.std.proofs.Common.{inr, ◌∙◌}
use Rattle.nvm_commands.proofs.files.order_in.Goals as goal

pub returns-in-Err : goal.returns-in-Err
returns-in-Err c = inr (c.in_ok-named.named, c.in_ok-named.ensures.ok, (c.in-Err.fault, c.hinted.ensures ∙ c.of_evidence.ensures))
