use Rattle.std.proofs.lemmas.Result.{IfOk-weaker}
use Rattle.nvm_c.proofs.refuting.unread.Goals as goal

pub returns : goal.returns
returns c = IfOk-weaker c.bad_evidence.result _ _ (λ finding h. record { fault = c.args.fault; fault_is = c.requires; code_is = h.0; line_is = h.1 }) c.bad_evidence.ensures.found
