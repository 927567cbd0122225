use Rattle.std.proofs.Common.{◌∙◌, sym}
use Rattle.std.proofs.lemmas.Result.{IfOk-weaker}
use Rattle.nvm_record.specs.PayloadRef.{lent_bytes}
use Rattle.nvm_record.proofs.payload_ref.PayloadRef.share.Goals as goal

pub returns-in-Some : goal.returns-in-Some
unfolding lent_bytes
returns-in-Some c =
    IfOk-weaker c.part.result _ _ (λ p is. is ∙ sym (c.args.self.part c.in-Some.payload c.in-Some.is)) c.part.ensures
