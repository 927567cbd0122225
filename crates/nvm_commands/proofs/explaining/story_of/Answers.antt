use Rattle.std.proofs.Common.{inl, inr}
use Rattle.std.proofs.lemmas.Result.{IfErr-weaker}
use Rattle.nvm_commands.proofs.explaining.story_of.Goals as goal

-- The fault of an order or a contradiction is returned as it is.
pub returns-in-Standard : goal.returns-in-Standard
returns-in-Standard g c =
    IfErr-weaker c.story_by_evidence.result _ _ (λ failure is. inr ((c.in_ok-seen.seen, c.in_ok-seen.ensures.trace), inr is))
    c.story_by_evidence.ensures

-- And so is the record's.
pub returns : goal.returns
returns g c =
    IfErr-weaker c.story_by_record.result _ _ (λ failure is. inr ((c.in_ok-seen.seen, c.in_ok-seen.ensures.trace), inl is))
    c.story_by_record.ensures
