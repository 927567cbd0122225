use Rattle.std.proofs.Common.{◌≡◌, ◌∙◌, ◌<◌, ◌++◌, ◌∷◌, [], List, length, take, ap, sym, rules}
use Rattle.std.proofs.lemmas.List.{take_more}
use Rattle.nvm_audit.specs.RecordedJob.{RecordedJob}
use Rattle.nvm_c.proofs.work.copies.Goals as goal

pub loop-i-preserved : goal.loop-i-preserved
loop-i-preserved c =
    let done = c.args.done.now.items in
    let below : c.loop-i.i < length done = search rules in
    let copy : c.in_ok-copy.copy ≡ c.index.result.now = c.in_ok-copy.ensures in
    c.in_ok-push.ensures.items ∙ ap (λ (xs : List RecordedJob). xs ++ c.in_ok-copy.copy ∷ []) c.loop-i.invariant
    ∙ ap (λ (d : RecordedJob). take c.loop-i.i done ++ d ∷ []) (copy ∙ c.index.ensures) ∙ sym (take_more done c.loop-i.i c.index.result.now below)
