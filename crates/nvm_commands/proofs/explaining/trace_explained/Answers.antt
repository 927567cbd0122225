use Rattle.std.proofs.lemmas.Result.{IfErr-weaker}
use Rattle.nvm_commands.proofs.Held.{story_fault}
use Rattle.nvm_commands.proofs.explaining.trace_explained.Goals as goal

pub returns : goal.returns
returns g c =
    IfErr-weaker c.story_of.result _ _
    (λ failure is. story_fault c.args.trace.now c.in_ok-seen.seen c.args.evidence.now c.in_ok-held.held failure.fault is)
    c.story_of.ensures
