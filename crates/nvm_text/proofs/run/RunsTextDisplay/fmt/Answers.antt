use Rattle.std.proofs.Common.{◌++◌, ◌∙◌, ap, append_assoc, sym}
use Rattle.std.proofs.Output.{has_written_append}
use Rattle.nvm_text.specs.Runs.{runs}
use Rattle.nvm_text.specs.Lines.{runs_text}
use Rattle.nvm_text.proofs.run.RunsTextDisplay.fmt.Goals as goal

pub loop-rest-preserved : goal.loop-rest-preserved
loop-rest-preserved g c = λ plain.
    let (done, split, before) = c.loop-rest.invariant plain in
    let (text, cut, more) = c.in_ok-rest.ensures.shown before.plain in (
      done ++ text,
      split ∙ ap (λ l. done ++ l) cut ∙ sym (append_assoc done text (runs_text (runs c.in_ok-rest.rest.now))),
      has_written_append _ _ _ _ _ _ before more,
    )
