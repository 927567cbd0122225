use Rattle.std.proofs.Common.{◌++◌, ◌∙◌, ap, append_assoc, subst, sym}
use Rattle.std.proofs.KnownBytes.{Appends-trans}
use Rattle.nvm_text.specs.Handed.{TakesFront}
use Rattle.nvm_text.proofs.Taking.{on_err, takes_behind}
use Rattle.nvm_text.specs.Runs.{runs}
use Rattle.nvm_text.specs.Lines.{runs_text}
use Rattle.nvm_text.proofs.run.write_runs.Goals as goal

pub returns-in_err-rest-clause-front : goal.returns-in_err-rest-clause-front
returns-in_err-rest-clause-front g c =
    let (done, split, taken) = c.loop-rest.invariant in
    on_err c.from_residual.result (subst (TakesFront _ _) (sym split)
    (takes_behind _ _ _ done (runs_text (runs c.loop-rest.rest.now)) taken c.in_err-rest.ensures.front))

pub loop-rest-preserved : goal.loop-rest-preserved
loop-rest-preserved g c =
    let (done, split, taken) = c.loop-rest.invariant in
    let (shorter, text, cut, more) = c.in_ok-rest.ensures.whole in (
      done ++ text,
      split ∙ ap (λ l. done ++ l) cut ∙ sym (append_assoc done text (runs_text (runs c.in_ok-rest.rest.now))),
      Appends-trans _ _ _ done text taken more,
    )
