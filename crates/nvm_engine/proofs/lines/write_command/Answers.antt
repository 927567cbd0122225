use Rattle.std.proofs.Common.{refl, ap}
use Rattle.nvm_text.specs.Lines.{line}
use Rattle.nvm_text.proofs.Taking.{then_front, then_whole, within}
use Rattle.nvm_plan.specs.Completions.{completion}
use Rattle.nvm_engine.specs.UnderLine.{lists_say, next_of, under}
use Rattle.nvm_engine.proofs.lines.write_command.Goals as goal

pub returns-in_err-write_line-clause-front : goal.returns-in_err-write_line-clause-front
returns-in_err-write_line-clause-front g c =
    let a = c.args in
    within c.from_residual.result _ _ _ (line a.command.now.op (completion a.host a.command.now a.status a.payload.now))
    (under a.form (next_of (lists_say a.lists.now) a.host) a.status) refl c.in_err-write_line.ensures.front

pub returns-clause-whole : goal.returns-clause-whole
returns-clause-whole g c =
    let a = c.args in
    then_whole c.write_under.result _ _ _ _ (line a.command.now.op (completion a.host a.command.now a.status a.payload.now)) _
    (under a.form (next_of (lists_say a.lists.now) a.host) a.status) refl
    (ap (λ said. under a.form said a.status) c.take_said-said.ensures.said) c.in_ok-write_line.ensures.whole c.write_under.ensures.whole

pub returns-clause-front : goal.returns-clause-front
returns-clause-front g c =
    let a = c.args in
    then_front c.write_under.result _ _ _ _ (line a.command.now.op (completion a.host a.command.now a.status a.payload.now)) _
    (under a.form (next_of (lists_say a.lists.now) a.host) a.status) refl
    (ap (λ said. under a.form said a.status) c.take_said-said.ensures.said) c.in_ok-write_line.ensures.whole c.write_under.ensures.front
