use Rattle.nvm_text.proofs.Taking.{on_err, on_err_then, on_ok_then}
use Rattle.nvm_engine.specs.UnderLine.{lists_say}
use Rattle.nvm_engine.proofs.Writing.{all_printed, within_lines, within_verdict}
use Rattle.nvm_engine.proofs.record_text.write_record_text.Goals as goal

pub returns-in_err-write_lines-clause-front : goal.returns-in_err-write_lines-clause-front
returns-in_err-write_lines-clause-front g c =
    let a = c.args in
    on_err c.from_residual.result
    (within_lines a.form (lists_say a.lists.now) a.run.now a.verdict c.requires.counted _ _ c.in_err-write_lines.ensures.front)

pub returns-clause-whole : goal.returns-clause-whole
returns-clause-whole g c =
    let a = c.args in
    on_ok_then c.write_lawful.result
    (all_printed a.form (lists_say a.lists.now) a.run.now a.verdict c.requires.counted _ _ _ c.in_ok-write_lines.ensures.whole)
    c.write_lawful.ensures.whole

pub returns-clause-front : goal.returns-clause-front
returns-clause-front g c =
    let a = c.args in
    on_err_then c.write_lawful.result
    (within_verdict a.form (lists_say a.lists.now) a.run.now a.verdict c.requires.counted _ _ _ c.in_ok-write_lines.ensures.whole)
    c.write_lawful.ensures.front
