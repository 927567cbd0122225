use Rattle.std.proofs.Common.{◌++◌, ap, codes}
use Rattle.nvm_text.proofs.Taking.{behind, both, first_of, on_err, on_err_then, on_ok_then, within}
use Rattle.nvm_engine.specs.VerdictLine.{changes_text, count_text}
use Rattle.nvm_engine.proofs.verdict_line.write_lawful.Goals as goal

pub returns-in_err-write_count-clause-front : goal.returns-in_err-write_count-clause-front
returns-in_err-write_count-clause-front g c =
    let jobs = count_text (codes "lawful jobs ") c.args.verdict.jobs in
    let units = count_text (codes " units ") c.args.verdict.units in
    within c.from_residual.result _ _ _ jobs (units ++ changes_text c.args.verdict) (ap (count_text (codes "lawful jobs ")) c.from.ensures) c.in_err-write_count.ensures.front

pub returns-in_err-write_count-2-clause-front : goal.returns-in_err-write_count-2-clause-front
returns-in_err-write_count-2-clause-front g c =
    let jobs = count_text (codes "lawful jobs ") c.args.verdict.jobs in
    let units = count_text (codes " units ") c.args.verdict.units in
    on_err c.from_residual-in_err-write_count-2.result
    (behind _ _ _ _ jobs (units ++ changes_text c.args.verdict) (ap (count_text (codes "lawful jobs ")) c.from.ensures) c.in_ok-write_count.ensures.whole
    (first_of _ _ _ units (changes_text c.args.verdict) (ap (count_text (codes " units ")) c.from-2.ensures) c.in_err-write_count-2.ensures.front))

pub returns-clause-whole : goal.returns-clause-whole
returns-clause-whole g c =
    let jobs = count_text (codes "lawful jobs ") c.args.verdict.jobs in
    let units = count_text (codes " units ") c.args.verdict.units in
    on_ok_then c.write_changes.result (λ taken. both _ _ _ _ jobs (units ++ changes_text c.args.verdict) (ap (count_text (codes "lawful jobs ")) c.from.ensures) c.in_ok-write_count.ensures.whole
    (both _ _ _ _ units (changes_text c.args.verdict) (ap (count_text (codes " units ")) c.from-2.ensures) c.in_ok-write_count-2.ensures.whole taken)) c.write_changes.ensures.whole

pub returns-clause-front : goal.returns-clause-front
returns-clause-front g c =
    let jobs = count_text (codes "lawful jobs ") c.args.verdict.jobs in
    let units = count_text (codes " units ") c.args.verdict.units in
    on_err_then c.write_changes.result (λ failed. behind _ _ _ _ jobs (units ++ changes_text c.args.verdict) (ap (count_text (codes "lawful jobs ")) c.from.ensures) c.in_ok-write_count.ensures.whole
    (behind _ _ _ _ units (changes_text c.args.verdict) (ap (count_text (codes " units ")) c.from-2.ensures) c.in_ok-write_count-2.ensures.whole failed)) c.write_changes.ensures.front
