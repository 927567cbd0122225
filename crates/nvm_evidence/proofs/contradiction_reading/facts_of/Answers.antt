use Rattle.std.proofs.Common.{[], ◌∷◌, rules, arith}
use Rattle.std.proofs.lemmas.Result.{err_from_is_err_and}
use Rattle.nvm_evidence.specs.ContradictionReading.{fact_at}
use Rattle.nvm_evidence.proofs.ItemLoops.{begun, ended, failed, one_more}
use Rattle.nvm_evidence.proofs.contradiction_reading.facts_of.Goals as goal

pub loop-init : goal.loop-init
loop-init c = rw c.in_ok-facts.ensures.items (begun (λ _. fact_at c.args.total) c.args.count c.args.from.now)

pub returns-in_err-fact : goal.returns-in_err-fact
returns-in_err-fact c =
    let p = err_from_is_err_and c.from_residual-in_err-fact.result c.from_residual-in_err-fact.ensures.1 in
    rw (p.1, p.2) (failed (λ _. fact_at c.args.total) c.args.count c.args.from.now c.loop.facts.items c.loop.counter c.loop.rest.now _ c.loop.invariant (omega (arith, c.loop-test.true)) c.in_err-fact.ensures)

pub loop-preserved : goal.loop-preserved
loop-preserved c =
    rw c.in_ok-push.ensures.items (
    one_more (λ _. fact_at c.args.total) c.args.count c.args.from.now c.loop.facts.items c.loop.counter c.loop.rest.now c.in_ok-fact.fact c.in_ok-fact.after.now c.loop.invariant
    (omega (arith, c.loop-test.true)) c.in_ok-fact.ensures)

pub returns : goal.returns
returns c = ended (λ _. fact_at c.args.total) c.args.count c.args.from.now c.loop.facts.items c.loop.counter c.loop.rest.now c.loop.invariant (omega (arith, c.loop-test.false))
