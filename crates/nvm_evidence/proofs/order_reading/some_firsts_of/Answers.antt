use Rattle.std.proofs.Common.{map, [], ◌∷◌, rules, arith}
use Rattle.std.proofs.lemmas.List.{map-append}
use Rattle.std.proofs.lemmas.Result.{err_from_is_err_and}
use Rattle.nvm_standard.specs.OrderView.{seen_first}
use Rattle.nvm_evidence.specs.OrderReading.{first_at}
use Rattle.nvm_evidence.proofs.ItemLoops.{begun, ended, failed, one_more}
use Rattle.nvm_evidence.proofs.order_reading.some_firsts_of.Goals as goal

pub loop-init : goal.loop-init
loop-init c = rw c.in_ok-firsts.ensures.items (begun (λ _. first_at c.args.total) c.args.count c.args.from.now)

pub returns-in_err-first : goal.returns-in_err-first
returns-in_err-first c =
    let p = err_from_is_err_and c.from_residual-in_err-first.result c.from_residual-in_err-first.ensures.1 in
    rw (p.1, p.2) (failed (λ _. first_at c.args.total) c.args.count c.args.from.now (map seen_first c.loop.firsts.items) c.loop.counter c.loop.rest.now _ c.loop.invariant (omega (arith, c.loop-test.true)) c.in_err-first.ensures)

pub loop-preserved : goal.loop-preserved
loop-preserved c =
    rw (c.in_ok-push.ensures.items, map-append seen_first c.loop.firsts.items (c.in_ok-first.first ∷ [])) (
    one_more (λ _. first_at c.args.total) c.args.count c.args.from.now (map seen_first c.loop.firsts.items) c.loop.counter c.loop.rest.now (seen_first c.in_ok-first.first) c.in_ok-first.after.now c.loop.invariant
    (omega (arith, c.loop-test.true)) c.in_ok-first.ensures)

pub returns : goal.returns
returns c = ended (λ _. first_at c.args.total) c.args.count c.args.from.now (map seen_first c.loop.firsts.items) c.loop.counter c.loop.rest.now c.loop.invariant (omega (arith, c.loop-test.false))
