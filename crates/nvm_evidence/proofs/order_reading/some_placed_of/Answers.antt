use Rattle.std.proofs.Common.{map, [], ◌∷◌, rules, arith}
use Rattle.std.proofs.lemmas.List.{map-append}
use Rattle.std.proofs.lemmas.Result.{err_from_is_err_and}
use Rattle.nvm_standard.specs.OrderView.{seen_placed}
use Rattle.nvm_evidence.specs.OrderReading.{placed_at}
use Rattle.nvm_evidence.proofs.ItemLoops.{begun, ended, failed, one_more}
use Rattle.nvm_evidence.proofs.order_reading.some_placed_of.Goals as goal

pub loop-init : goal.loop-init
loop-init c = rw c.in_ok-all.ensures.items (begun (λ _. placed_at c.args.total) c.args.count c.args.from.now)

pub returns-in_err-placed : goal.returns-in_err-placed
returns-in_err-placed c =
    let p = err_from_is_err_and c.from_residual-in_err-placed.result c.from_residual-in_err-placed.ensures.1 in
    rw (p.1, p.2) (failed (λ _. placed_at c.args.total) c.args.count c.args.from.now (map seen_placed c.loop.all.items) c.loop.counter c.loop.rest.now _ c.loop.invariant (omega (arith, c.loop-test.true)) c.in_err-placed.ensures)

pub loop-preserved : goal.loop-preserved
loop-preserved c =
    rw (c.in_ok-push.ensures.items, map-append seen_placed c.loop.all.items (c.in_ok-placed.placed ∷ [])) (
    one_more (λ _. placed_at c.args.total) c.args.count c.args.from.now (map seen_placed c.loop.all.items) c.loop.counter c.loop.rest.now (seen_placed c.in_ok-placed.placed) c.in_ok-placed.after.now c.loop.invariant
    (omega (arith, c.loop-test.true)) c.in_ok-placed.ensures)

pub returns : goal.returns
returns c = ended (λ _. placed_at c.args.total) c.args.count c.args.from.now (map seen_placed c.loop.all.items) c.loop.counter c.loop.rest.now c.loop.invariant (omega (arith, c.loop-test.false))
