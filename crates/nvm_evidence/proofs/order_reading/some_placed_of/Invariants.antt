use Rattle.std.proofs.Common.{map}
use Rattle.nvm_standard.specs.OrderView.{seen_placed}
use Rattle.nvm_evidence.specs.OrderReading.{placed_at}
use Rattle.nvm_evidence.proofs.ItemLoops.{HasRead}
use Rattle.nvm_evidence.proofs.order_reading.some_placed_of.Given as goal

abbrev pub invariant-loop : goal.invariant-loop
invariant-loop l = HasRead (λ _. placed_at l.total) l.count l.from (map seen_placed l.all.items) l.counter l.rest
