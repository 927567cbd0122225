use Rattle.std.proofs.Common.{map}
use Rattle.nvm_standard.specs.OrderView.{seen_first}
use Rattle.nvm_evidence.specs.OrderReading.{first_at}
use Rattle.nvm_evidence.proofs.ItemLoops.{HasRead}
use Rattle.nvm_evidence.proofs.order_reading.some_firsts_of.Given as goal

abbrev pub invariant-loop : goal.invariant-loop
invariant-loop l = HasRead (λ _. first_at l.total) l.count l.from (map seen_first l.firsts.items) l.counter l.rest
