use Rattle.nvm_evidence.specs.ContradictionReading.{fact_at}
use Rattle.nvm_evidence.proofs.ItemLoops.{HasRead}
use Rattle.nvm_evidence.proofs.contradiction_reading.facts_of.Given as goal

abbrev pub invariant-loop : goal.invariant-loop
invariant-loop l = HasRead (λ _. fact_at l.total) l.count l.from l.facts.items l.counter l.rest
