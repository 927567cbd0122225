use Rattle.nvm_space.proofs.PortsKept.{of_space, still_all_ports}
use Rattle.nvm_space.proofs.laws.ports_are_changed_in_place.Goals as goal

pub returns-clause-of : goal.returns-clause-of
returns-clause-of c = λ s ports w port all within is. of_space s ports w port all within is

pub returns-clause-all : goal.returns-clause-all
returns-clause-all c = λ s ports w port after all within is of number. still_all_ports s ports w port all within is after of number
