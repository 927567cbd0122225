use Rattle.std.proofs.Common.{◌≡◌, ◌≤◌, ◌+◌, ◌++◌, length, map, vec_len, vec_capacity}
use Rattle.std.specs.Arc.{arc_value}
use Rattle.std.specs.List.{AllByRecursion}
use Rattle.nvm_space.specs.Ports.{new_ports}
use Rattle.nvm_c.specs.Engines.{IsSound, state_of}
use Rattle.nvm_c.specs.Opening.{new_engine}
use Rattle.nvm_c.proofs.Ports.{IsPort64}
use Rattle.nvm_c.proofs.opening.engines.Given as goal

-- The engines so far are those of the ports that are gone, and there is room for those of the rest.
abbrev pub invariant-loop-port : goal.invariant-loop-port
invariant-loop-port l = record {
  made : map (λ b. state_of b.value) l.engines.items ++ map (new_engine (arc_value l.space)) l.port-iterator.rest.items
      ≡ map (new_engine (arc_value l.space)) (new_ports (arc_value l.space));
  sound : AllByRecursion (λ b. IsSound b.value) l.engines.items;
  rest : AllByRecursion (IsPort64 (arc_value l.space)) l.port-iterator.rest.items;
  room : vec_len l.engines + length l.port-iterator.rest.items ≤ vec_capacity l.engines;
}
