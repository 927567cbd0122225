use Rattle.std.proofs.Common.{◌≤◌, ◌+◌, length, vec_len, vec_capacity}
use Rattle.std.specs.List.{AllByRecursion}
use Rattle.nvm_c.specs.Engines.{IsSound}
use Rattle.nvm_c.specs.Opening.{limit_asked, namespace_asked}
use Rattle.nvm_c.proofs.Ports.{AreMade}
use Rattle.nvm_c.proofs.opening.handles.Given as goal

-- The handles so far hold the engines that are gone, and those with the rest are the new ports'.
abbrev pub invariant-loop-engine : goal.invariant-loop-engine
invariant-loop-engine l = record {
  made : AreMade (namespace_asked l.fn.asked) (limit_asked l.fn.asked) l.fn.versions l.fn.count l.held.items l.engine-iterator.rest.items;
  rest : AllByRecursion (λ b. IsSound b.value) l.engine-iterator.rest.items;
  room : vec_len l.held + length l.engine-iterator.rest.items ≤ vec_capacity l.held;
}
