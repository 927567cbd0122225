use Rattle.std.proofs.Common.{◌≡◌, drop}
use Rattle.std.specs.List.{list_any}
use Rattle.nvm_c.specs.Opening.{is_open}
use Rattle.nvm_c.proofs.opening.any_open.Given as goal

-- None is open before this one.
abbrev pub invariant-loop-port : goal.invariant-loop-port
invariant-loop-port l = list_any is_open (drop l.port-index l.ports) ≡ list_any is_open l.ports
