use Rattle.std.proofs.Common.{ℕ, List, inr, sym, subst}
use Rattle.nvm_commands.specs.Listed.{IsListFault}
use Rattle.nvm_commands.specs.declared.fault.Fault.{Fault}
use Rattle.nvm_commands.proofs.commands.listed.Goals as goal

-- The file's fault is returned as it is, with its path.
pub returns : goal.returns
returns g c =
    let path = c.in_ok-path.path in
    let bytes : List ℕ = c.in_ok-bytes.bytes in
    let is = subst (λ (fault : Fault). IsListFault path c.args.size bytes fault) (sym c.of_file.ensures) c.in-Err.ensures.fault in
    inr (path, c.in_ok-path.ensures.ok, (bytes, is))
