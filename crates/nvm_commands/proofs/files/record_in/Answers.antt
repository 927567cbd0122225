use Rattle.std.proofs.Common.{inr, sym, subst}
use Rattle.nvm_commands.specs.Fault.{IsFaultOfRecord}
use Rattle.nvm_commands.specs.declared.fault.Fault.{Fault}
use Rattle.nvm_commands.proofs.files.record_in.Goals as goal

pub returns-in-Err-clause-fault : goal.returns-in-Err-clause-fault
returns-in-Err-clause-fault c =
    let named = c.in_ok-named.named in
    let file = c.args.file.now in
    let is = subst (λ (fault : Fault). IsFaultOfRecord named file fault) (sym c.of_file.ensures) c.in-Err.ensures.fault in
    inr (named, c.in_ok-named.ensures.ok, is)
