use Rattle.std.proofs.Common.{ℕ, List, inr, string_bytes, sym, subst}
use Rattle.std.proofs.lemmas.Result.{err_from_is_err_and}
use Rattle.nvm_commands.specs.Files.{IsReadFault}
use Rattle.nvm_commands.proofs.Reading.{one_of}
use Rattle.nvm_commands.proofs.nvmu.files.read_files.Goals as goal

-- Standard input was read already.
pub returns-then-is_taken-clause-fault : goal.returns-then-is_taken-clause-fault
returns-then-is_taken-clause-fault g c =
    let it = c.path-item.result in
    let fault = c.unread.result.fault in
    let read : IsReadFault (string_bytes it) fault = subst (λ (bytes : List ℕ). IsReadFault bytes fault) c.as_str-then-is_taken.ensures.value c.unread.ensures in
    inr (one_of IsReadFault c.args.paths.now c.loop-path.path-index it fault c.loop-path-test.true (sym c.path-item.is) read)

pub returns-in_err-payload_of-clause-fault : goal.returns-in_err-payload_of-clause-fault
returns-in_err-payload_of-clause-fault g c =
    let p = err_from_is_err_and c.from_residual-in_err-payload_of.result c.from_residual-in_err-payload_of.ensures.1 in
    let it = c.path-item.result in
    let fault = c.in_err-payload_of.field-0.0.fault in
    let read : IsReadFault (string_bytes it) fault = subst (λ (bytes : List ℕ). IsReadFault bytes fault) c.as_str-in-loop-path.ensures.value c.in_err-payload_of.ensures in
    rw (p.1, p.2) (inr (one_of IsReadFault c.args.paths.now c.loop-path.path-index it fault c.loop-path-test.true (sym c.path-item.is) read))
