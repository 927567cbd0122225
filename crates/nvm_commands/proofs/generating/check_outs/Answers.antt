use Rattle.std.proofs.Common.{ℕ, List, inr, string_bytes, sym, subst}
use Rattle.std.proofs.lemmas.Result.{err_from_is_err_and}
use Rattle.nvm_commands.specs.Files.{IsWriteFault}
use Rattle.nvm_commands.proofs.Reading.{one_of}
use Rattle.nvm_commands.proofs.generating.check_outs.Goals as goal

-- The fault is of the path to which another list goes.
pub returns-in_err-check_apart : goal.returns-in_err-check_apart
returns-in_err-check_apart g c =
    let p = err_from_is_err_and c.from_residual.result c.from_residual.ensures.1 in
    let it = c.index-outs-place.result in
    let fault = c.in_err-check_apart.field-0.0.fault in
    let write : IsWriteFault (string_bytes it) fault = subst (λ (bytes : List ℕ). IsWriteFault bytes fault) c.as_str.ensures.value c.in_err-check_apart.ensures in
    rw (p.1, p.2) (inr (one_of IsWriteFault c.args.outs.now c.loop-place.place it fault c.loop-place-test.true (sym c.index-outs-place.is) write))
