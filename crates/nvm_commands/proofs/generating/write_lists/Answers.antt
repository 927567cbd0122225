use Rattle.std.proofs.Common.{ℕ, List, inr, string_bytes, sym, subst}
use Rattle.std.proofs.lemmas.Result.{err_from_is_err_and}
use Rattle.nvm_commands.specs.Files.{IsWriteFault}
use Rattle.nvm_commands.proofs.Reading.{one_of}
use Rattle.nvm_commands.proofs.generating.write_lists.Goals as goal

pub returns-in-Err : goal.returns-in-Err
returns-in-Err g c =
    let it = c.index-outs-place.result in
    let fault = c.unmade.result.fault in
    let write : IsWriteFault (string_bytes it) fault = subst (λ (bytes : List ℕ). IsWriteFault bytes fault) c.as_str-path.ensures.value c.unmade.ensures in
    inr (one_of IsWriteFault c.args.outs.now c.loop-place.place it fault c.loop-place-test.true (sym c.index-outs-place.is) write)

pub returns-in_err-made : goal.returns-in_err-made
returns-in_err-made g c =
    let p = err_from_is_err_and c.from_residual-in_err-made.result c.from_residual-in_err-made.ensures.1 in
    let it = c.out-item.result in
    let fault = c.in_err-made.field-0.0.fault in
    let write : IsWriteFault (string_bytes it) fault = subst (λ (bytes : List ℕ). IsWriteFault bytes fault) c.as_str.ensures.value c.in_err-made.ensures in
    rw (p.1, p.2) (inr (one_of IsWriteFault c.args.outs.now c.loop-out.out-index it fault c.loop-out-test.true (sym c.out-item.is) write))
