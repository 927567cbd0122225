use Rattle.std.proofs.Common.{List, String, map, string_bytes, subst, inr}
use Rattle.std.specs.Global.{Global}
use Rattle.std.proofs.lemmas.Result.{IfErr-weaker, err_from_is_err_and}
use Rattle.nvm_commands.specs.Files.{IsWritingFault}
use Rattle.nvm_commands.proofs.generating.run_generate.Goals as goal

-- The lists' paths are those of the words.
pub returns-in_err-check_outs : goal.returns-in_err-check_outs
returns-in_err-check_outs g c =
    let p = err_from_is_err_and c.from_residual.result c.from_residual.ensures.1 in
    let fault = c.in_err-check_outs.field-0.0.fault in
    rw (p.1, p.2)
    (inr (subst (λ (outs : List (String Global)). IsWritingFault (map (λ path. string_bytes path) outs) fault) c.as_slice-outs.ensures.value c.in_err-check_outs.ensures))

pub returns : goal.returns
returns g c =
    IfErr-weaker c.write_lists.result _ _
    (λ failure fault.
    inr (subst (λ (outs : List (String Global)). IsWritingFault (map (λ path. string_bytes path) outs) failure.fault) c.as_slice-outs.ensures.value fault))
    c.write_lists.ensures
