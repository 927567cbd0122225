use Rattle.std.proofs.Common.{length, sym, ◌∙◌}
use Rattle.std.proofs.lemmas.Bool.{eqb-false}
use Rattle.nvm_audit.proofs.Endings.{ends_with_parts}
use Rattle.nvm_audit.proofs.shapes.has_ending.Goals as goal

pub returns-else-is_empty : goal.returns-else-is_empty
returns-else-is_empty c = λ op is.
    let ends = c.ends_at_last.ensures op is in
    let some = eqb-false (length c.args.parts.now) 0 (sym c.is_empty.ensures ∙ c.if-is_empty.false) in
    let all = ends_with_parts c.args.geometry.now op c.args.parts.now c.args.told some in
    (λ yes. all.0 (ends.0 yes), λ e. ends.1 (all.1 e))
