use Rattle.std.proofs.Common.{◌++◌, ℕ, List, Option, rules, sym, subst}
use Rattle.nvm_c.specs.Exports.{SubmitsAt}
use Rattle.nvm_c.specs.Submitted.{Buffers}
use Rattle.nvm_c.specs.declared.engine.Engine.{Engine}
use Rattle.nvm_c.proofs.port_calls.submitted_in_pieces.Goals as goal

pub returns : goal.returns
returns c =
    let sent : List ℕ = c.args.compared.now ++ c.args.written.now in
    let old : Buffers = record { bytes = sent; posted = c.args.completions.now } in
    let new : Buffers = record { bytes = sent; posted = c.submit_pieces-code.new.posted } in
    subst (λ (held : Option Engine). SubmitsAt c.submit_pieces-code.result held c.put.new.self.held.engine c.args.entries.now old new) (sym c.in-Some.ensures.some)
    (c.submit_pieces-code.new.self, (search rules), (search rules))
