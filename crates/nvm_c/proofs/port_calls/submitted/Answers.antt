use Rattle.std.proofs.Common.{Option, rules, sym, subst}
use Rattle.nvm_c.specs.Exports.{SubmitsAt}
use Rattle.nvm_c.specs.Submitted.{Buffers}
use Rattle.nvm_c.specs.declared.engine.Engine.{Engine}
use Rattle.nvm_c.proofs.port_calls.submitted.Goals as goal

pub returns : goal.returns
returns c =
    let old : Buffers = record { bytes = c.args.data.now; posted = c.args.completions.now } in
    let new : Buffers = record { bytes = c.submit-code.new.data; posted = c.submit-code.new.posted } in
    subst (λ (held : Option Engine). SubmitsAt c.submit-code.result held c.put.new.self.held.engine c.args.entries.now old new) (sym c.in-Some.ensures.some)
    (c.submit-code.new.self, (search rules), (search rules))
