use Rattle.std.proofs.Common.{Option, rules, sym, subst}
use Rattle.nvm_c.specs.Exports.{PollsAt}
use Rattle.nvm_c.specs.Submitted.{Buffers}
use Rattle.nvm_c.specs.declared.engine.Engine.{Engine}
use Rattle.nvm_c.proofs.port_calls.polled.Goals as goal

pub returns : goal.returns
returns c =
    let old : Buffers = record { bytes = c.args.data.now; posted = c.args.completions.now } in
    let new : Buffers = record { bytes = c.poll-code.new.data; posted = c.poll-code.new.posted } in
    subst (λ (held : Option Engine). PollsAt c.poll-code.result held c.put.new.self.held.engine old new) (sym c.in-Some.ensures.some)
    (c.poll-code.new.self, (search rules), (search rules))
