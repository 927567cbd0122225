use Rattle.std.proofs.Common.{Option, rules, sym, subst}
use Rattle.nvm_c.specs.ReadNow.{ReadBuffers, ReadsAt}
use Rattle.nvm_c.specs.declared.engine.Engine.{Engine}
use Rattle.nvm_c.proofs.port_calls.read_now.Goals as goal

pub returns : goal.returns
returns c =
    let old : ReadBuffers = record { bytes = c.args.buffer.now; status = c.args.status.now } in
    let new : ReadBuffers = record { bytes = c.read_now-code.new.buffer; status = c.read_now-code.new.status } in
    subst (λ (held : Option Engine). ReadsAt c.read_now-code.result held c.put.new.self.held.engine c.args.slba c.args.nlb old new) (sym c.in-Some.ensures.some)
    (c.read_now-code.new.self, (search rules), (search rules))
