use Rattle.std.proofs.Common.{ap, refl, rules}
use Rattle.nvm_c.specs.Logs.{kept_by}
use Rattle.nvm_c.proofs.engine.Engine.work.Goals as goal

pub returns-then-log-clause-refused : goal.returns-then-log-clause-refused
returns-then-log-clause-refused c = (c.args.self.now, refl, _, ap kept_by c.in-Some.is, c.if-log.true)

pub returns-in_default-clause-refused : goal.returns-in_default-clause-refused
returns-in_default-clause-refused c = (c.args.self.now, refl, (search rules))
