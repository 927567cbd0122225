use Rattle.std.proofs.Common.{rules, refl}
use Rattle.nvm_c.proofs.engine.Engine.head.Goals as goal

pub returns-in_default : goal.returns-in_default
returns-in_default c = (c.args.self.now, refl, (search rules))
