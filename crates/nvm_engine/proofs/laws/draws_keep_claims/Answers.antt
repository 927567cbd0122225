use Rattle.nvm_engine.proofs.Drawing.{opening_is, draw_keeps, reached_are_claims}
use Rattle.nvm_engine.proofs.laws.draws_keep_claims.Goals as goal

pub returns-clause-opening : goal.returns-clause-opening
returns-clause-opening c = opening_is

pub returns-clause-draw : goal.returns-clause-draw
returns-clause-draw c = draw_keeps

pub returns-clause-reached : goal.returns-clause-reached
returns-clause-reached c = reached_are_claims
