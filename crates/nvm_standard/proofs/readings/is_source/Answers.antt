use Rattle.std.proofs.Common.{refl}
use Rattle.nvm_standard.specs.PointView.{seen}
use Rattle.nvm_standard.proofs.readings.is_source.Goals as goal

pub returns-then-was_put : goal.returns-then-was_put
returns-then-was_put c = λ only. record {
  point = seen c.in-Some.reading.now;
  reads = c.in-Some.ensures;
  was_put = c.if-was_put.ensures refl;
  only = c.no_other_serves.ensures only;
}
