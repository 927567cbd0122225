use Rattle.nvm_standard.specs.PointView.{seen}
use Rattle.nvm_standard.proofs.readings.is_unserved.Goals as goal

pub returns-in-Some : goal.returns-in-Some
returns-in-Some c = λ none. record {
  point = seen c.in-Some.reading.now;
  reads = c.in-Some.ensures;
  none = c.no_other_serves.ensures none;
}
