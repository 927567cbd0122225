use Rattle.std.proofs.Common.{length, ap, arith}
use Rattle.std.proofs.lemmas.List.{take_all}
use Rattle.nvm_store.specs.History.{replay_of}
use Rattle.nvm_store.proofs.laws.point_at_the_end.Goals as goal

pub returns : goal.returns
returns c size history = ap (replay_of size) (take_all (length history) history (omega arith))
