use Rattle.nvm_record.specs.PayloadRef.{lent_bytes}
use Rattle.nvm_store.proofs.step.judge.Goals as goal

pub returns-in-Pair : goal.returns-in-Pair
returns-in-Pair c m held = rw (c.in-Pair.is, ← c.as_slice.ensures) (c.pair_statuses.ensures m (lent_bytes c.in-Pair.write) held)
