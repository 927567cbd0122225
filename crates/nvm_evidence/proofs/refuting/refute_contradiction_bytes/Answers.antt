use Rattle.std.proofs.Common.{◌∙◌}
use Rattle.nvm_evidence.proofs.refuting.refute_contradiction_bytes.Goals as goal

-- The contradiction is the one that was read.
pub returns-in_ok-refute_contradiction-in-Ok-clause-refuted : goal.returns-in_ok-refute_contradiction-in-Ok-clause-refuted
returns-in_ok-refute_contradiction-in-Ok-clause-refuted c = record {
  seen = c.in-Ok.seen;
  seen_file = c.in_ok-seen.ensures ∙ c.in-Ok.is;
  held = c.in_ok-held-in-Ok.held;
  held_file = c.in_ok-held-in-Ok.ensures.read;
  refuted = c.in_ok-refute_contradiction-in-Ok.ensures;
}
