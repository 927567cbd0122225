use Rattle.nvm_evidence.proofs.Rising.{are_rising}
use Rattle.nvm_evidence.proofs.named.sort_once.Goals as goal

pub returns : goal.returns
returns c = are_rising _ _ _ c.sort_unstable.ensures.permutation c.sort_unstable.ensures.sorted c.dedup.ensures.filtered
