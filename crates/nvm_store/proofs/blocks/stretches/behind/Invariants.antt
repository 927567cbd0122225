use Rattle.std.proofs.Common.{◌≡◌, ◌++◌, ℕ, List, drop}
use Rattle.nvm_record.specs.Medium as medium
use Rattle.nvm_store.proofs.blocks.stretches.behind.Given as goal

-- The data began with the bytes so far, so what is left of both decides.
abbrev pub invariant-loop-block : goal.invariant-loop-block
invariant-loop-block l = record {
  on : (r : List ℕ) → medium.joined l.blocks ++ r ≡ l.payload → medium.joined (drop l.block-index l.blocks) ++ r ≡ l.rest;
  back : (r : List ℕ) → medium.joined (drop l.block-index l.blocks) ++ r ≡ l.rest → medium.joined l.blocks ++ r ≡ l.payload;
}
