use Rattle.std.proofs.Common.{◌≡◌, length}
use Rattle.nvm_space.specs.Inside.Dealing.{HaveOneMoreBelow}
use Rattle.nvm_space.proofs.closing.gathered.Given as goal

-- The ports below the place gave their last pass.
abbrev pub invariant-loop-place : goal.invariant-loop-place
invariant-loop-place g l = record {
  count : length l.passes.items ≡ l.place;
  below : HaveOneMoreBelow l.place l.passes.items l.ports.items l.fn.ports.items;
}
