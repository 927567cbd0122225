use Rattle.std.proofs.Common.{◌≡◌, drop}
use Rattle.nvm_space.specs.Inside.Dealing.{HaveOneMoreBelow}
use Rattle.nvm_space.proofs.opening.hand_out.Given as goal

-- The passes that are left are those from the place on, and the ports below it have theirs.
abbrev pub invariant-loop-pass : goal.invariant-loop-pass
invariant-loop-pass g l = record {
  left : drop l.place l.fn.passes.items ≡ l.pass-iterator.rest.items;
  below : HaveOneMoreBelow l.place l.fn.passes.items l.fn.ports.items l.ports.items;
}
