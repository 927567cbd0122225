use Rattle.std.proofs.Common.{◌≡◌, map}
use Rattle.nvm_c.specs.Opening.{engines_of}
use Rattle.nvm_c.proofs.Worked.{SoFar}
use Rattle.nvm_c.proofs.work.all_work.Given as goal

-- What the ports so far did is copied, and the ports are as they were.
abbrev pub invariant-loop-place : goal.invariant-loop-place
invariant-loop-place l = record {
  same : engines_of l.ports ≡ engines_of l.fn.ports;
  geometry : l.work.geometry ≡ l.head.geometry;
  limit : l.work.limit ≡ l.head.limit;
  far : SoFar l.head.geometry l.head.limit (engines_of l.fn.ports) (map (λ own. own.items) l.work.jobs.items) (map (λ did. did.items) l.work.done.items) l.place;
}
