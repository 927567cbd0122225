use Rattle.std.proofs.Common.{◌≡◌, ◌≤◌, ◌-◌, All, drop, length}
use Rattle.nvm_record.proofs.HostFileLemmas.{IsReading}
use Rattle.nvm_record.proofs.host_file.commands_of.Given as goal

abbrev pub invariant-loop-from : goal.invariant-loop-from
invariant-loop-from l =
    IsReading l.size l.bytes l.commands.items (drop l.from l.bytes)
    × (l.from ≤ length l.bytes)
    × All (λ share. share ≡ l.bytes) l.shares.items

abbrev pub decreases-loop-from : goal.decreases-loop-from
decreases-loop-from l = length l.bytes - l.from
