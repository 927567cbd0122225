use Rattle.std.proofs.Common.{◌≡◌, ◌+◌, All, length, drop, map}
use Rattle.nvm_record.specs.Entry.{IsWhole}
use Rattle.nvm_engine.proofs.Reading.{IsReading}
use Rattle.nvm_engine.proofs.engine.hosts_of.Given as goal

abbrev pub invariant-loop-place : goal.invariant-loop-place
invariant-loop-place l =
    (length l.hosts.items ≡ l.place)
    × All (λ host. All (IsWhole l.size) host.items) l.hosts.items
    × IsReading l.size l.files (drop l.place l.files) (map (λ host. host.items) l.hosts.items) (l.place + 1)
