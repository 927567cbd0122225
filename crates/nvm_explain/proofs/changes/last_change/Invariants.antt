use Rattle.std.proofs.Common.{◌≡◌, drop, option_map}
use Rattle.std.specs.Option.{option_or}
use Rattle.nvm_explain.specs.LastChange.{last_change, last_change_from}
use Rattle.nvm_explain.proofs.changes.last_change.Given as goal

-- the last of the entries that are left, and else the last of those so far, is the last of all
abbrev pub invariant-loop-place : goal.invariant-loop-place
invariant-loop-place l =
    option_or (last_change_from l.range l.place (drop l.place l.entries)) (option_map (λ found. (found.0, found.1.now)) l.last)
    ≡ last_change l.range l.entries
