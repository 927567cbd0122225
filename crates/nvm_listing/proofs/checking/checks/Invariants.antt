use Rattle.std.proofs.Common.{map}
use Rattle.nvm_audit.proofs.DoneWalk.{IsWalk}
use Rattle.nvm_listing.proofs.ChecksMade.{checks_made}
use Rattle.nvm_listing.proofs.checking.checks.Given as goal

abbrev pub invariant-loop-number : goal.invariant-loop-number
invariant-loop-number l =
    IsWalk checks_made (map (λ list. list.now) l.fn.lists) l.run.jobs l.run.done l.number (map (λ list. list.now) l.lists) l.checks.items
