use Rattle.nvm_audit.specs.Inside.Audited.{view_of_shown}
use Rattle.nvm_audit.proofs.Joined.{fault_of_entries, with_parts}
use Rattle.nvm_audit.proofs.unit_audit.fault_shown.Goals as goal

pub returns-in-Some : goal.returns-in-Some
returns-in-Some c = fault_of_entries (view_of_shown c.args.u.now) c.in-Some.fault (rw c.in-Some.is at c.in_ok-fault.ensures)

pub returns : goal.returns
returns c =
    let walked = rw c.in-None.is at c.in_ok-fault.ensures in
    with_parts (view_of_shown c.args.u.now) c.scan.result walked.entries c.scan.ensures
