use Rattle.std.proofs.Common.{◌++◌, length}
use Rattle.nvm_audit.specs.RecordChecks.{Passes, count_checks, shape_checks, checks_of_units}
use Rattle.nvm_audit.proofs.FirstFaults.{first_in_front}
use Rattle.nvm_audit.proofs.auditing_alone.first_fault.Goals as goal

pub returns-in-Some : goal.returns-in-Some
returns-in-Some c =
    let r = c.args.record.now in
    let found = rw c.in-Some.is at c.in_ok-fault.ensures in
    record {
      check = found.check;
      first = first_in_front (Passes r) (count_checks (length r.jobs) ++ shape_checks (length r.jobs)) (checks_of_units r 0 r.units) found.check found.first;
      is = found.is;
    }
