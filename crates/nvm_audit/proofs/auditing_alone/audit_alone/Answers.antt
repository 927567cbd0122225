use Rattle.std.proofs.Common.{inl}
use Rattle.nvm_audit.proofs.auditing_alone.audit_alone.Goals as goal

pub returns-in-Some-clause-named : goal.returns-in-Some-clause-named
returns-in-Some-clause-named c = λ fault first.
    let found = rw c.in-Some.is at c.in_ok-fault.ensures in
    inl (c.one_check_is_the_first_fault.ensures.one c.args.record.now c.in-Some.fault fault found first)

pub returns-in-None-clause-named : goal.returns-in-None-clause-named
returns-in-None-clause-named c = λ fault first.
    let lawful = rw c.in-None.is at c.in_ok-fault.ensures in
    c.one_check_is_the_first_fault.ensures.none c.args.record.now fault lawful first
