use Rattle.nvm_audit.proofs.RecordChecksPass as checks
use Rattle.nvm_audit.proofs.laws.no_check_fails_for_lawful_records.Goals as goal

pub returns-clause-lawful : goal.returns-clause-lawful
returns-clause-lawful c = checks.lawful_where_passed

pub returns-clause-passes : goal.returns-clause-passes
returns-clause-passes c = checks.passes_where_lawful
