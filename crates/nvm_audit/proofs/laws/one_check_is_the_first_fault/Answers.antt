use Rattle.nvm_audit.proofs.OneFirst as first
use Rattle.std.proofs.Common.{inl, inr}
use Rattle.nvm_audit.proofs.RecordChecksPass.{passes_where_lawful, lawful_where_passed}
use Rattle.nvm_audit.proofs.laws.one_check_is_the_first_fault.Goals as goal

pub returns-clause-either : goal.returns-clause-either
returns-clause-either c r held = elim (first.clean_or_first r) [
  | inl clean ↦ inl (lawful_where_passed r held clean)
  | inr found ↦ inr found
]

pub returns-clause-one : goal.returns-clause-one
returns-clause-one c = first.one_fault

pub returns-clause-none : goal.returns-clause-none
returns-clause-none c r fault lawful = first.no_fault r fault (passes_where_lawful r lawful)

pub returns-clause-memory : goal.returns-clause-memory
returns-clause-memory c = first.not_memory
