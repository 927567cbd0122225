use Rattle.nvm_unit.proofs.Marking.{looked_marks, looked_same, tried_marks, busy_same}
use Rattle.nvm_unit.proofs.laws.looks_and_tries_mark_what_they_find.Goals as goal

pub returns-clause-looked : goal.returns-clause-looked
returns-clause-looked c = looked_marks

pub returns-clause-same : goal.returns-clause-same
returns-clause-same c = looked_same

pub returns-clause-tried : goal.returns-clause-tried
returns-clause-tried c = tried_marks

pub returns-clause-busy : goal.returns-clause-busy
returns-clause-busy c = busy_same
