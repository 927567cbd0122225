use Rattle.nvm_unit.proofs.Marking.{look_marks, look_entries, look_mine}
use Rattle.nvm_unit.proofs.laws.looks_mark_their_points.Goals as goal

pub returns-clause-marked : goal.returns-clause-marked
returns-clause-marked c = look_marks

pub returns-clause-entries : goal.returns-clause-entries
returns-clause-entries c = look_entries

pub returns-clause-mine : goal.returns-clause-mine
returns-clause-mine c = look_mine
