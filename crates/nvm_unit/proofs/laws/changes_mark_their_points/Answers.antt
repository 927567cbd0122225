use Rattle.nvm_unit.proofs.Marking.{change_marks, change_entries, change_mine}
use Rattle.nvm_unit.proofs.laws.changes_mark_their_points.Goals as goal

pub returns-clause-marked : goal.returns-clause-marked
returns-clause-marked c = change_marks

pub returns-clause-entries : goal.returns-clause-entries
returns-clause-entries c = change_entries

pub returns-clause-mine : goal.returns-clause-mine
returns-clause-mine c = change_mine
