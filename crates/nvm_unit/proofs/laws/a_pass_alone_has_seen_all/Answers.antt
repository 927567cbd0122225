use Rattle.nvm_unit.proofs.Among.{all_seen, change_alone, look_alone}
use Rattle.nvm_unit.proofs.laws.a_pass_alone_has_seen_all.Goals as goal

pub returns-clause-seen : goal.returns-clause-seen
returns-clause-seen c = all_seen

pub returns-clause-changed : goal.returns-clause-changed
returns-clause-changed c = change_alone

pub returns-clause-looked : goal.returns-clause-looked
returns-clause-looked c = look_alone
