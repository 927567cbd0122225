use Rattle.std.proofs.Common.{refl}
use Rattle.nvm_record.specs.Entry.{spelling_of}
use Rattle.nvm_record.proofs.EntryLemmas.{is_spelling}
use Rattle.nvm_record.proofs.OneReading.{one_command}
use Rattle.nvm_record.proofs.laws.commands_are_read_one_way.Goals as goal

pub returns-clause-one : goal.returns-clause-one
returns-clause-one c = one_command

pub returns-clause-again : goal.returns-clause-again
returns-clause-again c size command rest fits whole = (spelling_of command, refl, is_spelling size command fits whole)
