use Rattle.nvm_record.proofs.EntryLemmas.{is_spelling}
use Rattle.nvm_record.proofs.entry.command_bytes.Goals as goal

pub returns-clause-spelling : goal.returns-clause-spelling
returns-clause-spelling c = λ size whole. rw c.encoded.ensures.entry (is_spelling size _ c.encoded.ensures.fields whole)
