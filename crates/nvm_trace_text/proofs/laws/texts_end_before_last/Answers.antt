use Rattle.nvm_trace_text.proofs.EndTimes.{text_ends}
use Rattle.nvm_trace_text.proofs.laws.texts_end_before_last.Goals as goal

pub returns : goal.returns
returns c = text_ends
