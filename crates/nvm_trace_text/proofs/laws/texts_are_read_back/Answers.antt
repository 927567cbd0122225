use Rattle.nvm_trace_text.proofs.TextAgain.{text_again}
use Rattle.nvm_trace_text.proofs.laws.texts_are_read_back.Goals as goal

pub returns : goal.returns
returns c = λ t h k l. text_again t c.runs_are_longest.ensures c.ranges_are_read_back.ensures.fit h k l
