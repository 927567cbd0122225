use Rattle.nvm_list.specs.Words.{text_lines}
use Rattle.nvm_trace_text.proofs.OneTrace.{one_said, none_fails}
use Rattle.nvm_trace_text.proofs.laws.texts_say_one_thing.Goals as goal

pub returns-clause-one : goal.returns-clause-one
returns-clause-one c = λ text t u h k. one_said (text_lines text) t u h k

pub returns-clause-no_fault : goal.returns-clause-no_fault
returns-clause-no_fault c = λ text t fault h k. none_fails 1 (text_lines text) t fault h k
