-- What is printed of an answer, and the exit status after it.
use Rattle.std.specs.Prelude.{◌≡◌, ℕ, List, Result, Ok, Err}
use Rattle.nvm_engine.specs.Printed.{IsPrintedOf}
use Rattle.nvm_engine.specs.VerdictLine.{answer_status}
use Rattle.nvm_engine.specs.Witnessed.{IsWitnessed, witness_status}
use Rattle.nvm_evidence.specs.OrderedLine.{ordered_line, ordered_status}
use Rattle.nvm_evidence.specs.RefutedLine.{refuted_line, refuted_status}
use Rattle.nvm_evidence.specs.Witnessed.{AreOrderedFiles}
use Rattle.nvm_trace.specs.declared.judging.Judging.{Judging}
use Rattle.nvm_trace.specs.declared.judging.Judging.TheVariants.{Standard}
use Rattle.nvm_trace_text.specs.WitnessLine.{witness_line}
use Rattle.nvm_commands.specs.Audited.{answer_told}
use Rattle.nvm_commands.specs.declared.nvmu.answer.Answer.{Answer}
use Rattle.nvm_commands.specs.declared.nvmu.answer.Answer.TheVariants.{Ran, Audited, Witnessed, Ordered, Refuted}

-- The text is that of the answer.
abbrev pub IsTextOf : Answer → List ℕ → Type 0
IsTextOf (Ran run) text = IsPrintedOf run text
IsTextOf (Audited telling judged) text = text ≡ answer_told telling judged
IsTextOf (Witnessed witnessed) text = text ≡ witness_line witnessed
IsTextOf (Ordered ordered) text = text ≡ ordered_line ordered
IsTextOf (Refuted refuted) text = text ≡ refuted_line refuted

-- the exit status once the answer is written
abbrev pub status_of : Answer → ℕ
status_of (Ran run) = 0
status_of (Audited telling judged) = answer_status judged
status_of (Witnessed witnessed) = witness_status witnessed
status_of (Ordered ordered) = ordered_status ordered
status_of (Refuted refuted) = refuted_status refuted

-- It is what a witness answers of the bytes of a trace and of a record, or of a trace and an order.
abbrev pub IsWitnessedBy : Judging → List ℕ → List ℕ → Answer → Type 0
IsWitnessedBy judging seen held (Witnessed witnessed) = IsWitnessed judging seen held witnessed
IsWitnessedBy judging seen held (Ordered ordered) = (judging ≡ Standard) × AreOrderedFiles seen held ordered
IsWitnessedBy judging seen held answer = ⊥

-- It is that of the bytes of two files.
abbrev pub AreWitnessedFiles : Judging → Answer → Type 0
AreWitnessedFiles judging answer = (seen : List ℕ) × (held : List ℕ) × IsWitnessedBy judging seen held answer

-- this status where everything was written, or else 1
abbrev pub ended_status : {A E : Type 0} → Result A E → ℕ → ℕ
ended_status (Ok done) status = status
ended_status (Err fault) status = 1
