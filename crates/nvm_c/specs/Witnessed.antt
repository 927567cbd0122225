-- What is found of a trace that a record or an order is to explain, by the bytes of their files: a code, and a line of text.
use Rattle.std.specs.Prelude.{◌≡◌, ◌⊎◌, ℕ, List, Bool, true, false, Result, Ok, Err, codes}
use Rattle.nvm_audit.specs.RecordView.{RecordView}
use Rattle.nvm_file.specs.Reading.{record_at}
use Rattle.nvm_file.specs.TraceReading.{trace_at}
use Rattle.nvm_file.specs.declared.record_fault.RecordFault.{RecordFault}
use Rattle.nvm_file.specs.declared.trace_file_fault.TraceFileFault.{TraceFileFault}
use Rattle.nvm_trace.specs.ExplainedBy.{IsExplainedBy}
use Rattle.nvm_trace.specs.TraceView.{TraceView}
use Rattle.nvm_trace.specs.declared.explained.Explained.{Explained as Numbers}
use Rattle.nvm_trace.specs.declared.judging.Judging.{Judging}
use Rattle.nvm_trace.specs.declared.judging.Judging.TheVariants.{Standard, Strict}
use Rattle.nvm_trace.specs.declared.witness_fault.WitnessFault.{WitnessFault}
use Rattle.nvm_trace_text.specs.WitnessLine.{witness_line}
use Rattle.nvm_evidence.specs.FrontReading.{is_evidence}
use Rattle.nvm_evidence.specs.OrderReading.{HeldOrderView, IsOrderFile, order_at}
use Rattle.nvm_evidence.specs.OrderedLine.{ordered_line}
use Rattle.nvm_evidence.specs.Witnessed.{IsOrdered}
use Rattle.nvm_evidence.specs.declared.evidence_fault.EvidenceFault.{EvidenceFault}
use Rattle.nvm_evidence.specs.declared.ordered.Ordered.{Ordered}
use Rattle.nvm_evidence.specs.declared.ordered.Ordered.TheVariants as come_to
use Rattle.nvm_engine.specs.Witnessed.{IsWitnessedAs}
use Rattle.nvm_c.specs.UnreadLine.{unread_line}
use Rattle.nvm_c.specs.UnreadTrace.{evidence_fault_line, trace_fault_line}
use Rattle.nvm_c.specs.declared.trace_code.TraceCode.{TraceCode}
use Rattle.nvm_c.specs.declared.trace_code.TraceCode.TheVariants.{Explained, Unexplained, BadTrace, BadRecord}

-- the code of what a witness answers
abbrev pub code_of : Result Numbers WitnessFault → TraceCode
code_of (Ok numbers) = Explained
code_of (Err fault) = Unexplained

-- The code and the line are those of the trace's numbers where the record explains it, and else those of the first fault.
pub record IsRuling (judging : Judging) (t : TraceView) (r : RecordView) (code : TraceCode) (line : List ℕ) : Type 0 where
  pub answer : Result Numbers WitnessFault
  pub witnessed : IsWitnessedAs judging t r answer
  pub code_is : code ≡ code_of answer
  pub line_is : line ≡ witness_line answer
  pub accepted : IsExplainedBy judging t r → code ≡ Explained

-- the code of what an order comes to
abbrev pub code_of_order : Ordered → TraceCode
code_of_order (come_to.Explained numbers) = Explained
code_of_order (come_to.Wrong command) = Unexplained
code_of_order (come_to.Unexplained fault) = Unexplained

-- The code and the line are those of what the order of these bytes comes to: where the code is `Explained`, it explains the trace.
pub record IsOrderRuling (t : TraceView) (bytes : List ℕ) (code : TraceCode) (line : List ℕ) : Type 0 where
  pub held : HeldOrderView
  pub held_file : IsOrderFile bytes held
  pub answer : Ordered
  pub ordered : IsOrdered t held.profile held.order answer
  pub code_is : code ≡ code_of_order answer
  pub line_is : line ≡ ordered_line answer

-- The bytes are no order's file, and the line tells their first fault.
pub record IsNoOrder (bytes : List ℕ) (code : TraceCode) (line : List ℕ) : Type 0 where
  pub fault : EvidenceFault
  pub fault_is : order_at bytes ≡ Err fault
  pub code_is : code ≡ BadRecord
  pub line_is : line ≡ evidence_fault_line (codes "order") fault

-- Whether the bytes are to be an order's file: they begin with `NVE1`, and the device isn't judged strictly.
abbrev pub is_order : Judging → List ℕ → Bool
is_order Standard bytes = is_evidence bytes
is_order Strict bytes = false

-- what is found of the trace, by how the record's file is read
abbrev pub IsFoundByRecord : Judging → TraceView → Result RecordView RecordFault → TraceCode → List ℕ → Type 0
IsFoundByRecord judging t (Err fault) code line = (code ≡ BadRecord) × (line ≡ unread_line fault)
IsFoundByRecord judging t (Ok r) code line = IsRuling judging t r code line

-- the same, by whether the bytes are to be an order's file
abbrev pub IsFoundBy : Judging → TraceView → Bool → List ℕ → TraceCode → List ℕ → Type 0
IsFoundBy judging t true held code line = IsNoOrder held code line ⊎ IsOrderRuling t held code line
IsFoundBy judging t false held code line = IsFoundByRecord judging t (record_at held) code line

-- what is found, by how the trace's file is read: its first fault comes before one of the other
abbrev pub IsFoundOf : Judging → Result TraceView TraceFileFault → List ℕ → TraceCode → List ℕ → Type 0
IsFoundOf judging (Err fault) held code line = (code ≡ BadTrace) × (line ≡ trace_fault_line fault)
IsFoundOf judging (Ok t) held code line = IsFoundBy judging t (is_order judging held) held code line

-- What is found in the bytes of a trace's file and of a record's or an order's file, with its line.
abbrev pub IsWitnessed : Judging → List ℕ → List ℕ → TraceCode → List ℕ → Type 0
IsWitnessed judging trace held code line = IsFoundOf judging (trace_at trace) held code line
