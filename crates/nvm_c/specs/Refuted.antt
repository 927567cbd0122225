-- What is found of a trace that a contradiction is to refute, by the bytes of their files: a code, and a line of text.
use Rattle.std.specs.Prelude.{◌≡◌, ◌⊎◌, ℕ, List, Result, Ok, Err, codes}
use Rattle.nvm_file.specs.TraceReading.{trace_at}
use Rattle.nvm_file.specs.declared.trace_file_fault.TraceFileFault.{TraceFileFault}
use Rattle.nvm_trace.specs.TraceView.{TraceView}
use Rattle.nvm_evidence.specs.ContradictionReading.{IsContradictionFile, contradiction_at}
use Rattle.nvm_evidence.specs.Refuted.{IsRefuted as IsRefutedBy}
use Rattle.nvm_evidence.specs.RefutedLine.{refuted_line}
use Rattle.nvm_evidence.specs.declared.evidence_fault.EvidenceFault.{EvidenceFault}
use Rattle.nvm_evidence.specs.declared.evidence.HeldContradiction.{HeldContradiction}
use Rattle.nvm_evidence.specs.declared.refuted.Refuted.{Refuted as Answer}
use Rattle.nvm_evidence.specs.declared.refuted.Refuted.TheVariants as come_to
use Rattle.nvm_c.specs.UnreadTrace.{evidence_fault_line, trace_fault_line}
use Rattle.nvm_c.specs.declared.trace_code.TraceCode.{TraceCode}
use Rattle.nvm_c.specs.declared.trace_code.TraceCode.TheVariants.{Refuted, Unrefuted, BadTrace, BadContradiction}

-- the code of what a contradiction comes to
abbrev pub code_of : Answer → TraceCode
code_of (come_to.Refuted commands facts profile) = Refuted
code_of (come_to.Wrong command) = Refuted
code_of (come_to.Unrefuted fault) = Unrefuted

-- The code and the line are those of what the contradiction of these bytes comes to: where the code is `Refuted`, no order of points
-- explains the trace, held to its profile.
pub record IsRuling (t : TraceView) (bytes : List ℕ) (code : TraceCode) (line : List ℕ) : Type 0 where
  pub held : HeldContradiction
  pub held_file : IsContradictionFile bytes held
  pub answer : Answer
  pub refuted : IsRefutedBy t held.profile held.contradiction answer
  pub code_is : code ≡ code_of answer
  pub line_is : line ≡ refuted_line answer

-- The bytes are no contradiction's file, and the line tells their first fault.
pub record IsUnread (bytes : List ℕ) (code : TraceCode) (line : List ℕ) : Type 0 where
  pub fault : EvidenceFault
  pub fault_is : contradiction_at bytes ≡ Err fault
  pub code_is : code ≡ BadContradiction
  pub line_is : line ≡ evidence_fault_line (codes "contradiction") fault

-- what is found, by how the trace's file is read: its first fault comes before one of the contradiction's
abbrev pub IsFoundOf : Result TraceView TraceFileFault → List ℕ → TraceCode → List ℕ → Type 0
IsFoundOf (Err fault) contradiction code line = (code ≡ BadTrace) × (line ≡ trace_fault_line fault)
IsFoundOf (Ok t) contradiction code line = IsUnread contradiction code line ⊎ IsRuling t contradiction code line

-- What is found in the bytes of a trace's file and of a contradiction's, with its line.
abbrev pub IsRefuted : List ℕ → List ℕ → TraceCode → List ℕ → Type 0
IsRefuted trace contradiction code line = IsFoundOf (trace_at trace) contradiction code line
