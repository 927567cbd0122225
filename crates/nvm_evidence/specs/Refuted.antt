-- What is answered of a trace and a contradiction, and of the bytes of their files.
use Rattle.std.specs.Prelude.{◌≡◌, ℕ, List, length, Err}
use Rattle.nvm_standard.specs.declared.contradiction.Contradiction.{Contradiction}
use Rattle.nvm_file.specs.TraceFile.{IsTraceFile}
use Rattle.nvm_file.specs.TraceReading.{trace_at}
use Rattle.nvm_judge.specs.Contradicted.{IsContradictedBy}
use Rattle.nvm_judge.specs.Explained.{IsWrong}
use Rattle.nvm_standard.specs.Table.{table_of}
use Rattle.nvm_standard.specs.declared.profile.Profile.{Profile}
use Rattle.nvm_trace.specs.TraceView.{TraceView}
use Rattle.nvm_evidence.specs.ContradictionReading.{IsContradictionFile, contradiction_at}
use Rattle.nvm_evidence.specs.Named.{IsCountNamed}
use Rattle.nvm_evidence.specs.declared.evidence_fault.EvidenceFault.{EvidenceFault}
use Rattle.nvm_evidence.specs.declared.evidence.HeldContradiction.{HeldContradiction}
use Rattle.nvm_evidence.specs.declared.refute_fault.RefuteBytesFault.{RefuteBytesFault}
use Rattle.nvm_evidence.specs.declared.refute_fault.RefuteBytesFault.TheVariants as fault
use Rattle.nvm_evidence.specs.declared.refuted.Refuted.{Refuted as RefutedType}
use Rattle.nvm_evidence.specs.declared.refuted.Refuted.TheVariants.{Refuted, Wrong, Unrefuted}

-- No order explains the trace, held to this profile: the contradiction shows it, and these are its numbers.
pub record IsRefutedAs (t : TraceView) (profile : Profile) (c : Contradiction) (commands facts : ℕ) (held : Profile) : Type 0 where
  pub refuted : IsContradictedBy t profile c
  pub held_is : held ≡ profile
  pub facts_are : facts ≡ length c.facts.items
  pub commands_are : IsCountNamed (table_of t profile) c commands

-- What is answered of the trace and the contradiction. Where it isn't taken, nothing is said.
abbrev pub IsRefuted : TraceView → Profile → Contradiction → RefutedType → Type 0
IsRefuted t profile c (Refuted commands facts held) = IsRefutedAs t profile c commands facts held
IsRefuted t profile c (Wrong command) = IsWrong t profile command
IsRefuted t profile c (Unrefuted fault) = Unit {0}

-- The bytes are the files of a trace and of a contradiction, and this is answered of the two.
pub record AreRefutedFiles (trace contradiction : List ℕ) (answer : RefutedType) : Type 0 where
  pub seen : TraceView
  pub seen_file : IsTraceFile trace seen
  pub held : HeldContradiction
  pub held_file : IsContradictionFile contradiction held
  pub refuted : IsRefuted seen held.profile held.contradiction answer

-- The one is a trace's file, and this is the first fault of the other as a contradiction's.
pub record IsFaultOfContradiction (trace contradiction : List ℕ) (fault : EvidenceFault) : Type 0 where
  pub seen : TraceView
  pub seen_file : IsTraceFile trace seen
  pub its : contradiction_at contradiction ≡ Err fault

-- It is the first fault of the one as a trace's file, or else of the other as a contradiction's, or want of memory.
abbrev pub IsRefuteFault : List ℕ → List ℕ → RefuteBytesFault → Type 0
IsRefuteFault trace contradiction (fault.Trace of_trace) = trace_at trace ≡ Err of_trace
IsRefuteFault trace contradiction (fault.Contradiction of_contradiction) = IsFaultOfContradiction trace contradiction of_contradiction
IsRefuteFault trace contradiction fault.NoMemory = Unit {0}
