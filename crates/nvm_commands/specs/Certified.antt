-- What is found out about the trace that a file or a text says, and why nothing is. What is in a file no definition can say, so
-- its bytes are some.
use Rattle.std.specs.Prelude.{◌≡◌, ◌⊎◌, ℕ, List, String, Option, Some, None, codes, string_bytes}
use Rattle.std.specs.Global.{Global}
use Rattle.nvm_standard.specs.declared.contradiction.Contradiction.{Contradiction}
use Rattle.nvm_judge.specs.Contradicted.{IsContradictedBy}
use Rattle.nvm_judge.specs.Explained.{IsExplainedBy}
use Rattle.nvm_standard.specs.OrderView.{OrderView}
use Rattle.nvm_standard.specs.Table.{first_wrong}
use Rattle.nvm_standard.specs.declared.profile.Profile.{Profile}
use Rattle.nvm_trace.specs.TraceView.{TraceView}
use Rattle.nvm_commands.specs.Asked.{profile_asked}
use Rattle.nvm_commands.specs.Fault.{IsFaultOfTraceAt}
use Rattle.nvm_commands.specs.Files.{IsReadFault, IsWriteFault}
use Rattle.nvm_commands.specs.Traced.{SaysTrace}
use Rattle.nvm_commands.specs.declared.certifying.CertifiedTrace.{CertifiedTrace}
use Rattle.nvm_commands.specs.declared.certifying.Finding.{Finding}
use Rattle.nvm_commands.specs.declared.certifying.Finding.TheVariants.{Explained, Contradicted, Wrong, Unknown}
use Rattle.nvm_commands.specs.declared.certifying_words.CertifyWords.{CertifyWords}
use Rattle.nvm_commands.specs.declared.fault.Fault.{Fault}
use Rattle.nvm_commands.specs.declared.fault.Fault.TheVariants.{EvidenceAmongLines}

-- An order explains the trace, held to this profile.
abbrev pub HasOrder : TraceView → Profile → Type 0
HasOrder t profile = (o : OrderView) × IsExplainedBy t profile o

-- A contradiction shows that no order does.
abbrev pub HasContradiction : TraceView → Profile → Type 0
HasContradiction t profile = (c : Contradiction) × IsContradictedBy t profile c

-- What is found of the trace is so, held to what is asked for. Where neither was found, nothing is said.
abbrev pub IsFound : Profile → TraceView → Finding → Type 0
IsFound asked t (Explained profile) = (profile ≡ asked) × HasOrder t profile
IsFound asked t (Contradicted profile) = (profile ≡ asked) × HasContradiction t profile
IsFound asked t (Wrong command) = first_wrong t.jobs ≡ Some command
IsFound asked t Unknown = Unit {0}

-- the exit status of what is found
abbrev pub finding_status : Finding → ℕ
finding_status (Explained profile) = 0
finding_status (Contradicted profile) = 2
finding_status (Wrong command) = 2
finding_status Unknown = 3

-- The finding is one on the trace, and so is its status.
pub record IsToldOf (asked : Profile) (t : TraceView) (told : CertifiedTrace) : Type 0 where
  pub found : IsFound asked t told.finding
  pub status : told.status ≡ finding_status told.finding

-- The trace is that of a file, or of a text, and it is held to what the words ask for.
pub record IsCertifiedFile (words : CertifyWords) (told : CertifiedTrace) : Type 0 where
  pub bytes : List ℕ
  pub seen : TraceView
  pub says : SaysTrace bytes seen
  pub verdict : IsToldOf (profile_asked words seen) seen told

-- The evidence would go to standard output, or couldn't be written to its path.
abbrev pub IsEvidenceFault : Option (String Global) → Fault → Type 0
IsEvidenceFault (Some path) fault =
    ((fault ≡ EvidenceAmongLines) × (string_bytes path ≡ codes "-")) ⊎ IsWriteFault (string_bytes path) fault
IsEvidenceFault None fault = ⊥

-- What was found couldn't be kept, or the trace couldn't be read, or else it is its first fault.
abbrev pub IsCertifyingFault : CertifyWords → Fault → Type 0
IsCertifyingFault words fault =
    IsEvidenceFault words.evidence fault ⊎ (IsReadFault (string_bytes words.trace) fault ⊎ IsFaultOfTraceAt (string_bytes words.trace) fault)
