-- What is answered of a trace and an order, and of the bytes of their files.
use Rattle.std.specs.Prelude.{◌≡◌, ℕ, List, length, Err}
use Rattle.nvm_file.specs.TraceFile.{IsTraceFile}
use Rattle.nvm_file.specs.TraceReading.{trace_at}
use Rattle.nvm_judge.specs.Explained.{IsExplainedBy, IsWrong}
use Rattle.nvm_judge.specs.Faults.{IsUnexplainedFor}
use Rattle.nvm_standard.specs.OrderView.{OrderView}
use Rattle.nvm_standard.specs.declared.profile.Profile.{Profile}
use Rattle.nvm_trace.specs.TraceView.{TraceView}
use Rattle.nvm_evidence.specs.OrderReading.{HeldOrderView, IsOrderFile, order_at}
use Rattle.nvm_evidence.specs.declared.evidence_fault.EvidenceFault.{EvidenceFault}
use Rattle.nvm_evidence.specs.declared.ordered.OrderNumbers.{OrderNumbers}
use Rattle.nvm_evidence.specs.declared.ordered.Ordered.{Ordered}
use Rattle.nvm_evidence.specs.declared.ordered.Ordered.TheVariants.{Explained, Wrong, Unexplained}
use Rattle.nvm_evidence.specs.declared.witness_fault.OrderWitnessFault.{OrderWitnessFault}
use Rattle.nvm_evidence.specs.declared.witness_fault.OrderWitnessFault.TheVariants as fault

-- The order explains the trace, held to this profile, and these are the numbers of the two.
pub record IsExplainedAs (t : TraceView) (profile : Profile) (o : OrderView) (numbers : OrderNumbers) : Type 0 where
  pub explained : IsExplainedBy t profile o
  pub profile_is : numbers.profile ≡ profile
  pub jobs_are : numbers.jobs ≡ length t.jobs
  pub points_are : numbers.points ≡ length o.placed

-- What is answered of the trace and the order.
abbrev pub IsOrdered : TraceView → Profile → OrderView → Ordered → Type 0
IsOrdered t profile o (Explained numbers) = IsExplainedAs t profile o numbers
IsOrdered t profile o (Wrong command) = IsWrong t profile command
IsOrdered t profile o (Unexplained fault) = IsUnexplainedFor fault t profile o

-- The bytes are the files of a trace and of an order, and this is answered of the two.
pub record AreOrderedFiles (trace order : List ℕ) (answer : Ordered) : Type 0 where
  pub seen : TraceView
  pub seen_file : IsTraceFile trace seen
  pub held : HeldOrderView
  pub held_file : IsOrderFile order held
  pub ordered : IsOrdered seen held.profile held.order answer

-- The one is a trace's file, and this is the first fault of the other as an order's.
pub record IsFaultOfOrder (trace order : List ℕ) (fault : EvidenceFault) : Type 0 where
  pub seen : TraceView
  pub seen_file : IsTraceFile trace seen
  pub its : order_at order ≡ Err fault

-- It is the first fault of the one as a trace's file, or else of the other as an order's, or want of memory.
abbrev pub IsOrderFault : List ℕ → List ℕ → OrderWitnessFault → Type 0
IsOrderFault trace order (fault.Trace of_trace) = trace_at trace ≡ Err of_trace
IsOrderFault trace order (fault.Order of_order) = IsFaultOfOrder trace order of_order
IsOrderFault trace order fault.NoMemory = Unit {0}
