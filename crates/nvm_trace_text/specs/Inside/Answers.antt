-- What private functions answer of what they read word by word.
use Rattle.std.specs.Borrow.{Bor}
use Rattle.std.specs.Prelude.{◌≡◌, ℕ, List, Option, Some, None, Result, Ok, Err}
use Rattle.nvm_list.specs.declared.fault.LineFault.{LineFault as ListedFault}
use Rattle.nvm_list.specs.declared.fault.LineFault.TheVariants as of_list
use Rattle.nvm_trace_text.specs.declared.expected.TraceExpected.{TraceExpected}
use Rattle.nvm_trace_text.specs.declared.expected.TraceExpected.TheVariants.{Words}
use Rattle.nvm_trace_text.specs.declared.fault.LineFault.{LineFault}
use Rattle.nvm_trace_text.specs.declared.fault.LineFault.TheVariants as of_line

-- What was answered is what was read, unless memory was refused.
abbrev pub Fails : {A : Type 0} → LineFault → Result A TraceExpected → Type 0
Fails (of_line.Expected expected) read = read ≡ Err expected
Fails of_line.NoMemory read = Unit {0}

abbrev pub Gives : {A B : Type 0} → (A → B) → Result A LineFault → Result B TraceExpected → Type 0
Gives view (Ok x) read = read ≡ Ok (view x)
Gives view (Err fault) read = Fails fault read

-- the fault of a command list as one of a trace's line
abbrev pub listed_fault : ListedFault → LineFault
listed_fault (of_list.Expected expected) = of_line.Expected (Words expected)
listed_fault of_list.NoMemory = of_line.NoMemory

-- as `Gives`, where nothing takes memory
abbrev pub AnswersWith : {A B : Type 0} → (A → B) → Result A TraceExpected → Result B TraceExpected → Type 0
AnswersWith view (Ok x) read = read ≡ Ok (view x)
AnswersWith view (Err expected) read = read ≡ Err expected

abbrev pub now_if_any : Option (Bor (List ℕ)) → Option (List ℕ)
now_if_any None = None
now_if_any (Some bytes) = Some bytes.now
