-- What is known of a value that was read of a trace's file, and codes that are read again.
use Rattle.std.proofs.Common.{◌≡◌, ℕ, zero, suc, ◌≤◌, List, [], ◌∷◌, Result, Ok, Err, refl, ap, arith}
use Rattle.byteorder.specs.Endian.{little_bytes}
use Rattle.nvm_trace.specs.declared.deallocated.Deallocated.{Deallocated}
use Rattle.nvm_trace.specs.declared.deallocated.Deallocated.TheVariants.{Zeroes as ZeroesRead, Ones, Either}
use Rattle.nvm_trace.specs.declared.reads.Reads.{Reads}
use Rattle.nvm_trace.specs.declared.reads.Reads.TheVariants.{Atomic, Whole, ByBlocks}
use Rattle.nvm_trace.specs.declared.start.Start.{Start}
use Rattle.nvm_trace.specs.declared.start.Start.TheVariants.{Zeroes, Unknown}
use Rattle.nvm_file.specs.declared.record_fault.RecordFault.{RecordFault}
use Rattle.nvm_file.specs.declared.trace_file_fault.TraceFileFault.{TraceFileFault}
use Rattle.nvm_file.specs.Fields.{◌>>=◌, number_in}
use Rattle.nvm_file.specs.TraceFields.{in_trace}
use Rattle.nvm_file.specs.TraceHeadReading.{deallocated_of, reads_of, start_of}
use Rattle.nvm_file.specs.TraceSpelling.{promise_byte, start_byte}
use Rattle.nvm_file.proofs.Returning.{number_in_returns, read_then}

-- What came before was read, where the whole was.
pub in_trace_ok : {A B : Type 0} (r : Result A RecordFault) (f : A → Result B TraceFileFault) (y : B) → (in_trace r >>= f) ≡ Ok y
    → (x : A) × (r ≡ Ok x) × (f x ≡ Ok y)
in_trace_ok (Ok x) f y e = (x, refl, e)
in_trace_ok (Err d) f y e = absurd cc

-- What comes before was read, and then what follows it.
pub in_trace_then : {A B : Type 0} (r : Result A RecordFault) (f : A → Result B TraceFileFault) (x : A) (y : B) → r ≡ Ok x → f x ≡ Ok y
    → (in_trace r >>= f) ≡ Ok y
in_trace_then {A} r f x y e g = read_then (in_trace r) f x y (ap (λ (s : Result A RecordFault). in_trace s) e) g

pub start_back : (s : Start) → start_of (start_byte s) ≡ s
start_back Zeroes = refl
start_back Unknown = refl

pub reads_back : (r : Reads) (d : Deallocated) → reads_of (promise_byte r d) ≡ r
reads_back Atomic ZeroesRead = refl
reads_back Atomic Ones = refl
reads_back Atomic Either = refl
reads_back Whole ZeroesRead = refl
reads_back Whole Ones = refl
reads_back Whole Either = refl
reads_back ByBlocks ZeroesRead = refl
reads_back ByBlocks Ones = refl
reads_back ByBlocks Either = refl

pub deallocated_back : (r : Reads) (d : Deallocated) → deallocated_of (promise_byte r d) ≡ d
deallocated_back Atomic ZeroesRead = refl
deallocated_back Atomic Ones = refl
deallocated_back Atomic Either = refl
deallocated_back Whole ZeroesRead = refl
deallocated_back Whole Ones = refl
deallocated_back Whole Either = refl
deallocated_back ByBlocks ZeroesRead = refl
deallocated_back ByBlocks Ones = refl
deallocated_back ByBlocks Either = refl

pub start_returns : (total : ℕ) (s : Start) (rest : List ℕ) → number_in total 1 0 1 (start_byte s ∷ rest) ≡ Ok (start_byte s, rest)
start_returns total Zeroes rest = number_in_returns total 1 0 1 0 rest (omega arith) (omega arith) (omega arith)
start_returns total Unknown rest = number_in_returns total 1 0 1 1 rest (omega arith) (omega arith) (omega arith)

pub promises_return : (total : ℕ) (r : Reads) (d : Deallocated) (rest : List ℕ)
    → number_in total 1 0 8 (promise_byte r d ∷ rest) ≡ Ok (promise_byte r d, rest)
promises_return total Atomic ZeroesRead rest = number_in_returns total 1 0 8 5 rest (omega arith) (omega arith) (omega arith)
promises_return total Atomic Ones rest = number_in_returns total 1 0 8 8 rest (omega arith) (omega arith) (omega arith)
promises_return total Atomic Either rest = number_in_returns total 1 0 8 2 rest (omega arith) (omega arith) (omega arith)
promises_return total Whole ZeroesRead rest = number_in_returns total 1 0 8 3 rest (omega arith) (omega arith) (omega arith)
promises_return total Whole Ones rest = number_in_returns total 1 0 8 6 rest (omega arith) (omega arith) (omega arith)
promises_return total Whole Either rest = number_in_returns total 1 0 8 0 rest (omega arith) (omega arith) (omega arith)
promises_return total ByBlocks ZeroesRead rest = number_in_returns total 1 0 8 4 rest (omega arith) (omega arith) (omega arith)
promises_return total ByBlocks Ones rest = number_in_returns total 1 0 8 7 rest (omega arith) (omega arith) (omega arith)
promises_return total ByBlocks Either rest = number_in_returns total 1 0 8 1 rest (omega arith) (omega arith) (omega arith)

pub start_again : (code : ℕ) → code ≤ 1 → little_bytes 1 code ≡ start_byte (start_of code) ∷ []
start_again zero high = refl
start_again (suc zero) high = refl
start_again (suc (suc n)) high = absurd (omega (arith, high))

pub promises_again : (code : ℕ) → code ≤ 8 → little_bytes 1 code ≡ promise_byte (reads_of code) (deallocated_of code) ∷ []
promises_again zero high = refl
promises_again (suc zero) high = refl
promises_again (suc (suc zero)) high = refl
promises_again (suc (suc (suc zero))) high = refl
promises_again (suc (suc (suc (suc zero)))) high = refl
promises_again (suc (suc (suc (suc (suc zero))))) high = refl
promises_again (suc (suc (suc (suc (suc (suc zero)))))) high = refl
promises_again (suc (suc (suc (suc (suc (suc (suc zero))))))) high = refl
promises_again (suc (suc (suc (suc (suc (suc (suc (suc zero)))))))) high = refl
promises_again (suc (suc (suc (suc (suc (suc (suc (suc (suc n))))))))) high = absurd (omega (arith, high))
