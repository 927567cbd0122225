-- The word that says a command's data: runs that add up to it, or one byte that fills it.
use Rattle.std.specs.Prelude.{ℕ, zero, suc, ◌+◌, ◌==◌, if◌then◌else◌, List, [], ◌∷◌, replicate, Option, Some, None, Result, Ok, Err}
use Rattle.std.specs.List.{before_first, after_first}
use Rattle.nvm_text.specs.Runs.{Run, run_of, written_out}
use Rattle.nvm_list.specs.Words.{is}
use Rattle.nvm_list.specs.Numbers.{number, hex_byte}
use Rattle.nvm_list.specs.Commas.{read_parts}
use Rattle.nvm_list.specs.declared.expected.Expected.{Expected}
use Rattle.nvm_list.specs.declared.expected.Expected.TheVariants as expecting

-- no run is empty
abbrev pub run_from : Option ℕ → Option ℕ → Option Run
run_from None byte = None
run_from (Some count) None = None
run_from (Some zero) (Some byte) = None
run_from (Some (suc n)) (Some byte) = Some (run_of (suc n) byte)

-- a count below 2 ^ 64, `*` and a byte
abbrev pub read_run : List ℕ → Option Run
read_run text = run_from (number 18446744073709551615 (before_first (is 42) text)) (hex_byte (after_first (is 42) text))

-- how many bytes runs have
abbrev pub total : List Run → ℕ
total [] = 0
total (run ∷ runs) = run.count + total runs

-- the bytes of runs that commas part
abbrev pub data_of_runs : ℕ → Option (List Run) → Result (List ℕ) Expected
data_of_runs wanted None = Err expecting.Data
data_of_runs wanted (Some runs) =
    if total runs == wanted then Ok (written_out runs) else Err (expecting.DataLength wanted (total runs))

abbrev pub data_by : ℕ → Option ℕ → List ℕ → Result (List ℕ) Expected
data_by wanted (Some byte) word = Ok (replicate wanted byte)
data_by wanted None word = data_of_runs wanted (read_parts read_run word)

-- the `wanted` bytes that a word says
abbrev pub payload : ℕ → List ℕ → Result (List ℕ) Expected
payload wanted word = data_by wanted (hex_byte word) word
