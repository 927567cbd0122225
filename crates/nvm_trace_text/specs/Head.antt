-- The head of a trace's text: the numbers of its namespace, where it begins on the device, what was known of its blocks, what its Reads
-- are held to, and what a deallocated block may read as.
use Rattle.std.specs.Prelude.{ℕ, ◌==◌, nat_lt, Bool, true, false, ◌&&◌, if◌then◌else◌, List, [], ◌∷◌, codes, Result, Ok, Err}
use Rattle.std.specs.Str.{bytes_eq}
use Rattle.nvm_geometry.specs.Namespace.{Namespace, namespace_of}
use Rattle.nvm_list.specs.Numbers.{number}
use Rattle.nvm_list.specs.Words.{first, others}
use Rattle.nvm_trace.specs.TraceView.{TraceView}
use Rattle.nvm_trace.specs.declared.deallocated.Deallocated.{Deallocated}
use Rattle.nvm_trace.specs.declared.deallocated.Deallocated.TheVariants.{Zeroes as ZeroesRead, Ones, Either}
use Rattle.nvm_trace.specs.declared.reads.Reads.{Reads}
use Rattle.nvm_trace.specs.declared.reads.Reads.TheVariants.{Atomic, Whole, ByBlocks}
use Rattle.nvm_trace.specs.declared.start.Start.{Start}
use Rattle.nvm_trace.specs.declared.start.Start.TheVariants.{Zeroes, Unknown}
use Rattle.nvm_trace_text.specs.Expecting.{◌>>=◌, expect}
use Rattle.nvm_trace_text.specs.declared.expected.TraceExpected.{TraceExpected}
use Rattle.nvm_trace_text.specs.declared.expected.TraceExpected.TheVariants as expecting
use Rattle.nvm_trace_text.specs.declared.head.Head.{Head}
use Rattle.nvm_trace_text.specs.declared.head.Numbers.{Numbers}

-- this word, and then those behind it
abbrev pub behind_key : List ℕ → List (List ℕ) → Result (List (List ℕ)) TraceExpected
behind_key key words = if bytes_eq (first words) key then Ok (others words) else Err expecting.Head

-- this word and a number up to `most`, and then the words behind them
abbrev pub keyed : List ℕ → ℕ → List (List ℕ) → Result (ℕ × List (List ℕ)) TraceExpected
keyed key most words = do
  rest ← behind_key key words
  n ← expect expecting.Head (number most (first rest))
  Ok (n, others rest)

-- The same, or 0 where another word stands here.
abbrev pub keyed_or_zero : List ℕ → ℕ → List (List ℕ) → Result (ℕ × List (List ℕ)) TraceExpected
keyed_or_zero key most words = if bytes_eq (first words) key then keyed key most words else Ok (0, words)

abbrev pub start_in : List ℕ → Result Start TraceExpected
start_in word =
    if bytes_eq word (codes "zeroes") then Ok Zeroes else if bytes_eq word (codes "unknown") then Ok Unknown else Err expecting.Head

abbrev pub reads_in : List ℕ → Result Reads TraceExpected
reads_in word =
    if bytes_eq word (codes "atomic") then Ok Atomic else if bytes_eq word (codes "whole") then Ok Whole else
    if bytes_eq word (codes "by-blocks") then Ok ByBlocks else Err expecting.Head

abbrev pub deallocated_in : List ℕ → Result Deallocated TraceExpected
deallocated_in word =
    if bytes_eq word (codes "zeroes") then Ok ZeroesRead else if bytes_eq word (codes "ones") then Ok Ones else
    if bytes_eq word (codes "either") then Ok Either else Err expecting.Head

-- `start` and what was known, and then the words behind them
abbrev pub start_of : List (List ℕ) → Result (Start × List (List ℕ)) TraceExpected
start_of words = do
  rest ← behind_key (codes "start") words
  start ← start_in (first rest)
  Ok (start, others rest)

-- `reads` and what they are held to, and then the words behind them
abbrev pub reads_of : List (List ℕ) → Result (Reads × List (List ℕ)) TraceExpected
reads_of words = do
  rest ← behind_key (codes "reads") words
  reads ← reads_in (first rest)
  Ok (reads, others rest)

abbrev pub is_end : List (List ℕ) → Bool
is_end [] = true
is_end (word ∷ words) = false

-- `deallocated` and what such a block may read as, and then the words behind them. Where no word stands here it may be either.
abbrev pub deallocated_of : List (List ℕ) → Result (Deallocated × List (List ℕ)) TraceExpected
deallocated_of words = if is_end words then Ok (Either, words) else (do
  rest ← behind_key (codes "deallocated") words
  deallocated ← deallocated_in (first rest)
  Ok (deallocated, others rest))

-- nothing more stands here
abbrev pub ended_with : {A : Type 0} → A → TraceExpected → List (List ℕ) → Result A TraceExpected
ended_with x expected [] = Ok x
ended_with x expected (word ∷ words) = Err expected

-- no more than a boundary leaves, where there is one
abbrev pub within_boundary : ℕ → ℕ → ℕ
within_boundary nabsn limit = if nat_lt 0 nabsn && nat_lt nabsn limit then nabsn else limit

-- a limit of the namespace, which is the controller's where it is 0
abbrev pub limit_of : ℕ → ℕ → ℕ → ℕ
limit_of nabsn own controllers = within_boundary nabsn (if own == 0 then controllers else own)

-- The six numbers of a namespace, and then the words behind them. NAWUN and NACWU are taken as a device reports them: with AWUN and ACWU
-- of its controller, if they are given, and above NABSN, though no command within them may cross a boundary.
unfoldable pub numbers_of : List (List ℕ) → Result (Numbers × List (List ℕ)) TraceExpected
numbers_of words = do
  nsze ← keyed (codes "nsze") 18446744073709551615 words
  block ← keyed (codes "block") 4294967295 nsze.1
  nabsn ← keyed (codes "nabsn") 65535 block.1
  nabo ← keyed (codes "nabo") 65535 nabsn.1
  nawun ← keyed (codes "nawun") 65535 nabo.1
  nacwu ← keyed (codes "nacwu") 65535 nawun.1
  awun ← keyed_or_zero (codes "awun") 65535 nacwu.1
  acwu ← keyed_or_zero (codes "acwu") 65535 awun.1
  Ok (
    record {
      nsze = nsze.0;
      block = block.0;
      nabsn = nabsn.0;
      nabo = nabo.0;
      nawun = limit_of nabsn.0 nawun.0 awun.0;
      nacwu = limit_of nabsn.0 nacwu.0 acwu.0;
    },
    acwu.1,
  )

abbrev pub head_that_says : Numbers → ℕ → Start → Reads → Deallocated → Head
head_that_says numbers lba start reads deallocated =
    record { numbers = numbers; first = lba; start = start; reads = reads; deallocated = deallocated }

-- the head of these numbers, and of the words behind them
unfoldable pub head_with : Numbers → List (List ℕ) → Result Head TraceExpected
head_with numbers words = do
  lba ← keyed (codes "first") 18446744073709551615 words
  start ← start_of lba.1
  reads ← reads_of start.1
  deallocated ← deallocated_of reads.1
  ended_with (head_that_says numbers lba.0 start.0 reads.0 deallocated.0) expecting.Head deallocated.1

-- the head that the words of a line say
abbrev pub head : List (List ℕ) → Result Head TraceExpected
head words = do
  rest ← behind_key (codes "trace") words
  ns ← numbers_of rest
  head_with ns.0 ns.1

abbrev pub namespace_in : Numbers → Namespace
namespace_in n = namespace_of n.nsze n.block n.nabsn n.nabo n.nawun n.nacwu

-- the trace without jobs
abbrev pub trace_under : Head → TraceView
trace_under h =
    record {
      namespace = namespace_in h.numbers;
      first = h.first;
      start = h.start;
      reads = h.reads;
      deallocated = h.deallocated;
      jobs = [];
    }
