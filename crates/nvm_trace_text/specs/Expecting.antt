-- Reading word by word, up to the first that isn't what is expected.
use Rattle.std.specs.Prelude.{Option, Some, None, Result, Ok, Err}
use Rattle.nvm_list.specs.declared.expected.Expected.{Expected}
use Rattle.nvm_trace_text.specs.declared.expected.TraceExpected.{TraceExpected}
use Rattle.nvm_trace_text.specs.declared.expected.TraceExpected.TheVariants.{Words}

infixl 10 ◌>>=◌
abbrev pub ◌>>=◌ : {A B : Type 0} → Result A TraceExpected → (A → Result B TraceExpected) → Result B TraceExpected
(Ok x) >>= f = f x
(Err expected) >>= f = Err expected

-- the value, where there is one
abbrev pub expect : {A : Type 0} → TraceExpected → Option A → Result A TraceExpected
expect expected None = Err expected
expect expected (Some x) = Ok x

-- what was read as in a command list
abbrev pub as_listed : {A : Type 0} → Result A Expected → Result A TraceExpected
as_listed (Ok x) = Ok x
as_listed (Err expected) = Err (Words expected)
