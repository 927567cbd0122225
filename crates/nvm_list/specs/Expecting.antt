-- Reading word by word, up to the first that isn't what is expected.
use Rattle.std.specs.Prelude.{Option, Some, None, Result, Ok, Err}
use Rattle.nvm_list.specs.declared.expected.Expected.{Expected}

infixl 10 ◌>>=◌
abbrev pub ◌>>=◌ : {A B : Type 0} → Result A Expected → (A → Result B Expected) → Result B Expected
(Ok x) >>= f = f x
(Err expected) >>= f = Err expected

-- the value, where there is one
abbrev pub expect : {A : Type 0} → Expected → Option A → Result A Expected
expect expected None = Err expected
expect expected (Some x) = Ok x
