-- What functions answer of what they read word by word.
use Rattle.std.specs.Prelude.{◌≡◌, Result, Ok, Err}
use Rattle.nvm_list.specs.declared.expected.Expected.{Expected}
use Rattle.nvm_list.specs.declared.fault.LineFault.{LineFault}
use Rattle.nvm_list.specs.declared.fault.LineFault.TheVariants as of_line

-- What was answered is what was read, unless memory was refused.
abbrev pub Fails : {A : Type 0} → LineFault → Result A Expected → Type 0
Fails (of_line.Expected expected) read = read ≡ Err expected
Fails of_line.NoMemory read = Unit {0}

abbrev pub Gives : {A B : Type 0} → (A → B) → Result A LineFault → Result B Expected → Type 0
Gives view (Ok x) read = read ≡ Ok (view x)
Gives view (Err fault) read = Fails fault read
