-- What each export does at the engine of its handle, if it has one.
use Rattle.std.specs.Prelude.{◌≡◌, ℕ, List, Option, Some, None}
use Rattle.nvm_c.specs.Submitted.{Buffers, Submits, Polls}
use Rattle.nvm_c.specs.declared.code.Code.{Code}
use Rattle.nvm_c.specs.declared.code.Code.TheVariants.{Done, NotOpen}
use Rattle.nvm_c.specs.declared.engine.Engine.{Engine}

-- The handle held no engine, and nothing was done.
pub record IsShut (code : Code) (engine' : Option Engine) (old new : Buffers) : Type 0 where
  pub answer : code ≡ NotOpen
  pub shut : engine' ≡ None
  pub buffers : new ≡ old

abbrev pub SubmitsAt : Code → Option Engine → Option Engine → List ℕ → Buffers → Buffers → Type 0
SubmitsAt code None engine' entries old new = IsShut code engine' old new
SubmitsAt code (Some e) engine' entries old new = (e' : Engine) × (engine' ≡ Some e') × Submits code e e' entries old new

abbrev pub PollsAt : Code → Option Engine → Option Engine → Buffers → Buffers → Type 0
PollsAt code None engine' old new = IsShut code engine' old new
PollsAt code (Some e) engine' old new = (e' : Engine) × (engine' ≡ Some e') × Polls code e e' old new

-- The engine was let go of, if there was one.
abbrev pub Closes : Code → Option Engine → Option Engine → Type 0
Closes code None engine' = (code ≡ NotOpen) × (engine' ≡ None)
Closes code (Some e) engine' = (code ≡ Done) × (engine' ≡ None)
