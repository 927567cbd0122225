-- What a controller reports of a namespace: NVM Command Set Specification, "Identify Namespace Data Structure". All numbers are little
-- endian, and what is not named here is 0.
use Rattle.std.specs.Prelude.{◌≡◌, ◌≢◌, ◌⊎◌, ℕ, List, ◌∷◌, ◌++◌, Option, Some, None, length, replicate}
use Rattle.byteorder.specs.Endian.{little_bytes}
use Rattle.nvm_geometry.specs.Large.{IsLarge}
use Rattle.nvm_geometry.specs.Namespace.{Namespace}
use Rattle.nvm_c.specs.Engines.{namespace_of}
use Rattle.nvm_c.specs.Told.{overwritten}
use Rattle.nvm_c.specs.declared.code.Code.{Code}
use Rattle.nvm_c.specs.declared.code.Code.TheVariants.{Done, NotOpen, BadNamespace, BadLength}
use Rattle.nvm_c.specs.declared.engine.Engine.{Engine}

-- NSZE in bytes 7:0; bit 1 of NSFEAT, byte 24, which says that the namespace has limits of its own; NAWUN in 35:34, NACWU in
-- 39:38, NABSN in 41:40 and NABO in 43:42
abbrev pub reported : Namespace → List ℕ
reported ns =
    little_bytes 8 ns.nsze ++ (replicate 16 0 ++ (2 ∷ (replicate 9 0 ++ (little_bytes 2 ns.nawun ++ (replicate 2 0
    ++ (little_bytes 2 ns.nacwu ++ (little_bytes 2 ns.nabsn ++ little_bytes 2 ns.nabo)))))))

-- The buffer is the structure, 4,096 bytes, and all that is not reported is 0.
pub record IsReported (ns : Namespace) (old new : List ℕ) : Type 0 where
  pub whole : length old ≡ 4096
  pub report : new ≡ overwritten (reported ns) (replicate (length old) 0)

-- what is written for a namespace, by the code: nothing where the buffer has another length
abbrev pub Reports : Code → Namespace → List ℕ → List ℕ → Type 0
Reports code ns old new =
    ((code ≡ Done) × IsReported ns old new) ⊎ ((code ≡ BadLength) × (length old ≢ 4096) × (new ≡ old))

-- What is reported of the namespace of a handle's engine, which stays as it is.
abbrev pub IdentifiesAt : Code → Option Engine → Option Engine → List ℕ → List ℕ → Type 0
IdentifiesAt code None engine' old new = (code ≡ NotOpen) × (engine' ≡ None) × (new ≡ old)
IdentifiesAt code (Some e) engine' old new = (engine' ≡ Some e) × Reports code (namespace_of e) old new

-- What is reported of these numbers, as of the namespace that is opened with them and no limit; or there is none.
abbrev pub IdentifiesNumbers : Code → Namespace → List ℕ → List ℕ → Type 0
IdentifiesNumbers code ns old new =
    (IsLarge ns × Reports code ns old new) ⊎ ((code ≡ BadNamespace) × ¬ (IsLarge ns) × (new ≡ old))
