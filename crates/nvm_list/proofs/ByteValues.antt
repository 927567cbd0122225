-- Bytes of data are below 256.
use Rattle.std.proofs.Common.{◌≡◌, ℕ, zero, suc, ◌<◌, List, [], ◌∷◌, get_or, refl, sym, arith}
use Rattle.std.specs.List.{AllByRecursion}
use mathlib.Core.Option.{some-injective, some-ne-none}
use Rattle.nvm_record.specs.Lists.{IsAt}

abbrev pub AreBytes : List ℕ → Type 0
AreBytes bytes = AllByRecursion (λ b. b < 256) bytes

-- a byte at a place is below 256, where each byte that is read is
pub byte_at : (bytes : List ℕ) → ((i : ℕ) → get_or bytes i 0 < 256) → (i byte : ℕ) → IsAt bytes i byte → byte < 256
byte_at [] h i byte at = absurd (some-ne-none byte (sym at))
byte_at (b ∷ bytes) h zero byte at = let same : b ≡ byte = some-injective b byte at in let here : b < 256 = h 0 in omega arith
byte_at (b ∷ bytes) h (suc i) byte at = byte_at bytes (λ k. h (suc k)) i byte at

pub bytes_from : (bytes : List ℕ) → ((i byte : ℕ) → IsAt bytes i byte → byte < 256) → AreBytes bytes
bytes_from [] h = tt
bytes_from (b ∷ bytes) h = (h 0 b refl, bytes_from bytes (λ i byte at. h (suc i) byte at))
