-- What is in the blocks that a load writes: whose each of them is.
use Rattle.std.specs.Prelude.{◌≡◌, ◌⊎◌, ℕ, ◌/◌, ◌%◌, ◌≤◌, List, [], ◌∷◌, ◌++◌, replicate, take, drop}
use Rattle.std.specs.List.{flat_map, range_with_len}

-- the host, the CID of its command, high byte first, and which of the command's blocks it is, from 0
abbrev pub named : ℕ → ℕ → ℕ → List ℕ
named host cid block = host ∷ cid / 256 ∷ cid % 256 ∷ block ∷ []

-- these bytes, each as often as an eighth of a block has bytes
abbrev pub filled : ℕ → List ℕ → List ℕ
filled size bytes = flat_map (replicate (size / 8)) bytes

-- The block's data: the same in both halves.
abbrev pub stamp : ℕ → ℕ → ℕ → ℕ → List ℕ
stamp size host cid block = filled size (named host cid block) ++ filled size (named host cid block)

-- the data of `blocks` blocks of a command
abbrev pub stamps : ℕ → ℕ → ℕ → ℕ → List ℕ
stamps size host cid blocks = flat_map (stamp size host cid) (range_with_len 0 blocks)

-- Blocks of one size that have one stamp are one block of one command of one host.
abbrev pub StampsTellWhose : Type 0
StampsTellWhose = (size host cid block h c b : ℕ) → 8 ≤ size → stamp size host cid block ≡ stamp size h c b
    → (host ≡ h) × (cid ≡ c) × (block ≡ b)

-- A block whose front is of one stamp and whose rest is of another has no third one.
abbrev pub TornStampsShow : Type 0
TornStampsShow = (size host cid block h c b g d e cut : ℕ)
    → take cut (stamp size host cid block) ++ drop cut (stamp size h c b) ≡ stamp size g d e
    → (stamp size g d e ≡ stamp size host cid block) ⊎ (stamp size g d e ≡ stamp size h c b)
