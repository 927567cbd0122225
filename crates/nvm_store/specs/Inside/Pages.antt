-- Pages of 8 blocks, each of which has a number.
use Rattle.std.specs.Prelude.{◌≡◌, ◌⊎◌, ℕ, suc, ◌*◌, ◌^◌, ◌<◌, ◌≤◌, List, length}
use Rattle.nvm_record.specs.Lists.{IsAt}
use Rattle.nvm_store.specs.Inside.Flat.{SizedBlocks}
use Rattle.nvm_store.specs.Inside.Gathered.{named, IsGathered}
use Rattle.nvm_store.specs.Inside.Rewrite.{zero_block}

-- The places that have a number other than 0 have all up to the highest, and these are their owners.
pub record AreOwners (owners numbers : List ℕ) : Type 0 where
  pub count : length owners ≡ suc (named numbers)
  pub each : (place n : ℕ) → IsAt owners n place → 0 < n → IsAt numbers place n
  pub owned : (place n : ℕ) → IsAt numbers place n → 0 < n → IsAt owners n place
  pub few : length numbers < 2 ^ 32

-- A place that had number `n` has none, and the one that had the last has `n`.
pub record IsRemoved (place n : ℕ) (old new : List ℕ) : Type 0 where
  pub len : length new ≡ length old
  pub count : named old ≡ suc (named new)
  pub none : IsAt new place 0
  pub moved : (i : ℕ) → IsAt old i (named old) → (i ≡ place) ⊎ IsAt new i n
  pub others : (i m : ℕ) → IsAt old i m → (m ≡ named old) ⊎ ((i ≡ place) ⊎ IsAt new i m)

-- The pages have these numbers, and page 0 is zeroes.
pub record ArePages (pages : SizedBlocks) (numbers : List ℕ) : Type 0 where
  pub gathered : IsGathered 8 (zero_block pages.size) pages.list numbers
  pub few : length numbers < 2 ^ 32
  pub small : pages.size ≤ 65536

-- They have at least so many blocks, which are fewer than 2^32.
pub record ArePagedBlocks (count : ℕ) (pages : SizedBlocks) (numbers : List ℕ) : Type 0 where
  pub paged : ArePages pages numbers
  pub enough : count ≤ length numbers * 8
  pub low : count < 2 ^ 32
