-- What a namespace advertises of its size and of its atomic units: NVM Command Set Specification,
-- "Identify Namespace Data Structure", the fields NSZE, NABSN, NABO, NAWUN and NACWU, and the data
-- size of its LBA format.
use Rattle.std.specs.Prelude.{ℕ}

pub record Namespace : Type 0 where
  -- how many LBAs there are
  pub nsze : ℕ
  -- how many bytes of data a block has
  pub block_size : ℕ
  -- the distance between two boundaries, zeroes-based; 0 is no boundary at all
  pub nabsn : ℕ
  -- the LBA at which the first unit of full size begins
  pub nabo : ℕ
  -- the write limit in blocks, zeroes-based
  pub nawun : ℕ
  -- the limit of a fused pair in blocks, zeroes-based
  pub nacwu : ℕ

-- the namespace of these numbers
abbrev pub namespace_of : ℕ → ℕ → ℕ → ℕ → ℕ → ℕ → Namespace
namespace_of nsze block_size nabsn nabo nawun nacwu =
    record { nsze = nsze; block_size = block_size; nabsn = nabsn; nabo = nabo; nawun = nawun; nacwu = nacwu }
