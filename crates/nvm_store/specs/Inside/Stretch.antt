-- A range of blocks in two parts.
use Rattle.std.specs.Prelude.{◌≡◌, ◌++◌, List, true, false}
use Rattle.nvm_record.specs.declared.block.Block.{Block}
use Rattle.nvm_record.specs.Medium.{has_mark, joined}

-- What its front and what is behind say of the whole.
pub record AreParts (front behind whole : List Block) : Type 0 where
  pub marked : has_mark front ≡ true → has_mark whole ≡ true
  pub rest : has_mark front ≡ false → has_mark whole ≡ has_mark behind
  pub unmarked : has_mark whole ≡ false → has_mark front ≡ false
  pub bytes : joined whole ≡ joined front ++ joined behind
