-- What contracts see of an order: bytes in place of where they are lent from (own).
use Rattle.std.specs.Prelude.{ℕ, List, map, replicate}
use Rattle.nvm_record.specs.declared.block.Block.{Block}
use Rattle.nvm_record.specs.declared.block.Block.TheVariants.{Bytes, Uncorrectable}
use Rattle.nvm_standard.specs.declared.order.Content.{Content}
use Rattle.nvm_standard.specs.declared.order.Content.TheVariants.{Zeroes, Ones, Bytes as BytesHeld, Mark}
use Rattle.nvm_standard.specs.declared.order.FirstContent.{FirstContent}
use Rattle.nvm_standard.specs.declared.order.Order.{Order}
use Rattle.nvm_standard.specs.declared.order.Placed.{Placed}
use Rattle.nvm_standard.specs.declared.order.Value.{Value}
use Rattle.nvm_standard.specs.declared.order.Value.TheVariants.{AsIs, Put}

-- what a block holds
pub data ContentView : Type 0 where
  zeroes : ContentView
  ones : ContentView
  bytes : List ℕ → ContentView
  mark : ContentView

-- what a point puts where it is placed
pub data ValueView : Type 0 where
  as_is : ValueView
  puts : ContentView → ValueView

pub record FirstView : Type 0 where
  pub block : ℕ
  pub content : ContentView

pub record PlacedView : Type 0 where
  pub point : ℕ
  pub first : ℕ
  pub blocks : ℕ
  pub value : ValueView

pub record OrderView : Type 0 where
  pub first : List FirstView
  pub placed : List PlacedView

abbrev pub seen_content : Content → ContentView
seen_content Zeroes = zeroes
seen_content Ones = ones
seen_content (BytesHeld b) = bytes b.now
seen_content Mark = mark

abbrev pub seen_value : Value → ValueView
seen_value AsIs = as_is
seen_value (Put content) = puts (seen_content content)

abbrev pub seen_first : FirstContent → FirstView
seen_first f = record { block = f.block; content = seen_content f.content }

abbrev pub seen_placed : Placed → PlacedView
seen_placed p = record { point = p.point; first = p.first; blocks = p.blocks; value = seen_value p.value }

abbrev pub seen_order : Order → OrderView
seen_order o = record { first = map seen_first o.first.items; placed = map seen_placed o.placed.items }

-- the block of this content
abbrev pub block_of : ℕ → ContentView → Block
block_of size zeroes = Bytes (replicate size 0)
block_of size ones = Bytes (replicate size 255)
block_of size (bytes b) = Bytes b
block_of size mark = Uncorrectable
