-- The blocks of a node as those of its children, and of a leaf as stretches.
use Rattle.std.specs.Prelude.{◌≡◌, ℕ, ◌<◌, List, [], ◌∷◌, ◌++◌, length, map, take, drop}
use Rattle.std.specs.Arc.{arc_value}
use Rattle.std.specs.declared.sync.Arc.{Arc}
use Rattle.nvm_record.specs.declared.block.Block.{Block}

-- the blocks of each child
abbrev pub parts_of : {X Z : Type 0} → (X → List Block) → List (Arc X Z) → List (List Block)
parts_of blocks kids = map (λ kid. blocks (arc_value kid)) kids

-- the parts, one after the other
abbrev pub joined_parts : List (List Block) → List Block
joined_parts [] = []
joined_parts (part ∷ parts) = part ++ joined_parts parts

-- Each part has `span` blocks.
abbrev pub AreOfSpan : ℕ → List (List Block) → Type 0
AreOfSpan span [] = Unit {0}
AreOfSpan span (part ∷ parts) = (length part ≡ span) × AreOfSpan span parts

-- What holds of a fork.
pub record IsFork (span : ℕ) (parts : List (List Block)) : Type 0 where
  pub some : 0 < span
  pub spans : AreOfSpan span parts

-- The stretch is the blocks from place `at` on, at least one and maybe not all.
pub record IsStretch (blocks : List Block) (at : ℕ) (stretch : List Block) : Type 0 where
  pub some : 0 < length stretch
  pub is : take (length stretch) (drop at blocks) ≡ stretch
