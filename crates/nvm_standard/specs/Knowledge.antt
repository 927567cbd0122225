-- What is known of the explanations of a table, if it has any (own).
use Rattle.nvm_standard.specs.declared.node.Node.{Node}

pub record Knowledge : Type 1 where
  -- what is there
  pub there : Node → Type 0
  -- what comes before what
  pub before : Node → Node → Type 0
  -- which readers found what was in their block at first
  pub first : Node → Type 0

-- The first is known by the second, too.
pub record IsWithin (K L : Knowledge) : Type 0 where
  pub there : (a : Node) → K.there a → L.there a
  pub before : (a b : Node) → K.before a b → L.before a b
  pub first : (a : Node) → K.first a → L.first a
