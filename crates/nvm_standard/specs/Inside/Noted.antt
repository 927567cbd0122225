-- What is known, as the checker notes it.
use Rattle.std.specs.Prelude.{◌⊎◌, Contains, List}
use Rattle.nvm_standard.specs.PointView.{TableView}
use Rattle.nvm_standard.specs.declared.known.Known.{Known}
use Rattle.nvm_standard.specs.declared.known.Order.{Order}
use Rattle.nvm_standard.specs.declared.node.Node.{Node}
use Rattle.nvm_standard.specs.Knowledge.{Knowledge}
use Rattle.nvm_standard.specs.Standing.{IsSure, order}

-- The one is noted to come before the other.
abbrev pub IsNoted : List Order → Node → Node → Type 0
IsNoted orders x y = Contains orders (order x y)

-- It is sure, or noted to be there.
abbrev pub IsNotedThere : TableView → List Node → Node → Type 0
IsNotedThere t there a = IsSure t a ⊎ Contains there a

abbrev pub noted : TableView → Known → Knowledge
noted t known =
    record {
      there = IsNotedThere t known.there.items;
      before = IsNoted known.orders.items;
      first = λ a. Contains known.firsts.items a;
    }
