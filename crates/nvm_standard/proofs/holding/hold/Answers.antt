use Rattle.std.proofs.Common.{List, map, sym, subst}
use Rattle.std.proofs.lemmas.List.{map-set}
use Rattle.nvm_standard.specs.Inside.Held.{Holds}
use Rattle.nvm_standard.specs.OrderView.{ContentView, seen_content}
use Rattle.nvm_standard.proofs.Blocks.{one_set}
use Rattle.nvm_standard.proofs.holding.hold.Goals as goal

pub returns-clause-holds : goal.returns-clause-holds
returns-clause-holds c = λ t m n holds here there.
    subst (λ (xs : List ContentView). Holds t xs n) (sym (map-set seen_content c.args.held.now.items c.args.block c.args.content))
    (one_set t (map seen_content c.args.held.now.items) m n c.args.block (seen_content c.args.content) holds here there)
