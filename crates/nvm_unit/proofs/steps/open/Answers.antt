use Rattle.std.proofs.Common.{◌≡◌, ap, ◌∙◌, List, [], ◌∷◌, ◌++◌, Option, Some}
use Rattle.atomic_table.specs.Table.{opening}
use Rattle.nvm_unit.specs.Inside.Book.{Recorded, recorded}
use Rattle.nvm_unit.specs.Machine.{opening_state}
use Rattle.nvm_unit.specs.Inside.Rule.{all_newcomers}
use Rattle.nvm_unit.proofs.EventsKept.{opening_kept}
use Rattle.nvm_unit.proofs.Reaching.{opening_reached}
use Rattle.nvm_unit.proofs.steps.open.Goals as goal

pub new-requires : goal.new-requires
new-requires g c =
    let b = c.args.bounds in
    let items : c.push_reserved.new.self.items ≡ Some (recorded b []) ∷ [] =
    c.push_reserved.ensures.items
    ∙ (ap (λ (xs : List (Option Recorded)). xs ++ Some c.args.book ∷ []) c.in_ok-slots.ensures.items
    ∙ ap (λ (x : Recorded). Some x ∷ []) c.requires) in
    (opening_state b, ap (λ (xs : List (Option Recorded)). opening (0 ∷ []) xs (all_newcomers b)) items, opening_kept b, opening_reached b)
