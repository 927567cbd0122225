use Rattle.std.proofs.Common.{◌≡◌, ◌-◌, ◌<◌, ℕ, List, [], Bor, length, map, arith, ap, sym, ◌∙◌}
use Rattle.std.proofs.lemmas.List.{map-set, get_or-map}
use Rattle.std.proofs.Math.ListN.{set}
use Rattle.nvm_list.specs.Words.{others}
use Rattle.nvm_list.specs.Said.{said_lines}
use Rattle.nvm_engine.proofs.under_line.take_said.Goals as goal

pub returns-clause-left : goal.returns-clause-left
returns-clause-left c =
    let lists = c.args.lists.now in
    let place = c.saturating_sub-place.result in
    let here : place ≡ c.args.host - 1 = grind arith in
    let below : place < length lists = grind arith in
    let says : Bor (List ℕ) → List (List ℕ) = λ list. said_lines list.now in
    rw (← here)
    (map-set says lists place c.next_said.result.1
    ∙ ap (λ (lines : List (List ℕ)). set (map says lists) place lines)
    (c.next_said.ensures.rest ∙ ap others (sym (get_or-map says lists place _ [] below))))
