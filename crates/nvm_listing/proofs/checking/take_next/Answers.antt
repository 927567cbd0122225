use Rattle.std.proofs.Common.{◌≡◌, ◌-◌, ◌<◌, List, [], Bor, Option, length, map, drop, arith, ap, sym, ◌∙◌}
use Rattle.std.proofs.lemmas.List.{map-set, get_or-map}
use Rattle.std.proofs.Math.ListN.{set}
use Rattle.nvm_record.specs.declared.status.Status.{Status}
use Rattle.nvm_listing.proofs.checking.take_next.Goals as goal

pub returns-clause-left : goal.returns-clause-left
returns-clause-left c =
    let lists = c.args.lists.now in
    let place = c.saturating_sub-place.result in
    let here : place ≡ c.args.host - 1 = grind arith in
    let below : place < length lists = c.if-place-lists.false in
    let seen : Bor (List (Option Status)) → List (Option Status) = λ list. list.now in
    rw (← here)
    (map-set seen lists place c.in-Some.rest
    ∙ ap (λ (list : List (Option Status)). set (map seen lists) place list)
    (sym (ap (drop 1) (get_or-map seen lists place _ [] below ∙ c.in-Some.ensures.cases.0))))
