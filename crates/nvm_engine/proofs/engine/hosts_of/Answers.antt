use Rattle.std.proofs.Common.{◌≡◌, ℕ, ◌+◌, List, [], map, drop, subst}
use Rattle.std.proofs.Math.ListN.{drop_of_length-le}
use Rattle.nvm_engine.proofs.Reading.{IsReading, all_read}
use Rattle.nvm_engine.proofs.engine.hosts_of.Goals as goal

pub returns-clause-commands : goal.returns-clause-commands
returns-clause-commands c =
    let none : drop c.loop-place.place c.args.files.now ≡ [] = drop_of_length-le c.args.files.now c.loop-place-test.false in
    all_read c.args.size _ _ (c.loop-place.place + 1)
    (subst (λ (rest : List (List ℕ)). IsReading c.args.size c.args.files.now rest (map (λ host. host.items) c.loop-place.hosts.items) (c.loop-place.place + 1)) none c.loop-place.invariant.2)
