use Rattle.std.proofs.Common.{◌≤◌, length, rules}
use Rattle.nvm_explain.proofs.Places.{found_among}
use Rattle.nvm_explain.proofs.changes.last_change.Goals as goal

pub returns-clause-place : goal.returns-clause-place
returns-clause-place c =
    let past : length c.args.entries.now ≤ c.loop-place.place = search rules in
    found_among _ c.args.range c.loop-place.place c.args.entries.now c.loop-place.last past c.loop-place.invariant
