use Rattle.std.proofs.Common.{◌≡◌}
use Rattle.nvm_store.proofs.step.apply.Goals as goal

pub returns-clause-step : goal.returns-clause-step
returns-clause-step c m held =
    let same : c.in_ok-after.after ≡ c.args.unit.now = c.in_ok-after.ensures in
    rw same at (c.in_ok-change.ensures.step m (rw same held))
