use Rattle.nvm_store.proofs.PlacedRuns as runs
use Rattle.nvm_store.proofs.laws.placed_runs_are_runs.Goals as goal

pub returns : goal.returns
returns c = runs.placed_runs_are_runs c.looks_change_nothing.ensures
