use Rattle.std.proofs.Common.{subst, sym}
use Rattle.nvm_c.specs.Told.{FitEntries}
use Rattle.nvm_c.proofs.ThreeBits.{completions_fit, outcome_fits}
use Rattle.nvm_c.proofs.engine.told_statuses_fit_their_entries.Goals as goal

pub returns-clause-fit : goal.returns-clause-fit
returns-clause-fit c ns lists number job start now done does =
    subst FitEntries (sym does.completions) (completions_fit job.host job.body does.told does.read (outcome_fits ns job _ does.told does.read does.outcome))
