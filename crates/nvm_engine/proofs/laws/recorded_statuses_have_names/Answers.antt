use Rattle.nvm_engine.proofs.NamesOfOutcomes.{outcome_named}
use Rattle.nvm_engine.proofs.laws.recorded_statuses_have_names.Goals as goal

pub returns : goal.returns
returns c = λ r worker k work d lawful by there.
    let (replies, are) = c.done_jobs_are_outcomes.ensures r worker k work d lawful by there in
    outcome_named r.namespace are.job replies d.statuses d.payload are.outcome
