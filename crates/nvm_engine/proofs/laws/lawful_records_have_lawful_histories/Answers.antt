use Rattle.nvm_engine.proofs.laws.lawful_records_have_lawful_histories.Goals as goal

pub returns : goal.returns
returns c r lawful = record {
  count = lawful.complete.all_units;
  each = λ unit history at. let its = lawful.units unit history at in (its.place, its.lies, its.lawful);
}
