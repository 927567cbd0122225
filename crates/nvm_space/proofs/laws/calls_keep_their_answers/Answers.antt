use Rattle.std.proofs.Common.{◌≡◌, ◌≤◌, ℕ, nat_eq, List, length, subst, take}
use Rattle.nvm_store.specs.HistoryEntry.{HistoryEntry}
use Rattle.nvm_space.specs.Shuffle.{entries_of_unit, unit_of_entry}
use Rattle.nvm_space.proofs.Shuffles.{front_of_filter, has_its_answer, steps_are_run, within_front}
use Rattle.nvm_space.proofs.laws.calls_keep_their_answers.Goals as goal

pub returns-clause-answer : goal.returns-clause-answer
returns-clause-answer c ns histories all n call lawful shuffle stands =
    let law = c.steps_are_local.ensures in
    has_its_answer law.range law.outside law.statuses law.payload law.blocks ns histories (take n all)
    (within_front law.range law.outside law.statuses law.payload law.blocks ns histories all lawful shuffle n)
    call stands

pub returns-clause-points : goal.returns-clause-points
returns-clause-points c ns histories all history unit k shuffle at =
    subst (λ (es : List HistoryEntry). (n : ℕ) × (n ≤ length all) × (entries_of_unit ns unit (take n all) ≡ take k es))
    (shuffle.each unit history at) (front_of_filter (λ e. nat_eq (unit_of_entry ns e) unit) all k)

pub returns-clause-run : goal.returns-clause-run
returns-clause-run c ns histories run lawful shuffle stand =
    let law = c.steps_are_local.ensures in
    steps_are_run law.range law.outside law.statuses law.payload law.blocks ns c.looks_change_nothing.ensures
    histories run lawful shuffle stand
