use Rattle.std.proofs.Common.{refl}
use Rattle.nvm_geometry.specs.Boundaries.{unit_number}
use Rattle.nvm_space.proofs.Shuffles.{ends_agree, place_of_entry, points_agree, shuffle_is_run, statuses_agree}
use Rattle.nvm_space.proofs.laws.shuffles_are_runs.Goals as goal

pub returns-clause-run : goal.returns-clause-run
returns-clause-run c ns histories all lawful shuffle =
    let law = c.steps_are_local.ensures in
    shuffle_is_run law.range law.outside law.statuses law.payload law.blocks ns histories all lawful shuffle

pub returns-clause-place : goal.returns-clause-place
returns-clause-place c = place_of_entry

pub returns-clause-statuses : goal.returns-clause-statuses
returns-clause-statuses c ns histories all history i entry lawful shuffle at in_histories =
    let law = c.steps_are_local.ensures in
    statuses_agree law.range law.outside law.statuses law.payload law.blocks ns histories all lawful shuffle
    history i entry at in_histories

pub returns-clause-medium : goal.returns-clause-medium
returns-clause-medium c ns histories all history n lba lawful shuffle at =
    let law = c.steps_are_local.ensures in
    points_agree law.range law.outside law.statuses law.payload law.blocks ns histories all lawful shuffle
    n (unit_number ns lba) history at lba refl

pub returns-clause-end : goal.returns-clause-end
returns-clause-end c ns histories all history lba lawful shuffle at =
    let law = c.steps_are_local.ensures in
    ends_agree law.range law.outside law.statuses law.payload law.blocks ns histories all lawful shuffle
    (unit_number ns lba) history at lba refl
