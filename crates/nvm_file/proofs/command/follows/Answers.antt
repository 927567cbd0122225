use Rattle.nvm_file.proofs.RangeData.{followed}
use Rattle.nvm_file.proofs.command.follows.Goals as goal

pub returns-then-carries_ranges : goal.returns-then-carries_ranges
returns-then-carries_ranges c =
    followed c.args.size c.args.command.now c.args.nr c.is_whole.result c.requires.place c.requires.length
    (rw (← c.carries_ranges.ensures) c.if-carries_ranges.true) c.is_whole.ensures
