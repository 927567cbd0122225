use Rattle.std.proofs.Common.{◌∙◌}
use Rattle.nvm_commands.proofs.HostFiles.{told_alone}
use Rattle.nvm_commands.proofs.running.shown_of.Goals as goal

pub told-requires : goal.told-requires
told-requires g c = told_alone c.args.settings.now c.requires.0 c.args.files.now c.in-Err.fault c.requires.1 c.in-Err.ensures.fault

pub returns-in-Err-clause-fault : goal.returns-in-Err-clause-fault
returns-in-Err-clause-fault g c = (c.in-Err.fault, c.in-Err.ensures.fault, c.of_run.ensures ∙ c.told.ensures)
