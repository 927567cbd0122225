use Rattle.nvm_c.specs.Opening.{engines_of}
use Rattle.nvm_c.proofs.Worked.{part_not_written}
use Rattle.nvm_c.proofs.recording.record_part.Goals as goal

pub returns-in-Ok-clause-recorded : goal.returns-in-Ok-clause-recorded
returns-in-Ok-clause-recorded c = c.put_part.ensures (engines_of c.args.ports.now) c.args.from c.in-Ok.ensures.file

pub returns-in-Err-clause-recorded : goal.returns-in-Err-clause-recorded
returns-in-Err-clause-recorded c = part_not_written c.in-Err.code (engines_of c.args.ports.now) c.args.from _ c.in-Err.ensures.refused
