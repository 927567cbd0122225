use Rattle.nvm_c.specs.Opening.{engines_of}
use Rattle.nvm_c.proofs.Worked.{not_written}
use Rattle.nvm_c.proofs.recording.record_ports.Goals as goal

pub returns-in-Ok-clause-recorded : goal.returns-in-Ok-clause-recorded
returns-in-Ok-clause-recorded c = c.put.ensures (engines_of c.args.ports.now) c.in-Ok.ensures.file

pub returns-in-Err-clause-recorded : goal.returns-in-Err-clause-recorded
returns-in-Err-clause-recorded c = not_written c.in-Err.code (engines_of c.args.ports.now) _ c.in-Err.ensures.refused
