use Rattle.std.proofs.Common.{refl}
use Rattle.nvm_file.specs.Inside.Rest.{left_of}
use Rattle.nvm_file.proofs.TracesHeld.{trace_held}
use Rattle.nvm_file.proofs.trace_reading.behind_head.Goals as goal

pub invariant_of-result : goal.invariant_of-result
invariant_of-result c =
    trace_held c.opcodes_are_proper.ensures c.args.frame.now.scope c.requires.version c.args.frame.now c.in_ok-jobs.jobs.items
    (left_of c.args.rest) (left_of c.in_ok-jobs.rest) refl c.requires c.in_ok-jobs.ensures
