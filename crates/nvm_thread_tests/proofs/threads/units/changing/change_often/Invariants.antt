use Rattle.nvm_unit.specs.Passes.{IsPassOf}
use Rattle.nvm_thread_tests.proofs.threads.units.changing.change_often.Given as goal

abbrev pub invariant-loop-job : goal.invariant-loop-job
invariant-loop-job g l = IsPassOf l.unit l.pass
