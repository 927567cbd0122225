-- Why there is no record of a run (own).
use Rattle.std.specs.Prelude.{ℕ}
use Rattle.nvm_engine.specs.Counters.{IsWorkerCount}
use Rattle.nvm_engine.specs.declared.run_fault.RunFault.{RunFault}
use Rattle.nvm_engine.specs.declared.run_fault.RunFault.TheVariants.{Workers, NoMemory}

-- why there is no run by this number of workers
abbrev pub IsRunFault : ℕ → RunFault → Type 0
IsRunFault count Workers = ¬ IsWorkerCount count
IsRunFault count NoMemory = IsWorkerCount count
