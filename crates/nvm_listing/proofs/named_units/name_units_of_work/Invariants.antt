use Rattle.std.proofs.Common.{◌≡◌, drop}
use Rattle.nvm_listing.specs.Inside.Named.{named_by_work}
use Rattle.nvm_listing.proofs.named_units.name_units_of_work.Given as goal

-- with the marks of the jobs that are left these are all marks
abbrev pub invariant-loop-job : goal.invariant-loop-job
invariant-loop-job l = named_by_work (drop l.job-index l.work) l.named.items ≡ named_by_work l.work l.fn.named.items
