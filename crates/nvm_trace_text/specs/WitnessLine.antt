-- What is printed of a trace that a record is to explain: one line, with the numbers of an explained trace, or with the first fault.
use Rattle.std.specs.Prelude.{ℕ, List, ◌++◌, Option, Some, None, Result, Ok, Err, codes, decimal}
use Rattle.nvm_audit.specs.declared.audit_fault.Spot.{Spot}
use Rattle.nvm_trace.specs.declared.explained.Explained.{Explained}
use Rattle.nvm_trace.specs.declared.witness_fault.WitnessFault.{WitnessFault}
use Rattle.nvm_trace.specs.FaultPlace.{name_of, job_of, spot_of}

-- how many jobs, units and steps there are, how many replies don't say what was done, and how many preparations there are
unfoldable pub explained_line : Explained → List ℕ
explained_line e =
    codes "explained jobs " ++ (decimal e.jobs
    ++ (codes " units " ++ (decimal e.units
    ++ (codes " steps " ++ (decimal e.steps
    ++ (codes " excused " ++ (decimal e.excused
    ++ (codes " preparations " ++ (decimal e.preparations ++ codes "\n")))))))))

-- a fault of this name, the number of its job and where in a unit it is, as far as it has them
unfoldable pub unexplained_with : List ℕ → Option ℕ → Option Spot → List ℕ
unexplained_with name (Some job) (Some spot) =
    codes "unexplained " ++ (name
    ++ (codes " job " ++ (decimal job
    ++ (codes " unit " ++ (decimal spot.unit
    ++ (codes " place " ++ (decimal spot.place ++ codes "\n")))))))
unexplained_with name (Some job) None = codes "unexplained " ++ (name ++ (codes " job " ++ (decimal job ++ codes " unit - place -\n")))
unexplained_with name None spot = codes "unexplained " ++ (name ++ codes " job - unit - place -\n")

abbrev pub unexplained_line : WitnessFault → List ℕ
unexplained_line fault = unexplained_with (name_of fault) (job_of fault) (spot_of fault)

-- the line of what a witness answers
abbrev pub witness_line : Result Explained WitnessFault → List ℕ
witness_line (Ok e) = explained_line e
witness_line (Err fault) = unexplained_line fault
