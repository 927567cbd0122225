-- What is printed of an audit: one line, with what there was in a lawful record, or the first fault of another.
use Rattle.std.specs.Prelude.{ℕ, List, [], ◌++◌, Option, Some, None, Result, Ok, Err, codes, decimal}
use Rattle.nvm_audit.specs.declared.audit_fault.AuditFault.{AuditFault}
use Rattle.nvm_audit.specs.declared.audit_fault.Spot.{Spot}
use Rattle.nvm_audit.specs.declared.verdict.Verdict.{Verdict}
use Rattle.nvm_audit.specs.FaultName.{name_of}
use Rattle.nvm_audit.specs.FaultPlace.{job_of, spot_of}

-- how much there was of something
unfoldable pub count_text : List ℕ → ℕ → List ℕ
count_text of count = of ++ decimal count

-- how many changes there were, and how many jobs were refused
unfoldable pub changes_text : Verdict → List ℕ
changes_text v = count_text (codes " changes ") v.changes ++ (count_text (codes " refused ") v.refused ++ codes "\n")

-- how many jobs, units and changes there were, and how many jobs were refused
abbrev pub lawful_line : Verdict → List ℕ
lawful_line v = count_text (codes "lawful jobs ") v.jobs ++ (count_text (codes " units ") v.units ++ changes_text v)

-- where in a unit something is wrong, if it is in one
abbrev pub spot_text : Option Spot → List ℕ
spot_text None = codes " unit - place -"
spot_text (Some spot) = count_text (codes " unit ") spot.unit ++ count_text (codes " place ") spot.place

-- the number of a fault's job, and where it is
abbrev pub place_text : ℕ → Option Spot → List ℕ
place_text job spot = count_text (codes " job ") job ++ (spot_text spot ++ codes "\n")

-- the name of a fault, the number of its job, and where it is
abbrev pub unlawful_with : List ℕ → ℕ → Option Spot → List ℕ
unlawful_with name job spot = codes "unlawful " ++ (name ++ place_text job spot)

-- The line of a fault of this job. Want of memory is of none, and has no line.
abbrev pub unlawful_of : AuditFault → Option ℕ → List ℕ
unlawful_of fault None = []
unlawful_of fault (Some job) = unlawful_with (name_of fault) job (spot_of fault)

-- the line of a fault
abbrev pub unlawful_line : AuditFault → List ℕ
unlawful_line fault = unlawful_of fault (job_of fault)

-- the line of what an audit answers
abbrev pub answer_line : Result Verdict AuditFault → List ℕ
answer_line (Ok v) = lawful_line v
answer_line (Err fault) = unlawful_line fault

-- the exit status after it
abbrev pub answer_status : Result Verdict AuditFault → ℕ
answer_status (Ok v) = 0
answer_status (Err fault) = 2
