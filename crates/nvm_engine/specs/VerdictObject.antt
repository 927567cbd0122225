-- What is printed of an audit for programs: one object of JSON (RFC 8259) on a line. Its names are the words of the line that people read. No
-- string in it has a quote, a backslash or a control character, so none is escaped.
use Rattle.std.specs.Prelude.{ℕ, List, ◌++◌, Option, Some, None, Result, Ok, Err, codes, decimal}
use Rattle.nvm_audit.specs.declared.audit_fault.AuditFault.{AuditFault}
use Rattle.nvm_audit.specs.declared.audit_fault.Spot.{Spot}
use Rattle.nvm_audit.specs.declared.verdict.Verdict.{Verdict}
use Rattle.nvm_audit.specs.FaultName.{name_of}
use Rattle.nvm_audit.specs.FaultPlace.{job_of, spot_of}

-- how many jobs, units and changes there were, and how many jobs were refused
unfoldable pub lawful_object : Verdict → List ℕ
lawful_object v =
    codes "{\"verdict\":\"lawful\",\"jobs\":" ++ (decimal v.jobs
    ++ (codes ",\"units\":" ++ (decimal v.units
    ++ (codes ",\"changes\":" ++ (decimal v.changes
    ++ (codes ",\"refused\":" ++ (decimal v.refused ++ codes "}\n")))))))

-- a fault of this name, the number of its job and where in a unit it is, as far as it has them
unfoldable pub unlawful_object : List ℕ → Option ℕ → Option Spot → List ℕ
unlawful_object name (Some job) (Some spot) =
    codes "{\"verdict\":\"unlawful\",\"fault\":\"" ++ (name
    ++ (codes "\",\"job\":" ++ (decimal job
    ++ (codes ",\"unit\":" ++ (decimal spot.unit
    ++ (codes ",\"place\":" ++ (decimal spot.place ++ codes "}\n")))))))
unlawful_object name (Some job) None =
    codes "{\"verdict\":\"unlawful\",\"fault\":\"" ++ (name
    ++ (codes "\",\"job\":" ++ (decimal job ++ codes ",\"unit\":null,\"place\":null}\n")))
unlawful_object name None spot =
    codes "{\"verdict\":\"unlawful\",\"fault\":\"" ++ (name ++ codes "\",\"job\":null,\"unit\":null,\"place\":null}\n")

-- the object of what an audit answers
abbrev pub answer_object : Result Verdict AuditFault → List ℕ
answer_object (Ok v) = lawful_object v
answer_object (Err fault) = unlawful_object (name_of fault) (job_of fault) (spot_of fault)
