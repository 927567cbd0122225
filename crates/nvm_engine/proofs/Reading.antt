-- Reading files in their order, each as the commands of a host.
use Rattle.std.proofs.Common.{inl, inr, ◌≡◌, ℕ, ◌+◌, ◌≤◌, List, [], ◌∷◌, ◌++◌, All, false, arith, length, map, subst, append_assoc, append-nil}
use Rattle.std.specs.List.{AllByRecursion}
use Rattle.nvm_record.specs.Entry.{IsWhole}
use Rattle.nvm_record.specs.HostFile.{IsHostFile}
use Rattle.nvm_record.specs.Op.{op_of, IsProperOp}
use Rattle.nvm_record.specs.declared.op.Op.TheVariants.{Other}
use Rattle.nvm_record.specs.declared.command.Command.{Command}
use Rattle.nvm_plan.specs.Jobs.{commands_of}
use Rattle.nvm_plan.specs.declared.job.Body.{Body}
use Rattle.nvm_plan.specs.declared.job.Body.TheVariants.{Single, Pair}
use Rattle.nvm_audit.specs.Recordable.{HoldsCommand, HoldsBody}
use Rattle.nvm_audit.specs.declared.version.Version.TheVariants.{Two}
use Rattle.nvm_engine.specs.Fault.{IsFileFault, IsFilesFault}
use Rattle.nvm_engine.specs.Shown.{AreHostFiles}
use Rattle.nvm_engine.specs.declared.fault.Fault.{Fault}

-- After some files: what completes the rest completes all, and the first fault of the rest is that of all.
pub record IsReading (size : ℕ) (all rest : List (List ℕ)) (hosts : List (List Command)) (number : ℕ) : Type 0 where
  pub completes : (more : List (List Command)) → AreHostFiles size rest more → AreHostFiles size all (hosts ++ more)
  pub faults : (fault : Fault) → IsFilesFault size number rest fault → IsFilesFault size 1 all fault

pub none_yet : (size : ℕ) (all : List (List ℕ)) → IsReading size all all [] 1
none_yet size all = record { completes = λ more h. h; faults = λ fault h. h }

pub one_more : (size : ℕ) (all rest : List (List ℕ)) (hosts : List (List Command)) (number : ℕ) (file : List ℕ) (host : List Command)
    → IsReading size all (file ∷ rest) hosts number → IsHostFile size file host → IsReading size all rest (hosts ++ host ∷ []) (number + 1)
one_more size all rest hosts number file host reading is = record {
  completes = λ more h. rw append_assoc (reading.completes (host ∷ more) (is, h));
  faults = λ fault h. reading.faults fault (inr ((host, is), h));
}

pub first_fault : (size : ℕ) (all rest : List (List ℕ)) (hosts : List (List Command)) (number : ℕ) (file : List ℕ) (fault : Fault)
    → IsReading size all (file ∷ rest) hosts number → IsFileFault size number file fault → IsFilesFault size 1 all fault
first_fault size all rest hosts number file fault reading found = reading.faults fault (inl found)

pub all_read : (size : ℕ) (all : List (List ℕ)) (hosts : List (List Command)) (number : ℕ) → IsReading size all [] hosts number → AreHostFiles size all hosts
all_read size all hosts number reading = subst (λ (hs : List (List Command)). AreHostFiles size all hs) (append-nil hosts) (reading.completes [] tt)

-- Each host has at most as many commands as a file may have.
pub few_commands : {X : Type 0} (size : ℕ) (files : List (List ℕ)) (f : X → List Command) (xs : List X) → AreHostFiles size files (map f xs) → AllByRecursion (λ x. length (f x) ≤ 65536) xs
few_commands size [] f [] h = tt
few_commands size [] f (x ∷ xs) h = absurd h
few_commands size (file ∷ files) f [] h = absurd h
few_commands size (file ∷ files) f (x ∷ xs) h = (h.0.few, few_commands size files f xs h.1)

-- Commands of a proper opcode are no unknown opcode 09h.
not_unknown : (c : Command) → IsProperOp c.op → HoldsCommand Two c
not_unknown c proper e = let h : op_of 9 false ≡ Other 9 = subst IsProperOp e proper in cc

pub known_body : (size : ℕ) (body : Body) → All (IsWhole size) (commands_of body) → HoldsBody Two body
known_body size (Single c) whole = not_unknown c (whole 0 c (omega arith)).op
known_body size (Pair c d) whole = (not_unknown c (whole 0 c (omega arith)).op, not_unknown d (whole 1 d (omega arith)).op)
