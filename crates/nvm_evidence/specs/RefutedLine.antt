-- What is printed of a contradiction that is to refute a trace: one line, with how much it names, or with why it isn't taken.
use Rattle.std.specs.Prelude.{ℕ, List, ◌++◌, codes, decimal}
use Rattle.nvm_standard.specs.declared.contradiction_fault.ContradictionFault.{ContradictionFault}
use Rattle.nvm_standard.specs.declared.contradiction_fault.ContradictionFault.TheVariants.{FactWrong, NothingContradicted, NoMemory}
use Rattle.nvm_standard.specs.declared.profile.Profile.{Profile}
use Rattle.nvm_evidence.specs.OrderedLine.{deallocated_word, held_word}
use Rattle.nvm_evidence.specs.declared.refuted.Refuted.{Refuted as RefutedType}
use Rattle.nvm_evidence.specs.declared.refuted.Refuted.TheVariants.{Refuted, Wrong, Unrefuted}

-- how many commands are named, how many facts there are, and what the device was held to
unfoldable pub taken_line : ℕ → ℕ → Profile → List ℕ
taken_line commands facts profile =
    codes "refuted commands " ++ (decimal commands
    ++ (codes " facts " ++ (decimal facts
    ++ (codes " reads " ++ (held_word profile.held
    ++ (codes " deallocated " ++ (deallocated_word profile.deallocated ++ codes "\n")))))))

abbrev pub fault_line : ContradictionFault → List ℕ
fault_line (FactWrong fact) = codes "unrefuted FactWrong fact " ++ (decimal fact ++ codes "\n")
fault_line NothingContradicted = codes "unrefuted NothingContradicted fact -\n"
fault_line NoMemory = codes "unrefuted NoMemory\n"

abbrev pub refuted_line : RefutedType → List ℕ
refuted_line (Refuted commands facts profile) = taken_line commands facts profile
refuted_line (Wrong command) = codes "refuted job " ++ (decimal command ++ codes "\n")
refuted_line (Unrefuted fault) = fault_line fault

-- the exit status after it
abbrev pub refuted_status : RefutedType → ℕ
refuted_status (Refuted commands facts profile) = 0
refuted_status (Wrong command) = 0
refuted_status (Unrefuted fault) = 2
