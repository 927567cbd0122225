-- What is printed of an order that is to explain a trace: one line, with how much was done, or with why it doesn't.
use Rattle.std.specs.Prelude.{ℕ, List, ◌++◌, codes, decimal}
use Rattle.nvm_standard.specs.declared.order_fault.OrderFault.{OrderFault}
use Rattle.nvm_standard.specs.declared.order_fault.OrderFault.TheVariants.{FirstWrong, Misplaced, TimeBack, FindsOther, DeallocatesLate, DoneAgain, Absent, TooEarly, Between, Unkept, NoMemory}
use Rattle.nvm_trace.specs.declared.deallocated.Deallocated.{Deallocated}
use Rattle.nvm_trace.specs.declared.deallocated.Deallocated.TheVariants.{Zeroes, Ones, Either}
use Rattle.nvm_standard.specs.declared.profile.Held.{Held}
use Rattle.nvm_standard.specs.declared.profile.Held.TheVariants.{Atomic, AtomicAll, Whole, ByBlocks}
use Rattle.nvm_evidence.specs.declared.ordered.OrderNumbers.{OrderNumbers}
use Rattle.nvm_evidence.specs.declared.ordered.Ordered.{Ordered}
use Rattle.nvm_evidence.specs.declared.ordered.Ordered.TheVariants.{Explained, Wrong, Unexplained}

abbrev pub held_word : Held → List ℕ
held_word Atomic = codes "atomic"
held_word AtomicAll = codes "atomic-all"
held_word Whole = codes "whole"
held_word ByBlocks = codes "by-blocks"

abbrev pub deallocated_word : Deallocated → List ℕ
deallocated_word Zeroes = codes "zeroes"
deallocated_word Ones = codes "ones"
deallocated_word Either = codes "either"

-- a fault of this name, at this place
unfoldable pub unexplained_at : List ℕ → ℕ → List ℕ
unexplained_at name place = codes "unexplained " ++ (name ++ (codes " " ++ (decimal place ++ codes "\n")))

abbrev pub fault_line : OrderFault → List ℕ
fault_line (FirstWrong place) = unexplained_at (codes "FirstWrong place") place
fault_line (Misplaced position) = unexplained_at (codes "Misplaced position") position
fault_line (TimeBack position) = unexplained_at (codes "TimeBack position") position
fault_line (FindsOther position) = unexplained_at (codes "FindsOther position") position
fault_line (DeallocatesLate position) = unexplained_at (codes "DeallocatesLate position") position
fault_line (DoneAgain position) = unexplained_at (codes "DoneAgain position") position
fault_line (Absent point) = unexplained_at (codes "Absent point") point
fault_line (TooEarly point) = unexplained_at (codes "TooEarly point") point
fault_line (Between position) = unexplained_at (codes "Between position") position
fault_line (Unkept point) = unexplained_at (codes "Unkept point") point
fault_line NoMemory = codes "unexplained NoMemory\n"

-- how many jobs and placed points there are, and what the device was held to
unfoldable pub explained_line : OrderNumbers → List ℕ
explained_line n =
    codes "explained jobs " ++ (decimal n.jobs
    ++ (codes " points " ++ (decimal n.points
    ++ (codes " reads " ++ (held_word n.profile.held
    ++ (codes " deallocated " ++ (deallocated_word n.profile.deallocated ++ codes "\n")))))))

abbrev pub ordered_line : Ordered → List ℕ
ordered_line (Explained numbers) = explained_line numbers
ordered_line (Wrong command) = unexplained_at (codes "Wrong job") command
ordered_line (Unexplained fault) = fault_line fault

-- the exit status after it
abbrev pub ordered_status : Ordered → ℕ
ordered_status (Explained numbers) = 0
ordered_status (Wrong command) = 2
ordered_status (Unexplained fault) = 2
