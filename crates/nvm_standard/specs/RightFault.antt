-- Which faults only an order that doesn't explain its trace has (own).
use Rattle.nvm_standard.specs.declared.order_fault.OrderFault.{OrderFault}
use Rattle.nvm_standard.specs.declared.order_fault.OrderFault.TheVariants.{FirstWrong, Misplaced, TimeBack, FindsOther, DeallocatesLate, DoneAgain, Absent, TooEarly, Between, Unkept, NoMemory}

-- The fault is the order's own. The last two are the table's and the machine's.
abbrev pub IsOfOrder : OrderFault → Type 0
IsOfOrder (FirstWrong place) = Unit {0}
IsOfOrder (Misplaced position) = Unit {0}
IsOfOrder (TimeBack position) = Unit {0}
IsOfOrder (FindsOther position) = Unit {0}
IsOfOrder (DeallocatesLate position) = Unit {0}
IsOfOrder (DoneAgain position) = Unit {0}
IsOfOrder (Absent point) = Unit {0}
IsOfOrder (TooEarly point) = Unit {0}
IsOfOrder (Between position) = Unit {0}
IsOfOrder (Unkept point) = ⊥
IsOfOrder NoMemory = ⊥
