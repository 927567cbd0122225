-- Why an order doesn't explain a trace, and why a contradiction isn't taken.
use Rattle.nvm_standard.specs.OrderView.{OrderView}
use Rattle.nvm_standard.specs.RightFault.{IsOfOrder}
use Rattle.nvm_standard.specs.declared.order_fault.OrderFault.{OrderFault}
use Rattle.nvm_standard.specs.declared.profile.Profile.{Profile}
use Rattle.nvm_trace.specs.TraceView.{TraceView}
use Rattle.nvm_judge.specs.Explained.{IsExplainedBy, IsWrong}
use Rattle.nvm_judge.specs.declared.check_fault.CheckFault.{CheckFault}
use Rattle.nvm_judge.specs.declared.check_fault.CheckFault.TheVariants.{Wrong, Order, NoMemory}
use Rattle.nvm_judge.specs.declared.refute_fault.RefuteFault.{RefuteFault}
use Rattle.nvm_judge.specs.declared.refute_fault.RefuteFault.TheVariants as refuting

-- A fault that is the order's own says that it doesn't explain the trace.
abbrev pub IsUnexplainedFor : OrderFault → TraceView → Profile → OrderView → Type 0
IsUnexplainedFor fault t profile o = IsOfOrder fault → IsExplainedBy t profile o → ⊥

-- The fault says so. Want of memory says nothing.
abbrev pub IsCheckFault : TraceView → Profile → OrderView → CheckFault → Type 0
IsCheckFault t profile o (Wrong command) = IsWrong t profile command
IsCheckFault t profile o (Order fault) = IsUnexplainedFor fault t profile o
IsCheckFault t profile o NoMemory = Unit {0}

-- The reply that the fault names is wrong by itself, so no order explains the trace. Of a contradiction that isn't taken nothing is said,
-- nor by want of memory.
abbrev pub IsRefuteFault : TraceView → Profile → RefuteFault → Type 0
IsRefuteFault t profile (refuting.Wrong command) = IsWrong t profile command
IsRefuteFault t profile (refuting.Contradiction fault) = Unit {0}
IsRefuteFault t profile refuting.NoMemory = Unit {0}
