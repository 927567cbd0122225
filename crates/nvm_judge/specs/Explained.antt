-- When an order of points explains a trace (docs/STANDARD.md), and when none can.
use Rattle.std.specs.Prelude.{◌≡◌, ℕ, Some, None}
use Rattle.nvm_standard.specs.Explanation.{IsExplanation}
use Rattle.nvm_standard.specs.OrderView.{OrderView}
use Rattle.nvm_standard.specs.Table.{first_wrong, table_of}
use Rattle.nvm_standard.specs.declared.profile.Profile.{Profile}
use Rattle.nvm_trace.specs.TraceView.{TraceView}

-- No reply is wrong by itself, and the order explains the trace's table.
pub record IsExplainedBy (t : TraceView) (profile : Profile) (o : OrderView) : Type 0 where
  pub right : first_wrong t.jobs ≡ None
  pub explained : IsExplanation (table_of t profile) o

-- The reply to the command of this number is wrong by itself, so no order explains the trace.
pub record IsWrong (t : TraceView) (profile : Profile) (command : ℕ) : Type 0 where
  pub its : first_wrong t.jobs ≡ Some command
  pub refuted : (o : OrderView) → ¬ (IsExplainedBy t profile o)
