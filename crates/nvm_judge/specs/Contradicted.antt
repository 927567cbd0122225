-- When a contradiction shows that no order of points explains a trace.
use Rattle.std.specs.Prelude.{◌≡◌, None}
use Rattle.nvm_standard.specs.Absurd.{IsContradiction}
use Rattle.nvm_standard.specs.declared.contradiction.Contradiction.{Contradiction}
use Rattle.nvm_standard.specs.Explanation.{IsExplanation}
use Rattle.nvm_standard.specs.OrderView.{OrderView}
use Rattle.nvm_standard.specs.PointView.{TableView}
use Rattle.nvm_standard.specs.Table.{first_wrong, table_of}
use Rattle.nvm_standard.specs.declared.profile.Profile.{Profile}
use Rattle.nvm_trace.specs.TraceView.{TraceView}
use Rattle.nvm_judge.specs.Explained.{IsExplainedBy}

-- The facts are given by their rules among the points of the table, their conclusion follows, and no order is an explanation.
pub record AreContradicted (t : TableView) (c : Contradiction) : Type 0 where
  pub derived : IsContradiction t c.facts.items c.conclusion
  pub refuted : (o : OrderView) → ¬ (IsExplanation t o)

-- No reply is wrong by itself, the facts are given among the points of the trace's commands, their conclusion follows, and no order
-- explains the trace.
pub record IsContradictedBy (t : TraceView) (profile : Profile) (c : Contradiction) : Type 0 where
  pub right : first_wrong t.jobs ≡ None
  pub derived : IsContradiction (table_of t profile) c.facts.items c.conclusion
  pub refuted : (o : OrderView) → ¬ (IsExplainedBy t profile o)
