-- What the judgment of a trace says.
use Rattle.nvm_standard.specs.Explanation.{IsExplanation}
use Rattle.nvm_standard.specs.OrderView.{seen_order}
use Rattle.nvm_standard.specs.PointView.{TableView}
use Rattle.nvm_standard.specs.declared.profile.Profile.{Profile}
use Rattle.nvm_trace.specs.TraceView.{TraceView}
use Rattle.nvm_judge.specs.Contradicted.{AreContradicted, IsContradictedBy}
use Rattle.nvm_judge.specs.Explained.{IsExplainedBy, IsWrong}
use Rattle.nvm_judge.specs.declared.judgment.Judgment.{Judgment}
use Rattle.nvm_judge.specs.declared.judgment.Judgment.TheVariants.{Explained, Contradicted, Wrong, Unknown}

-- What the judgment says of the trace is so. An unknown one says nothing.
abbrev pub IsJudged : TraceView → Profile → Judgment → Type 0
IsJudged t profile (Explained order) = IsExplainedBy t profile (seen_order order)
IsJudged t profile (Contradicted contradiction) = IsContradictedBy t profile contradiction
IsJudged t profile (Wrong command) = IsWrong t profile command
IsJudged t profile (Unknown stop) = Unit {0}

-- What is found among the points of a table.
abbrev pub IsFoundOf : TableView → Judgment → Type 0
IsFoundOf t (Explained order) = IsExplanation t (seen_order order)
IsFoundOf t (Contradicted contradiction) = AreContradicted t contradiction
IsFoundOf t (Wrong command) = ⊥
IsFoundOf t (Unknown stop) = Unit {0}
