-- What is printed of a run: the lines of its record in one of the two forms, and the line of the record's verdict after them.
use Rattle.std.specs.Prelude.{◌≡◌, ℕ, List, [], ◌++◌}
use Rattle.nvm_audit.specs.RecordView.{RecordView}
use Rattle.nvm_audit.specs.Verdict.{IsVerdict}
use Rattle.nvm_audit.specs.declared.verdict.Verdict.{Verdict}
use Rattle.nvm_engine.specs.RecordLines.{AreLinesOf}
use Rattle.nvm_engine.specs.UnderLine.{Lists}
use Rattle.nvm_engine.specs.VerdictLine.{lawful_line}
use Rattle.nvm_engine.specs.declared.form.Form.{Form}
use Rattle.nvm_engine.specs.declared.form.Form.TheVariants.{Short, Long}

-- The text is printed of the record in this form, beside what the lists say.
pub record IsPrintedIn (form : Form) (lists : Lists) (r : RecordView) (text : List ℕ) : Type 0 where
  pub lines : List ℕ
  pub of : AreLinesOf form lists r lines
  pub verdict : Verdict
  pub counted : IsVerdict r verdict
  pub whole : text ≡ lines ++ lawful_line verdict

-- the short form, without lists
abbrev pub IsPrintedOf : RecordView → List ℕ → Type 0
IsPrintedOf r text = IsPrintedIn Short [] r text

-- the long form
abbrev pub IsLongTextOf : Lists → RecordView → List ℕ → Type 0
IsLongTextOf lists r text = IsPrintedIn Long lists r text
