-- What is printed of a run of host files; for programs that ends with the object of its record's verdict.
use Rattle.std.specs.Prelude.{◌≡◌, ℕ, String, List, ◌++◌, Option, Some, None, string_bytes}
use Rattle.std.specs.Global.{Global}
use Rattle.nvm_audit.specs.RecordView.{RecordView}
use Rattle.nvm_audit.specs.Verdict.{IsVerdict}
use Rattle.nvm_audit.specs.declared.verdict.Verdict.{Verdict}
use Rattle.nvm_engine.specs.Shown.{IsShown}
use Rattle.nvm_engine.specs.VerdictObject.{lawful_object}
use Rattle.nvm_engine.specs.declared.settings.Settings.{Settings}
use Rattle.nvm_commands.specs.declared.front.judging_words.Telling.{Telling}
use Rattle.nvm_commands.specs.declared.front.judging_words.Telling.TheVariants.{Lines, Object}
use Rattle.nvm_commands.specs.declared.told_run.ToldRun.{ToldRun}

-- The text is printed of the record. The verdict's object, which comes after those of the answers, is that of an audit of the record.
pub record IsObjectText (r : RecordView) (text : List ℕ) : Type 0 where
  pub objects : List ℕ
  pub verdict : Verdict
  pub counted : IsVerdict r verdict
  pub whole : text ≡ objects ++ lawful_object verdict

-- Where the record is printed as objects, this is their text, and else there is none.
abbrev pub AreToldAs : Telling → RecordView → Option (String Global) → Type 0
AreToldAs Lines r told = told ≡ None
AreToldAs Object r None = ⊥
AreToldAs Object r (Some text) = IsObjectText r (string_bytes text)

-- What is shown is a run of these host files, with these settings, and what is printed is printed of its record.
pub record IsToldRun (telling : Telling) (settings : Settings) (files : List (List ℕ)) (told : ToldRun) : Type 0 where
  pub shown : IsShown settings files told.shown
  pub objects : AreToldAs telling told.shown told.objects
