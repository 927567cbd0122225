-- Why the expectations of a list can't be read, and what is printed of those of a run.
use Rattle.std.specs.Prelude.{◌≡◌, ◌⊎◌, ℕ, nat_lt, if◌then◌else◌, Bool, true, false, List, Option, Some, None, Err, length, string_bytes}
use Rattle.nvm_audit.specs.LawfulRecord.{IsLawfulRecord}
use Rattle.nvm_audit.specs.RecordView.{RecordView}
use Rattle.nvm_listing.specs.CheckText.{checks_text, unmet_count}
use Rattle.nvm_listing.specs.Checks.{Lists, AreChecksOf}
use Rattle.nvm_listing.specs.Expectations.{expectations}
use Rattle.nvm_listing.specs.declared.check.Check.{Check}
use Rattle.nvm_listing.specs.declared.expectation_fault.ExpectationFault.TheVariants.{Line}
use Rattle.nvm_commands.specs.Paths.{IsOfOne}
use Rattle.nvm_commands.specs.declared.checked.Checked.{Checked}
use Rattle.nvm_commands.specs.declared.fault.Fault.{Fault}
use Rattle.nvm_commands.specs.declared.fault.Fault.TheVariants.{Expectation, NoMemory}

-- The first wrong expectation of the list at this path, or memory was refused.
abbrev pub IsExpectationFault : List ℕ → List ℕ → Fault → Type 0
IsExpectationFault path list (Expectation shown line expected) = (string_bytes shown ≡ path) × (expectations list ≡ Err (Line line expected))
IsExpectationFault path list NoMemory = Unit {0}
IsExpectationFault path list fault = ⊥

-- The same of a list at one of these paths.
abbrev pub IsExpectingFault : List (List ℕ) → Fault → Type 0
IsExpectingFault paths fault =
    (fault ≡ NoMemory) ⊎ IsOfOne (λ path of. (list : List ℕ) × IsExpectationFault path list of) paths fault

-- What is printed is the text of the expectations of the lists, beside the statuses of the record.
pub record IsCheckedOf (lists : Lists) (r : RecordView) (told : Checked) : Type 0 where
  pub checks : List Check
  pub of : AreChecksOf lists r checks
  pub text : string_bytes told.text ≡ checks_text checks
  pub expectations : told.expectations ≡ length checks
  pub unmet : told.unmet ≡ unmet_count checks

-- Where that is asked, it is printed of the expectations of some lists beside a lawful record, and else of none.
abbrev pub IsCheckedIf : Bool → Option Checked → Type 0
IsCheckedIf false told = told ≡ None
IsCheckedIf true None = ⊥
IsCheckedIf true (Some told) = (lists : Lists) × (r : RecordView) × IsLawfulRecord r × IsCheckedOf lists r told

-- the exit status: 2 where an expectation that was checked isn't met
abbrev pub status_told : Option Checked → ℕ
status_told None = 0
status_told (Some told) = if nat_lt 0 told.unmet then 2 else 0

-- The exit status of a run whose lists' expectations are checked, or aren't.
abbrev pub IsStatusOfRun : Bool → ℕ → Type 0
IsStatusOfRun check status = (told : Option Checked) × IsCheckedIf check told × (status ≡ status_told told)
