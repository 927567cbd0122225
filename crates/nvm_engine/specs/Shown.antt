-- What a run shows of its settings and the hosts' files.
use Rattle.std.specs.Prelude.{◌≤◌, ℕ, List, [], ◌∷◌, length}
use Rattle.nvm_record.specs.HostFile.{IsHostFile}
use Rattle.nvm_record.specs.declared.command.Command.{Command}
use Rattle.nvm_plan.specs.Jobs.{IsJobList}
use Rattle.nvm_plan.specs.declared.job.Job.{Job}
use Rattle.nvm_plan.specs.Fits.{most_hosts}
use Rattle.nvm_audit.specs.Recordable.{IsRecordable}
use Rattle.nvm_audit.specs.RecordView.{RecordView}
use Rattle.nvm_engine.specs.RunRecord.{IsRecordOfRun}
use Rattle.nvm_engine.specs.Settings.{IsNamespace, advertised}
use Rattle.nvm_engine.specs.declared.settings.Settings.{Settings}

-- Each file is the host file of the commands at its place.
abbrev pub AreHostFiles : ℕ → List (List ℕ) → List (List Command) → Type 0
AreHostFiles size [] [] = Unit {0}
AreHostFiles size [] (host ∷ hosts) = ⊥
AreHostFiles size (file ∷ files) [] = ⊥
AreHostFiles size (file ∷ files) (host ∷ hosts) = IsHostFile size file host × AreHostFiles size files hosts

-- The record is that of a run of the jobs that the files' commands are, by as many workers as the settings say. It is lawful, and
-- can be held in a file.
pub record IsShown (s : Settings) (files : List (List ℕ)) (run : RecordView) : Type 0 where
  pub hosts : List (List Command)
  pub jobs : List Job
  pub few : length files ≤ most_hosts
  pub namespace : IsNamespace s
  pub commands : AreHostFiles s.block files hosts
  pub order : IsJobList hosts jobs
  pub is : IsRecordOfRun (advertised s) s.limit s.workers jobs run
  pub held : IsRecordable run
