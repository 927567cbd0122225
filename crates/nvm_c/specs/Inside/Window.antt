-- What a window was handed.
use Rattle.std.specs.Prelude.{◌≡◌, ℕ, List, Option}
use Rattle.nvm_audit.specs.RecordView.{RecordView}
use Rattle.nvm_file.specs.RecordFile.{IsRecordFile}
use Rattle.nvm_file.specs.Spelling.{record_bytes}
use Rattle.nvm_c.specs.Recorded.{IsRecordOf}
use Rattle.nvm_c.specs.declared.engine.Engine.{Engine}
use Rattle.nvm_c.specs.declared.window.Window.{Window}

-- It was handed just these bytes, and keeps at most so many of them from the place on.
pub record IsHanded (w : Window) (from most : ℕ) (bytes : List ℕ) : Type 0 where
  pub begins : w.from ≡ from
  pub limit : w.most ≡ most
  pub taken : w.handed.bytes ≡ bytes

-- It was handed the file of the record of what is held.
pub record IsHandedFile (held : List (Option Engine)) (w : Window) (from most : ℕ) : Type 0 where
  pub run : RecordView
  pub of : IsRecordOf held run
  pub file : IsRecordFile (record_bytes run) run
  pub handed : IsHanded w from most (record_bytes run)
