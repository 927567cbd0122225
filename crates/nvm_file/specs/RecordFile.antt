-- Record files.
use Rattle.std.specs.Prelude.{◌≡◌, ℕ, List, Ok}
use Rattle.nvm_audit.specs.RecordView.{RecordView}
use Rattle.nvm_file.specs.Reading.{record_at}

-- The bytes are a file of the record. They are of no other, since they read as one thing alone.
abbrev pub IsRecordFile : List ℕ → RecordView → Type 0
IsRecordFile bytes r = record_at bytes ≡ Ok r
