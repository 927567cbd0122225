-- What contracts see of a record's fields: lists without the room that they have.
use Rattle.std.specs.Prelude.{map}
use Rattle.nvm_audit.specs.declared.record.Record.TheInside.{Inside}
use Rattle.nvm_audit.specs.Recordable.{IsRecordable}
use Rattle.nvm_audit.specs.RecordView.{RecordView}

abbrev pub shown_by : Inside → RecordView
shown_by r =
    record {
      version = r.version;
      namespace = r.geometry;
      limit = r.limit;
      workers = r.workers;
      jobs = r.jobs.items;
      units = map (λ history. history.items) r.units.items;
      done = map (λ work. work.items) r.done.items;
    }

-- A record file can hold it.
abbrev pub IsRecordableAs : Inside → Type 0
IsRecordableAs r = IsRecordable (shown_by r)
