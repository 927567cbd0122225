-- What a pass keeps of the last point that it has seen.
use Rattle.std.specs.Prelude.{◌≡◌, IfSome, length}
use Rattle.nvm_store.specs.Contents.{Contents, Holds, LiesAt}
use Rattle.nvm_store.specs.History.{replay_of}
use Rattle.nvm_unit.specs.declared.snapshot.Snapshot.{Snapshot}
use Rattle.nvm_unit.specs.Inside.Book.{Recorded}

-- The blocks are those to which the book's history leads.
abbrev pub IsVersionOf : Recorded → Contents → Type 0
IsVersionOf book u = LiesAt book.place u × Holds u (replay_of book.place.size book.history)

-- The snapshot has the book's number of entries, and the book's version, if it keeps one.
abbrev pub IsSnapshotOf : Snapshot → Recorded → Type 0
IsSnapshotOf snapshot book = (snapshot.entries ≡ length book.history) × IfSome snapshot.version (IsVersionOf book)
