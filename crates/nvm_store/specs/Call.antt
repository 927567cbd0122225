-- A call that rests on a point of a unit's history without an entry there: a look, or a fused pair that fails (own). One
-- that was answered for want of memory, or at a full history, is nowhere.
use Rattle.std.specs.Prelude.{◌⊎◌, ℕ, List, Option}
use Rattle.nvm_record.specs.Deeds.{IsLook, IsFailedPair}
use Rattle.nvm_record.specs.Step.{Operation}
use Rattle.nvm_record.specs.declared.status.Statuses.{Statuses}
use Rattle.nvm_store.specs.declared.place.Place.{Place}
use Rattle.nvm_store.specs.HistoryEntry.{HistoryEntry}
use Rattle.nvm_store.specs.Place.{IsCovered}
use Rattle.nvm_store.specs.Point.{point, RestsOn}

-- The numbers of the pass and of the job, the point of the unit's history that the answer rests on, what was done, and
-- what was answered and read.
pub record Call : Type 0 where
  pub pass : ℕ
  pub job : ℕ
  pub point : ℕ
  pub operation : Operation
  pub told : Statuses
  pub read : Option (List ℕ)

-- The call lies in the place, and rests on its point of the history: a look, or a pair that fails there.
pub record IsCallOn (place : Place) (history : List HistoryEntry) (call : Call) : Type 0 where
  pub covered : IsCovered place call.operation
  pub rests : RestsOn place.size history call.point call.operation call.told call.read
  pub leaves : IsLook call.operation.deed ⊎ IsFailedPair call.operation (point place.size history call.point)
