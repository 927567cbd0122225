-- What contracts see of points: bytes in place of where they are lent from (own).
use Rattle.std.specs.Prelude.{ℕ, Bool, List, Option, map}
use Rattle.nvm_trace.specs.declared.start.Start.{Start}
use Rattle.nvm_standard.specs.declared.point.Found.{Found}
use Rattle.nvm_standard.specs.declared.point.Found.TheVariants.{Nothing as NothingFound, Bytes as BytesFound, AnyBytes as AnyBytesFound, OtherThan as OtherThanFound}
use Rattle.nvm_standard.specs.declared.point.Point.{Point}
use Rattle.nvm_standard.specs.declared.point.Presence.{Presence}
use Rattle.nvm_standard.specs.declared.point.Put.{Put}
use Rattle.nvm_standard.specs.declared.point.Put.TheVariants.{Nothing as NothingPut, Bytes as BytesPut, Zeroes as ZeroesPut, Mark as MarkPut, Deallocated as DeallocatedPut, Anything as AnythingPut}
use Rattle.nvm_standard.specs.declared.points.Points.{Points}
use Rattle.nvm_trace.specs.declared.deallocated.Deallocated.{Deallocated as DeallocatedValue}

-- what a point finds in its blocks
pub data FoundView : Type 0 where
  nothing : FoundView
  -- these bytes, in all blocks
  bytes : List ℕ → FoundView
  any_bytes : FoundView
  -- in each block bytes other than these
  other_than : List ℕ → FoundView

-- what a point puts in its blocks
pub data PutView : Type 0 where
  leaves : PutView
  -- these bytes, in all blocks
  puts : List ℕ → PutView
  zeroes : PutView
  mark : PutView
  deallocates : PutView
  anything : PutView

-- A point, as the code's type of this name has it.
pub record PointView : Type 0 where
  pub command : ℕ
  pub first : ℕ
  pub blocks : ℕ
  pub each : Bool
  pub found : FoundView
  pub put : PutView
  pub presence : Presence
  pub after : Bool
  pub tied : Bool
  pub from : ℕ
  pub until : Option ℕ
  pub over : Option ℕ

-- The points of a trace, with what an explanation has to know of its head and of the profile.
pub record TableView : Type 0 where
  pub nsze : ℕ
  pub block_size : ℕ
  pub start : Start
  pub deallocated : DeallocatedValue
  pub points : List PointView

abbrev pub seen_found : Found → FoundView
seen_found NothingFound = nothing
seen_found (BytesFound b) = bytes b.now
seen_found AnyBytesFound = any_bytes
seen_found (OtherThanFound b) = other_than b.now

abbrev pub seen_put : Put → PutView
seen_put NothingPut = leaves
seen_put (BytesPut b) = puts b.now
seen_put ZeroesPut = zeroes
seen_put MarkPut = mark
seen_put DeallocatedPut = deallocates
seen_put AnythingPut = anything

abbrev pub seen : Point → PointView
seen p =
    record {
      command = p.command;
      first = p.first;
      blocks = p.blocks;
      each = p.each;
      found = seen_found p.found;
      put = seen_put p.put;
      presence = p.presence;
      after = p.after;
      tied = p.tied;
      from = p.from;
      until = p.until;
      over = p.over;
    }

abbrev pub seen_table : Points → TableView
seen_table t =
    record {
      nsze = t.nsze;
      block_size = t.block_size;
      start = t.start;
      deallocated = t.deallocated;
      points = map seen t.points.items;
    }
