-- An order's file, read from its front (docs/FORMATS.md, "Order").
use Rattle.std.specs.Prelude.{◌≡◌, ℕ, ◌==◌, List, length, if◌then◌else◌, Result, Ok}
use Rattle.nvm_standard.specs.declared.profile.Profile.{Profile}
use Rattle.nvm_standard.specs.OrderView.{ContentView, ValueView, FirstView, PlacedView, OrderView, zeroes, ones, bytes as these, mark, as_is, puts, seen_order}
use Rattle.nvm_file.specs.Fields.{◌>>=◌}
use Rattle.nvm_evidence.specs.declared.evidence_fault.EvidenceFault.{EvidenceFault}
use Rattle.nvm_evidence.specs.declared.evidence.HeldOrder.{HeldOrder}
use Rattle.nvm_evidence.specs.Fields.{bytes_at, counted_at, kind_at, made, number_at, whole}
use Rattle.nvm_evidence.specs.FrontReading.{front_at, of_order}

-- An order, and what the device was held to where it was found.
pub record HeldOrderView : Type 0 where
  pub profile : Profile
  pub order : OrderView

-- the same without where its bytes are lent from
abbrev pub seen_held_order : HeldOrder → HeldOrderView
seen_held_order held = record { profile = held.profile; order = seen_order held.order }

-- bytes: how many they are, and they
unfoldable pub these_at : ℕ → List ℕ → Result (ContentView × List ℕ) EvidenceFault
these_at total bytes = do
  count ← number_at total 8 bytes
  run ← bytes_at total count.0 count.1
  Ok (these run.0, run.1)

-- content of this kind, 1 to 4
abbrev pub content_at : ℕ → ℕ → List ℕ → Result (ContentView × List ℕ) EvidenceFault
content_at total kind bytes =
    if kind == 1 then Ok (zeroes, bytes) else
    if kind == 2 then Ok (ones, bytes) else
    if kind == 3 then these_at total bytes else Ok (mark, bytes)

-- what is put, of this kind, 0 to 4
abbrev pub value_at : ℕ → ℕ → List ℕ → Result (ValueView × List ℕ) EvidenceFault
value_at total kind bytes = if kind == 0 then Ok (as_is, bytes) else made puts (content_at total kind bytes)

-- what a block held at first
unfoldable pub first_at : ℕ → List ℕ → Result (FirstView × List ℕ) EvidenceFault
first_at total bytes = do
  block ← number_at total 4 bytes
  kind ← kind_at total 1 4 block.1
  content ← content_at total kind.0 kind.1
  Ok (record { block = block.0; content = content.0 }, content.1)

-- a position: a point, the blocks in which it is done there, and what is put
unfoldable pub placed_at : ℕ → List ℕ → Result (PlacedView × List ℕ) EvidenceFault
placed_at total bytes = do
  point ← number_at total 4 bytes
  first ← number_at total 4 point.1
  blocks ← number_at total 4 first.1
  kind ← kind_at total 0 4 blocks.1
  value ← value_at total kind.0 kind.1
  Ok (record { point = point.0; first = first.0; blocks = blocks.0; value = value.0 }, value.1)

-- what the bytes read as: their order, or the first fault that is met
unfoldable pub order_at : List ℕ → Result HeldOrderView EvidenceFault
order_at bytes = do
  front ← front_at of_order bytes
  first ← counted_at (length bytes) (first_at (length bytes)) front.1
  placed ← counted_at (length bytes) (placed_at (length bytes)) first.1
  whole (length bytes) (record { profile = front.0; order = record { first = first.0; placed = placed.0 } }) placed.1

-- The bytes are a file of the order. They are of no other, since they read as one thing alone.
abbrev pub IsOrderFile : List ℕ → HeldOrderView → Type 0
IsOrderFile bytes held = order_at bytes ≡ Ok held
