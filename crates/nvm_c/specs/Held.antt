-- What C holds by a handle: nothing, or the block of a sound engine with the right to free it.
use Rattle.std.specs.Prelude.{Option, Some, None}
use base.Fml.{Fml, ftrue, fex}
use denote.RawPtr.{Ptr}
use Rattle.std.specs.Box.Ownership.{box_owns}
use Rattle.std.specs.declared.alloc.Global.{Global}
use Rattle.std.specs.contracts.impls.GlobalAllocator.TheImpl.{ghosts}
use Rattle.nvm_c.specs.Engines.{IsSound}
use Rattle.nvm_c.specs.declared.engine.Engine.{Engine}
use Rattle.nvm_c.specs.contracts.engine.Engine.{the_row}

-- the C library's heap, which has no bytes
abbrev pub heap : Global
heap = record { memory = record { seal = tt } }

-- A sound engine lies at this address, in a block that may be given back to the heap.
abbrev pub engine_lies_at : Ptr → Engine → Fml
engine_lies_at at e = fex (IsSound e) (λ _. box_owns (ghosts.dealloc_token heap) the_row at e)

abbrev pub held_at : Ptr → Option Engine → Fml
held_at at None = ftrue
held_at at (Some e) = engine_lies_at at e
