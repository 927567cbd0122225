-- What the device of a trace is held to where nobody asks for more: what the trace's head says that it promises.
use Rattle.nvm_standard.specs.declared.profile.Held.{Held}
use Rattle.nvm_standard.specs.declared.profile.Held.TheVariants as of
use Rattle.nvm_standard.specs.declared.profile.Profile.{Profile}
use Rattle.nvm_trace.specs.TraceView.{TraceView}
use Rattle.nvm_trace.specs.declared.reads.Reads.{Reads}
use Rattle.nvm_trace.specs.declared.reads.Reads.TheVariants.{Atomic, Whole, ByBlocks}

-- A head that says `whole` is held as one that says `atomic`: recorders have written that of any device.
abbrev pub head_held : Reads → Held
head_held Atomic = of.Atomic
head_held Whole = of.Atomic
head_held ByBlocks = of.ByBlocks

abbrev pub head_profile : TraceView → Profile
head_profile t = record { held = head_held t.reads; deallocated = t.deallocated }
