-- The calls that a job makes: its replies that rest on a point without an entry there (own). A part that was done has
-- an entry; one that found no memory or a full history has neither.
use Rattle.std.specs.Prelude.{ℕ, Option, Some, None}
use Rattle.nvm_record.specs.Step.{Operation}
use Rattle.nvm_store.specs.Call.{Call}
use Rattle.nvm_plan.specs.declared.part.PartResult.{PartResult}
use Rattle.nvm_plan.specs.declared.part.PartResult.TheVariants.{Done, Failed, Looked, NoMemory, Full}
use Rattle.nvm_plan.specs.Reply.{Reply}

-- what the pass did for the job at the reply's point
abbrev pub resting_call : ℕ → ℕ → Operation → Reply → Call
resting_call pass job part reply =
    record {
      pass = pass;
      job = job;
      point = reply.part.point;
      operation = part;
      told = reply.statuses;
      read = reply.payload;
    }

-- the call of a part that ended so, if it is one
abbrev pub call_by_result : PartResult → Call → Option Call
call_by_result Done call = None
call_by_result Failed call = Some call
call_by_result Looked call = Some call
call_by_result NoMemory call = None
call_by_result Full call = None

-- the call that the pass made with the part to which this is the reply, if it is one
abbrev pub call_of : ℕ → ℕ → Operation → Reply → Option Call
call_of pass job part reply = call_by_result reply.part.result (resting_call pass job part reply)
