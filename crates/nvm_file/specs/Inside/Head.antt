-- The numbers before the jobs, as the code holds them.
use Rattle.std.specs.Prelude.{ℕ}
use Rattle.nvm_geometry.specs.Namespace.{Namespace, namespace_of}
use Rattle.nvm_audit.specs.declared.version.Version.TheVariants.{Two}
use Rattle.nvm_file.specs.declared.frame.Frame.{Frame}
use Rattle.nvm_file.specs.declared.head.Head.{Head}
use Rattle.nvm_file.specs.declared.head.Numbers.{Numbers}
use Rattle.nvm_file.specs.declared.trace_frame.TraceFrame.{TraceFrame}
use Rattle.nvm_file.specs.declared.trace_head.TraceHead.{TraceHead}
use Rattle.nvm_file.specs.HeadReading.{frame_with}

-- the namespace of these numbers
abbrev pub namespace_with : Numbers → Namespace
namespace_with n = namespace_of n.nsze n.block_size n.nabsn n.nabo n.nawun n.nacwu

-- what the head of a file of `total` bytes says of all that follows
abbrev pub frame_by : ℕ → Head → Frame
frame_by total head = frame_with total head.version (namespace_with head.numbers) head.limit head.workers head.jobs

-- the same of a trace's file
abbrev pub trace_frame_by : ℕ → TraceHead → TraceFrame
trace_frame_by total head =
    record {
      scope = record { total = total; version = Two; geometry = namespace_with head.numbers };
      first = head.first;
      start = head.start;
      reads = head.reads;
      deallocated = head.deallocated;
      jobs = head.jobs;
    }
