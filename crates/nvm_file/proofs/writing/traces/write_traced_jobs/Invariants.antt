use Rattle.std.proofs.Common.{◌++◌, All, length, take}
use Rattle.std.specs.Io.KnownBytes.{Appends}
use Rattle.std.specs.List.{flat_map}
use Rattle.byteorder.specs.Endian.{little_bytes}
use Rattle.nvm_file.specs.TraceFits.{TracedJobFits}
use Rattle.nvm_file.specs.TraceSpelling.{traced_bytes}
use Rattle.nvm_file.proofs.writing.traces.write_traced_jobs.Given as goal

abbrev pub invariant-loop-job : goal.invariant-loop-job
invariant-loop-job g l =
    record {
      written : Appends (g.W.Write.contents l.fn.writer) (g.W.Write.contents l.writer)
          (little_bytes 4 (length l.jobs) ++ flat_map traced_bytes (take l.job-index l.jobs));
      fit : All TracedJobFits (take l.job-index l.jobs);
    }
