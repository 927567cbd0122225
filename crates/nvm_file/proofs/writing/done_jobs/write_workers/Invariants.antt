use Rattle.std.proofs.Common.{All, map, take}
use Rattle.std.specs.Io.KnownBytes.{Appends}
use Rattle.std.specs.List.{flat_map}
use Rattle.nvm_file.specs.Fits.{DoneFits}
use Rattle.nvm_file.specs.WorkSpelling.{work_bytes}
use Rattle.nvm_file.proofs.writing.done_jobs.write_workers.Given as goal

abbrev pub invariant-loop-work : goal.invariant-loop-work
invariant-loop-work g l =
    record {
      written : Appends (g.W.Write.contents l.fn.writer) (g.W.Write.contents l.writer)
          (flat_map work_bytes (take l.work-index (map (λ work. work.items) l.workers)));
      fit : All (λ work. All DoneFits work.items) (take l.work-index l.workers);
    }
