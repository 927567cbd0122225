-- When what a record shows of a piece of a traced job is what its host saw (own).
use Rattle.std.specs.Prelude.{◌≡◌, ◌≢◌, IsTrue, IfSome}
use Rattle.std.specs.List.{All}
use Rattle.nvm_geometry.specs.Namespace.{Namespace}
use Rattle.nvm_plan.specs.declared.part.PartResult.TheVariants.{Done}
use Rattle.nvm_audit.specs.RecordedJob.{RecordedJob}
use Rattle.nvm_trace.specs.declared.traced_job.Ending.{Ending}
use Rattle.nvm_trace.specs.Pieces.{Piece, data_at}
use Rattle.nvm_trace.specs.Saying.{says_what_was_done, says_nothing_was_written}

-- The statuses are those of the reply, and the data is the piece's of it. A command that is cut succeeded in each piece.
pub record HasReply (ns : Namespace) (p : Piece) (d : RecordedJob) (e : Ending) : Type 0 where
  pub statuses : d.statuses ≡ e.statuses
  pub payload : d.payload ≡ data_at ns.block_size p.cut e.payload

-- Where the reply says what was done, it is what was recorded. Where it says that nothing was written, no entry was made.
-- Otherwise anything may be recorded.
pub record AgreesWith (ns : Namespace) (p : Piece) (d : RecordedJob) : Type 0 where
  pub reply : IsTrue (says_what_was_done ns p.whole) → IfSome p.whole.ended (HasReply ns p d)
  pub nothing : IsTrue (says_nothing_was_written p.whole) → All (λ part. part.result ≢ Done) d.parts
