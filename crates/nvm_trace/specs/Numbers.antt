-- The numbers of an explained trace (own).
use Rattle.std.specs.Prelude.{◌≡◌, ◌+◌, length, not, count_by}
use Rattle.nvm_audit.specs.RecordView.{RecordView}
use Rattle.nvm_trace.specs.declared.explained.Explained.{Explained}
use Rattle.nvm_trace.specs.declared.judging.Judging.{Judging}
use Rattle.nvm_trace.specs.Pieces.{pieces, wholes}
use Rattle.nvm_trace.specs.Saying.{says_what_was_done}
use Rattle.nvm_trace.specs.Steps.{steps_of}
use Rattle.nvm_trace.specs.TraceView.{TraceView}

-- They are the numbers of the trace and the record. A reply is excused that doesn't say what was done.
pub record HasNumbers (judging : Judging) (t : TraceView) (r : RecordView) (e : Explained) : Type 0 where
  pub jobs : e.jobs ≡ length t.jobs
  pub units : e.units ≡ length r.units
  pub steps : e.steps ≡ length (steps_of (wholes judging t) r.done)
  pub excused : e.excused ≡ count_by (λ j. not (says_what_was_done t.namespace j)) t.jobs
  pub preparations : length (pieces judging t) + e.preparations ≡ length r.jobs
