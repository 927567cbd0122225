-- Data that is as long as a Read's blocks.
use Rattle.std.proofs.Common.{◌≡◌, ℕ, ◌*◌, Bool, true, false, cond, List, length, Option, Some, None, refl, sym}
use Rattle.std.proofs.lemmas.Option.{same_Some}
use Rattle.nvm_record.specs.Deeds.{is_read}
use Rattle.nvm_record.specs.Step.{Operation}
use Rattle.nvm_geometry.specs.Namespace.{Namespace}
use Rattle.nvm_plan.specs.declared.job.Job.{Job}
use Rattle.nvm_plan.specs.JobPart.{ready_operation}
use Rattle.nvm_audit.specs.Recordable.{IsLongAsRead}
use Rattle.nvm_file.specs.DoneReading.{answer_length, read_length}

-- Who is answered so many bytes is a Read of so many.
read_by : (ns : Namespace) (job : Job) (o : Option Operation) (bytes : List ℕ) → ready_operation ns job ≡ o
    → read_length ns.block_size o ≡ Some (length bytes) → IsLongAsRead ns job bytes
read_by ns job None bytes ready e = absurd cc
read_by ns job (Some op) bytes ready e = by (is_read op.deed) refl e
  where
    by : (b : Bool) → is_read op.deed ≡ b → cond b (Some (op.blocks * ns.block_size)) None ≡ Some (length bytes) → IsLongAsRead ns job bytes
    by true t h = record { op = op; ready = ready; read = t; whole = sym (same_Some (op.blocks * ns.block_size) (length bytes) h) }
    by false t h = absurd cc

pub long_as_read : (ns : Namespace) (job : Job) (bytes : List ℕ) → answer_length ns job ≡ Some (length bytes) → IsLongAsRead ns job bytes
unfolding answer_length
long_as_read ns job bytes e = read_by ns job (ready_operation ns job) bytes refl e
