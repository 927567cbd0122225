-- A Read that a port has answered without a wait, or is given the reason why it isn't (own).
use Rattle.std.specs.Prelude.{◌≡◌, ℕ, ◌+◌, ◌<◌, ◌≤◌, List, map, Ok, Err, Result}
use Rattle.nvm_record.specs.Lists.{IsAt}
use Rattle.nvm_record.specs.Status.{successful_completion}
use Rattle.nvm_record.specs.Step.{Operation}
use Rattle.nvm_record.specs.declared.status.Status.{Status}
use Rattle.nvm_geometry.specs.Boundaries.{Crosses, unit_number}
use Rattle.nvm_geometry.specs.Large.{regions_of}
use Rattle.nvm_geometry.specs.Limits.{LiesInUnit}
use Rattle.nvm_geometry.specs.Namespace.{Namespace}
use Rattle.nvm_store.specs.Answer.{read_by}
use Rattle.nvm_store.specs.Operation.{read_operation}
use Rattle.nvm_store.specs.declared.look.answer.Answer.{Answer}
use Rattle.nvm_store.specs.declared.look.answer.Answer.TheVariants as seen
use Rattle.nvm_unit.specs.Ends.{views_of}
use Rattle.nvm_unit.specs.Passes.{PassState}
use Rattle.nvm_unit.specs.Replies.{Looks}
use Rattle.nvm_unit.specs.declared.replies.LookFault.{LookFault}
use Rattle.nvm_unit.specs.declared.replies.LookFault.TheVariants as look
use Rattle.nvm_unit.specs.declared.replies.Observed.{Observed}
use Rattle.nvm_space.specs.Ports.{PortState}
use Rattle.nvm_space.specs.Visits.{BecomesAt}
use Rattle.nvm_space.specs.declared.read_now.ReadAnswer.{ReadAnswer}
use Rattle.nvm_space.specs.declared.read_now.ReadNow.{ReadNow}
use Rattle.nvm_space.specs.declared.read_now.ReadNow.TheVariants.{OutOfRange, Crosses as CrossesBoundary, Newer, NoMemory}

-- the status of a Read that saw this
abbrev pub read_status : Answer → Status
read_status (seen.Payload bytes) = successful_completion
read_status (seen.Status status) = status

-- what is reported about a look at a Read's blocks
abbrev pub read_answer : Observed → ReadAnswer
read_answer observed =
    record { point = observed.point; status = read_status observed.answer; payload = read_by observed.answer }

-- Among the passes that of the region looked, and its look was answered so. The others have seen what they had, and each one
-- that kept a version keeps it.
pub record LooksIn (region : ℕ) (op : Operation) (answer : Result Observed LookFault) (old new : List PassState) : Type 0 where
  pub pass : PassState
  pub its : IsAt old region pass
  pub becomes : BecomesAt region (λ p q. Looks answer pass.keeps p op q) (views_of old) (views_of new)
  pub kept : map (λ p. p.keeps) new ≡ map (λ p. p.keeps) old

-- A look at the range can be made, since it lies in the namespace and in one unit, and was made there.
pub record LooksAtRange (ns : Namespace) (slba blocks : ℕ) (answer : Result Observed LookFault) (old new : PortState) : Type 0 where
  pub in_range : slba + blocks ≤ ns.nsze
  pub one_unit : LiesInUnit ns slba blocks
  pub looks : LooksIn (unit_number (regions_of ns) slba) (read_operation slba blocks) answer old.passes new.passes

-- What `read_now` answers, and the port after it.
abbrev pub ReadsNow : Namespace → ℕ → ℕ → Result ReadAnswer ReadNow → PortState → PortState → Type 0
ReadsNow ns slba blocks (Ok read) old new =
    (observed : Observed) × (read ≡ read_answer observed) × LooksAtRange ns slba blocks (Ok observed) old new
ReadsNow ns slba blocks (Err (Newer count)) old new = LooksAtRange ns slba blocks (Err (look.Newer count)) old new
ReadsNow ns slba blocks (Err (NoMemory point)) old new = LooksAtRange ns slba blocks (Err (look.NoMemory point)) old new
ReadsNow ns slba blocks (Err OutOfRange) old new = (new ≡ old) × (ns.nsze < slba + blocks)
ReadsNow ns slba blocks (Err CrossesBoundary) old new =
    (new ≡ old) × (slba + blocks ≤ ns.nsze) × Crosses ns slba blocks
