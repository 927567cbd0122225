-- What a Read without a wait does to an engine.
use Rattle.std.specs.Prelude.{◌≡◌, ℕ, ◌+◌, List, [], Option, Some, None, Ok, Err, unwrap_or, false}
use Rattle.nvm_record.specs.declared.status.Status.{Status}
use Rattle.nvm_space.specs.Ports.{PortState}
use Rattle.nvm_space.specs.ReadNow.{ReadsNow}
use Rattle.nvm_space.specs.declared.read_now.ReadAnswer.{ReadAnswer}
use Rattle.nvm_space.specs.declared.read_now.ReadNow.TheVariants as found
use Rattle.nvm_c.specs.Engines.{namespace_of, space_of}
use Rattle.nvm_c.specs.Told.{overwritten}
use Rattle.nvm_c.specs.declared.code.Code.{Code}
use Rattle.nvm_c.specs.declared.code.Code.TheVariants.{Done, Pending, NotOpen, IsOpen, NoMemory, BadNamespace, BadPorts, BadLimit, BadLength, NoPair, Busy, Idle, Newer, OutOfRange, Crosses, NoVersions}
use Rattle.nvm_c.specs.declared.engine.Engine.{Engine}
use Rattle.nvm_c.specs.declared.engine.Pending.{Pending as PendingJob}
use Rattle.nvm_c.specs.declared.reading.ReadStatus.{ReadStatus}

-- the two places that a call may write: room for the blocks, and the status
pub record ReadBuffers : Type 0 where
  pub bytes : List ℕ
  pub status : ReadStatus

-- the engine with another state of its port
abbrev pub with_port : Engine → PortState → Engine
with_port e port =
    record {
      space = e.space;
      port = port;
      number = e.number;
      pending = e.pending;
      spare = e.spare;
      log = e.log;
    }

-- the status as C reads it
abbrev pub status_for_C : Status → ReadStatus
status_for_C s = record { sct = s.sct; sc = s.sc }

-- The port was asked, and answered so.
pub record IsAnswered (e e' : Engine) (slba blocks : ℕ) (old new : ReadBuffers) : Type 0 where
  pub read : ReadAnswer
  pub reads : ReadsNow (namespace_of e) slba blocks (Ok read) e.port e'.port
  pub status : new.status ≡ status_for_C read.status
  pub data_read : new.bytes ≡ overwritten (unwrap_or read.payload []) old.bytes

-- what a Read without a wait does
abbrev pub Reads : Code → Engine → Engine → ℕ → ℕ → ReadBuffers → ReadBuffers → Type 0
Reads Done e e' slba nlb old new = (e' ≡ with_port e e'.port) × IsAnswered e e' slba (nlb + 1) old new
Reads Newer e e' slba nlb old new = (e' ≡ with_port e e'.port) × (new ≡ old)
    × ((count : ℕ) × ReadsNow (namespace_of e) slba (nlb + 1) (Err (found.Newer count)) e.port e'.port)
Reads NoMemory e e' slba nlb old new = (e' ≡ with_port e e'.port) × (new ≡ old)
    × ((point : ℕ) × ReadsNow (namespace_of e) slba (nlb + 1) (Err (found.NoMemory point)) e.port e'.port)
Reads OutOfRange e e' slba nlb old new = (e' ≡ with_port e e'.port) × (new ≡ old)
    × ReadsNow (namespace_of e) slba (nlb + 1) (Err found.OutOfRange) e.port e'.port
Reads Crosses e e' slba nlb old new = (e' ≡ with_port e e'.port) × (new ≡ old)
    × ReadsNow (namespace_of e) slba (nlb + 1) (Err found.Crosses) e.port e'.port
Reads NoVersions e e' slba nlb old new = (e' ≡ e) × (new ≡ old) × ((space_of e).versions ≡ false)
Reads BadLength e e' slba nlb old new = (e' ≡ e) × (new ≡ old)
Reads Busy e e' slba nlb old new = (e' ≡ e) × (new ≡ old) × ((p : PendingJob) × (e.pending ≡ Some p))
Reads Pending e e' slba nlb old new = ⊥
Reads NotOpen e e' slba nlb old new = ⊥
Reads IsOpen e e' slba nlb old new = ⊥
Reads BadNamespace e e' slba nlb old new = ⊥
Reads BadPorts e e' slba nlb old new = ⊥
Reads BadLimit e e' slba nlb old new = ⊥
Reads NoPair e e' slba nlb old new = ⊥
Reads Idle e e' slba nlb old new = ⊥

-- the same at a handle, if it has an engine
abbrev pub ReadsAt : Code → Option Engine → Option Engine → ℕ → ℕ → ReadBuffers → ReadBuffers → Type 0
ReadsAt code None engine' slba nlb old new = (code ≡ NotOpen) × (engine' ≡ None) × (new ≡ old)
ReadsAt code (Some e) engine' slba nlb old new = (e' : Engine) × (engine' ≡ Some e') × Reads code e e' slba nlb old new
