-- What C holds once a namespace was opened: at each place a port of one new space.
use Rattle.std.specs.Prelude.{◌≡◌, ◌⊎◌, ℕ, nat_eq, Bool, IsTrue, if◌then◌else◌, List, [], length, map, Option, Some, None, is_some, false}
use Rattle.std.specs.List.{list_any}
use Rattle.nvm_geometry.specs.Faults.{IsFirstGeometryFault}
use Rattle.nvm_geometry.specs.Large.{IsLarge}
use Rattle.nvm_geometry.specs.Namespace.{Namespace, namespace_of}
use Rattle.nvm_geometry.specs.declared.geometry_fault.GeometryFault.{GeometryFault}
use Rattle.nvm_store.specs.Limit.{IsLimit}
use Rattle.nvm_space.specs.Ports.{PortState, new_ports}
use Rattle.nvm_space.specs.Spaces.{SpaceName, IsLaidOut, IsPortCount, most_entries}
use Rattle.nvm_c.specs.Engines.{EngineState, state_of}
use Rattle.nvm_c.specs.Logs.{LogState}
use Rattle.nvm_c.specs.declared.code.Code.{Code}
use Rattle.nvm_c.specs.declared.code.Code.TheVariants.{Done, Pending, NotOpen, IsOpen, NoMemory, BadNamespace, BadPorts, BadLimit, BadLength, NoPair, Busy, Idle, Newer, OutOfRange, Crosses, NoVersions}
use Rattle.nvm_c.specs.declared.engine.Engine.{Engine}
use Rattle.nvm_c.specs.declared.handle.Handle.{Handle}
use Rattle.nvm_c.specs.declared.opening.Asked.{Asked}
use Rattle.nvm_c.specs.declared.opening.Asked.TheVariants.{Recorded, Unrecorded}
use Rattle.nvm_c.specs.declared.opening.Numbers.{Numbers}

-- the namespace of the numbers that C wrote
abbrev pub numbers_of : Numbers → Namespace
numbers_of n = namespace_of n.nsze n.block_size n.nabsn n.nabo n.nawun n.nacwu

-- what is held at each place
abbrev pub engines_of : List Handle → List (Option Engine)
engines_of ports = map (λ h. h.held.engine) ports

-- whether a port is open
abbrev pub is_open : Handle → Bool
is_open h = is_some h.held.engine

-- what is kept where nothing was done yet
abbrev pub new_log : Bool → Option LogState
new_log recorded = if recorded then Some (record { jobs = []; done = []; full = false }) else None

-- the limit that C wrote: 0 is none, and then nothing is recorded
abbrev pub limit_of : ℕ → Option ℕ
limit_of limit = if nat_eq limit 0 then None else Some limit

-- what is asked for
abbrev pub namespace_asked : Asked → Namespace
namespace_asked (Recorded geometry limit) = geometry
namespace_asked (Unrecorded geometry) = geometry

abbrev pub limit_asked : Asked → Option ℕ
limit_asked (Recorded geometry limit) = Some limit
limit_asked (Unrecorded geometry) = None

-- The numbers are no namespace's: with a limit none that a record can be of, and without one none of any size.
abbrev pub AreNoNamespace : Option ℕ → Namespace → Type 0
AreNoNamespace None ns = ¬ (IsLarge ns)
AreNoNamespace (Some limit) ns = (fault : GeometryFault) × IsFirstGeometryFault ns fault

-- It is 0, which is none, or the limit of a record.
abbrev pub IsNoneOrLimit : ℕ → Type 0
IsNoneOrLimit limit = (limit ≡ 0) ⊎ IsLimit limit

-- an engine by which nothing was done yet, of this port of the space
abbrev pub new_engine : SpaceName → PortState → EngineState
new_engine s port = record { space = s; port = port; number = 0; pending = None; log = new_log s.lists }

-- A new space of this namespace, and these are the engines of its ports, in their order. With a limit they are recorded.
pub record NewPorts (ns : Namespace) (limit : Option ℕ) (versions : Bool) (count : ℕ) (engines : List EngineState) : Type 0 where
  pub space : SpaceName
  pub namespace : space.namespace ≡ ns
  pub limited : space.limit ≡ most_entries limit
  pub listed : space.lists ≡ is_some limit
  pub kept : space.versions ≡ versions
  pub ports : space.ports ≡ count
  pub laid_out : IsLaidOut space
  pub all : engines ≡ map (new_engine space) (new_ports space)

-- The engines of a new space's ports are held, each at the place of its port's number.
pub record IsOpened (ns : Namespace) (limit : Option ℕ) (versions : Bool) (held : List (Option Engine)) : Type 0 where
  pub engines : List Engine
  pub hold : held ≡ map (λ e. Some e) engines
  pub new : NewPorts ns limit versions (length held) (map state_of engines)

-- What was opened, or why nothing was. Where it's refused, the ports are as they were.
abbrev pub Opens : Code → Namespace → ℕ → Bool → List Handle → List Handle → Type 0
Opens Done ns limit versions old new = IsOpened ns (limit_of limit) versions (engines_of new) × (list_any is_open old ≡ false) × IsNoneOrLimit limit
Opens IsOpen ns limit versions old new = (new ≡ old) × IsTrue (list_any is_open old)
Opens BadPorts ns limit versions old new = (new ≡ old) × ¬ (IsPortCount (length old))
Opens BadNamespace ns limit versions old new = (new ≡ old) × AreNoNamespace (limit_of limit) ns
Opens BadLimit ns limit versions old new = (new ≡ old) × ¬ (IsNoneOrLimit limit)
Opens NoMemory ns limit versions old new = new ≡ old
Opens Pending ns limit versions old new = ⊥
Opens NotOpen ns limit versions old new = ⊥
Opens BadLength ns limit versions old new = ⊥
Opens NoPair ns limit versions old new = ⊥
Opens Busy ns limit versions old new = ⊥
Opens Idle ns limit versions old new = ⊥
Opens Newer ns limit versions old new = ⊥
Opens OutOfRange ns limit versions old new = ⊥
Opens Crosses ns limit versions old new = ⊥
Opens NoVersions ns limit versions old new = ⊥
