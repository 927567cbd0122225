-- The host file: its name, then each command of one host with its data.
use Rattle.std.specs.Prelude.{◌≡◌, ◌≢◌, ◌⊎◌, ℕ, ◌+◌, ◌<◌, ◌≤◌, List, [], ◌∷◌, ◌++◌, length, take, drop}
use Rattle.std.specs.List.{flat_map}
use Rattle.nvm_record.specs.Entry.{BeginsWith, called_for, spelling_of}
use Rattle.nvm_record.specs.declared.command.Command.{Command}
use Rattle.nvm_record.specs.declared.host_fault.HostFault.{HostFault}
use Rattle.nvm_record.specs.declared.host_fault.HostFault.TheVariants.{BadName, Truncated, TooMany, NoMemory}

-- `NVQ1`
abbrev pub file_name : List ℕ
file_name = 78 ∷ 86 ∷ 81 ∷ 49 ∷ []

-- the most commands of a file
abbrev pub most_commands : ℕ
most_commands = 65536

-- The bytes are spellings of the commands, one after the other, and then the rest.
abbrev pub BeginsWithAll : ℕ → List ℕ → List Command → List ℕ → Type 0
BeginsWithAll size bytes [] rest = bytes ≡ rest
BeginsWithAll size bytes (c ∷ cs) rest = (after : List ℕ) × BeginsWith size bytes c after × BeginsWithAll size after cs rest

-- The whole file is the name and the commands.
pub record IsHostFile (size : ℕ) (bytes : List ℕ) (cs : List Command) : Type 0 where
  pub name : take 4 bytes ≡ file_name
  pub commands : BeginsWithAll size (drop 4 bytes) cs []
  pub few : length cs ≤ most_commands

-- the file of the commands in which every unnamed bit is 0
abbrev pub file_of : List Command → List ℕ
file_of cs = file_name ++ flat_map spelling_of cs

-- Bytes are left, and either there is no whole entry among them, or there is one and the data that it
-- calls for isn't whole. What isn't whole begins `inside` bytes past the front of what is left.
abbrev pub IsCut : ℕ → List ℕ → ℕ → Type 0
IsCut size rest inside =
    ((0 < length rest) × (length rest < 64) × (inside ≡ 0))
    ⊎ ((64 ≤ length rest) × (length rest < 64 + called_for size (take 64 rest)) × (inside ≡ 64))

-- After these whole commands, something at offset `offset` of the file isn't whole.
pub record IsTruncated (size : ℕ) (bytes : List ℕ) (offset : ℕ) (cs : List Command) (rest : List ℕ) (inside : ℕ) : Type 0 where
  pub name : take 4 bytes ≡ file_name
  pub commands : BeginsWithAll size (drop 4 bytes) cs rest
  pub few : length cs < most_commands
  pub cut : IsCut size rest inside
  pub place : offset + length rest ≡ length bytes + inside

-- Bytes are left after as many commands as a file may have.
pub record HasTooMany (size : ℕ) (bytes : List ℕ) (cs : List Command) (rest : List ℕ) : Type 0 where
  pub name : take 4 bytes ≡ file_name
  pub commands : BeginsWithAll size (drop 4 bytes) cs rest
  pub many : length cs ≡ most_commands
  pub left : 0 < length rest

-- The first fault of the bytes, from the front. Memory isn't a fault of the bytes.
abbrev pub IsHostFileFault : ℕ → List ℕ → HostFault → Type 0
IsHostFileFault size bytes BadName = take 4 bytes ≢ file_name
IsHostFileFault size bytes (Truncated offset) =
    (cs : List Command) × (rest : List ℕ) × (inside : ℕ) × IsTruncated size bytes offset cs rest inside
IsHostFileFault size bytes TooMany = (cs : List Command) × (rest : List ℕ) × HasTooMany size bytes cs rest
IsHostFileFault size bytes NoMemory = ⊥

-- What reading the command at the front of `rest`, at `offset` of the file, may answer in place of it.
abbrev pub IsCutFault : ℕ → List ℕ → ℕ → HostFault → Type 0
IsCutFault size rest offset BadName = ⊥
IsCutFault size rest offset (Truncated place) = (inside : ℕ) × IsCut size rest inside × (place ≡ offset + inside)
IsCutFault size rest offset TooMany = ⊥
IsCutFault size rest offset NoMemory = Unit {0}

-- What is answered in place of the commands: the file's fault, or want of memory.
abbrev pub IsAnsweredFault : ℕ → List ℕ → HostFault → Type 0
IsAnsweredFault size bytes f = IsHostFileFault size bytes f ⊎ (f ≡ NoMemory)
