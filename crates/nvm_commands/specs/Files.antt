-- Why a file wasn't read, or not written.
use Rattle.std.specs.Prelude.{◌≡◌, ◌⊎◌, ℕ, String, List, string_bytes}
use Rattle.std.specs.Global.{Global}
use Rattle.nvm_listing.specs.Expectations.{without_expectations}
use Rattle.nvm_commands.specs.Expecting.{IsExpectationFault}
use Rattle.nvm_commands.specs.Fault.{IsFaultOfList, IsFaultOfText}
use Rattle.nvm_commands.specs.Listed.{IsListFault}
use Rattle.nvm_commands.specs.Paths.{IsOfOne}
use Rattle.nvm_commands.specs.declared.fault.Fault.{Fault}
use Rattle.nvm_commands.specs.declared.fault.Fault.TheVariants.{CannotRead, CannotWrite, NoMemory}

-- The file at this path couldn't be read, or memory was refused.
abbrev pub IsReadFault : List ℕ → Fault → Type 0
IsReadFault path (CannotRead shown) = string_bytes shown ≡ path
IsReadFault path NoMemory = Unit {0}
IsReadFault path fault = ⊥

-- It is the fault of the file at one of these paths, or memory was refused.
abbrev pub IsReadingFault : List (List ℕ) → Fault → Type 0
IsReadingFault paths fault = (fault ≡ NoMemory) ⊎ IsOfOne IsReadFault paths fault

-- The file at this path couldn't be written, or memory was refused.
abbrev pub IsWriteFault : List ℕ → Fault → Type 0
IsWriteFault path (CannotWrite shown) = string_bytes shown ≡ path
IsWriteFault path NoMemory = Unit {0}
IsWriteFault path fault = ⊥

-- A file at one of these paths couldn't be written, or memory was refused.
abbrev pub IsWritingFault : List (List ℕ) → Fault → Type 0
IsWritingFault paths fault = (fault ≡ NoMemory) ⊎ IsOfOne IsWriteFault paths fault

-- The list at this path couldn't be read, or else it is its first wrong expectation, or else the first fault of a list, or else the
-- host file couldn't be written to `out`.
abbrev pub IsAssemblingFault : ℕ → List ℕ → List ℕ → Fault → Type 0
IsAssemblingFault size list out fault =
    IsReadFault list fault
    ⊎ (((text : List ℕ) × IsExpectationFault list text fault)
    ⊎ (((text : List ℕ) × IsFaultOfList size (without_expectations text) fault) ⊎ IsWriteFault out fault))

-- The text at this path couldn't be read, or else it is its first fault, or else its trace's file couldn't be written to `out`.
abbrev pub IsTracingFault : List ℕ → List ℕ → Fault → Type 0
IsTracingFault text out fault =
    IsReadFault text fault ⊎ (((bytes : List ℕ) × IsFaultOfText bytes fault) ⊎ IsWriteFault out fault)

-- It is the fault of the file at this path, as what it begins as.
abbrev pub IsListedFault : ℕ → List ℕ → Fault → Type 0
IsListedFault size path fault = (shown : String Global) × (string_bytes shown ≡ path) × ((file : List ℕ) × IsListFault shown size file fault)

-- The file at this path couldn't be read, or else it is its first fault.
abbrev pub IsListingFault : ℕ → List ℕ → Fault → Type 0
IsListingFault size path fault = IsReadFault path fault ⊎ IsListedFault size path fault
