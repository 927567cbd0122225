-- How a file of evidence begins: its name, its kind, and what the device was held to (docs/FORMATS.md, "Evidence").
use Rattle.std.specs.Prelude.{ℕ, ◌==◌, List, [], ◌∷◌, length, take, drop, Bool, if◌then◌else◌, Result, Ok, Err}
use Rattle.std.specs.Str.{bytes_eq}
use Rattle.nvm_trace.specs.declared.deallocated.Deallocated.{Deallocated}
use Rattle.nvm_trace.specs.declared.deallocated.Deallocated.TheVariants.{Zeroes, Ones, Either}
use Rattle.nvm_standard.specs.declared.profile.Held.{Held}
use Rattle.nvm_standard.specs.declared.profile.Held.TheVariants.{Atomic, AtomicAll, Whole, ByBlocks}
use Rattle.nvm_standard.specs.declared.profile.Profile.{Profile}
use Rattle.nvm_file.specs.Fields.{◌>>=◌}
use Rattle.nvm_evidence.specs.declared.evidence_fault.EvidenceFault.{EvidenceFault}
use Rattle.nvm_evidence.specs.declared.evidence_fault.EvidenceFault.TheVariants.{BadName}
use Rattle.nvm_evidence.specs.Fields.{kind_at}

-- `NVE1`, with which each file of evidence begins
abbrev pub evidence_name : List ℕ
evidence_name = 78 ∷ 86 ∷ 69 ∷ 49 ∷ []

-- the kinds of evidence: an order, and a contradiction
abbrev pub of_order : ℕ
of_order = 1

abbrev pub of_contradiction : ℕ
of_contradiction = 2

-- whether the bytes begin with it
abbrev pub is_evidence : List ℕ → Bool
is_evidence bytes = bytes_eq (take 4 bytes) evidence_name

-- what Reads are held to, by its code
abbrev pub held_of : ℕ → Held
held_of code =
    if code == 0 then Atomic else
    if code == 1 then AtomicAll else
    if code == 2 then Whole else ByBlocks

-- what a deallocated block may read as, by its code
abbrev pub deallocated_of : ℕ → Deallocated
deallocated_of code =
    if code == 0 then Zeroes else
    if code == 1 then Ones else Either

-- the front of a file of a kind of evidence from `low` to `high`: its kind, and what stands behind it
unfoldable pub evidence_kind_at : ℕ → ℕ → List ℕ → Result (ℕ × List ℕ) EvidenceFault
evidence_kind_at low high bytes =
    if is_evidence bytes then kind_at (length bytes) low high (drop 4 bytes) else Err BadName

-- what the device was held to
unfoldable pub profile_at : ℕ → List ℕ → Result (Profile × List ℕ) EvidenceFault
profile_at total bytes = do
  held ← kind_at total 0 3 bytes
  deallocated ← kind_at total 0 2 held.1
  Ok (record { held = held_of held.0; deallocated = deallocated_of deallocated.0 }, deallocated.1)

-- the front of a file of this kind of evidence
unfoldable pub front_at : ℕ → List ℕ → Result (Profile × List ℕ) EvidenceFault
front_at kind bytes = do
  behind ← evidence_kind_at kind kind bytes
  profile_at (length bytes) behind.1
