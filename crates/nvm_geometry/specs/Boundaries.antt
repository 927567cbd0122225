-- Boundaries and atomic units: NVM Command Set Specification, "Atomic Boundaries". Nothing is
-- divided here.
use Rattle.std.specs.Prelude.{◌≡◌, ◌≢◌, ◌==◌, ℕ, zero, suc, ◌+◌, ◌*◌, ◌-◌, ◌<◌, ◌≤◌, nat_lt, min, max, if◌then◌else◌, Bool, ◌&&◌, ◌||◌}
use Rattle.nvm_geometry.specs.Namespace.{Namespace}

-- Where there are boundaries at all, a boundary is an LBA above 0 of the form NABO + k * (NABSN + 1).
pub record IsBoundary (ns : Namespace) (lba : ℕ) : Type 0 where
  pub exists : ns.nabsn ≢ 0
  pub above : 0 < lba
  pub k : ℕ
  pub form : lba ≡ ns.nabo + k * (ns.nabsn + 1)

-- No boundary is above the lower of the two LBAs and at most the higher.
abbrev pub SharesUnit : Namespace → ℕ → ℕ → Type 0
SharesUnit ns a b = (lba : ℕ) → IsBoundary ns lba → min a b < lba → lba ≤ max a b → ⊥

-- The LBA has the form of a boundary for some k of at most `most`.
unfoldable pub has_form : ℕ → ℕ → ℕ → ℕ → Bool
has_form nabsn nabo zero lba = lba == nabo
has_form nabsn nabo (suc most) lba = lba == nabo + suc most * (nabsn + 1) || has_form nabsn nabo most lba

-- The test for a boundary. A k above the LBA would lead past it.
unfoldable pub is_boundary : ℕ → ℕ → ℕ → Bool
is_boundary nabsn nabo lba = nat_lt 0 nabsn && (nat_lt 0 lba && has_form nabsn nabo lba lba)

-- how many boundaries are at most the LBA
unfoldable pub boundary_count : ℕ → ℕ → ℕ → ℕ
boundary_count nabsn nabo zero = 0
boundary_count nabsn nabo (suc lba) = boundary_count nabsn nabo lba + (if is_boundary nabsn nabo (suc lba) then 1 else 0)

-- the number of the LBA's unit: how many boundaries are at most it
abbrev pub unit_number : Namespace → ℕ → ℕ
unit_number ns lba = boundary_count ns.nabsn ns.nabo lba

-- how many units there are: as many as the last LBA's number says, and the unit 0
abbrev pub units_of : Namespace → ℕ
units_of ns = unit_number ns (ns.nsze - 1) + 1

-- Some boundary is above the first LBA of the range and at most its last.
pub record Crosses (ns : Namespace) (slba blocks : ℕ) : Type 0 where
  pub lba : ℕ
  pub boundary : IsBoundary ns lba
  pub above : slba < lba
  pub below : lba < slba + blocks
