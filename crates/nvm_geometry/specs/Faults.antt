-- What the numbers of a geometry must keep, and which fault is answered where they don't. That NABO is 0 without a
-- boundary and at most NABSN, and a boundary not below the write unit: NVM Command Set Specification, Identify Namespace
-- and atomic boundaries. The order and the other faults are this project's own.
use Rattle.std.specs.Prelude.{◌≡◌, ◌≢◌, ◌⊎◌, ℕ, ◌<◌, ◌≤◌, List, [], ◌∷◌}
use Rattle.nvm_record.specs.BlockSize.{IsBlockSize}
use Rattle.nvm_geometry.specs.Namespace.{Namespace}
use Rattle.nvm_geometry.specs.Boundaries.{units_of}
use Rattle.nvm_geometry.specs.declared.geometry_fault.GeometryFault.{GeometryFault}
use Rattle.nvm_geometry.specs.declared.geometry_fault.GeometryFault.TheVariants.{Size, BlockSize, OffsetWithoutBoundary, OffsetAboveBoundary, WriteUnitAboveBoundary, PairUnitAboveBoundary, TooManyUnits}

-- the most LBAs of a namespace
abbrev pub most_blocks : ℕ
most_blocks = 65536

-- the most units of a namespace
abbrev pub most_units : ℕ
most_units = 4096

-- The table of faults: when each applies.
abbrev pub Applies : Namespace → GeometryFault → Type 0
Applies ns Size = (ns.nsze ≡ 0) ⊎ (most_blocks < ns.nsze)
Applies ns BlockSize = ¬ (IsBlockSize ns.block_size)
Applies ns OffsetWithoutBoundary = (ns.nabsn ≡ 0) × (ns.nabo ≢ 0)
Applies ns OffsetAboveBoundary = (ns.nabsn ≢ 0) × (ns.nabsn < ns.nabo)
Applies ns WriteUnitAboveBoundary = (ns.nabsn ≢ 0) × (ns.nabsn < ns.nawun)
Applies ns PairUnitAboveBoundary = (ns.nabsn ≢ 0) × (ns.nabsn < ns.nacwu)
Applies ns TooManyUnits = most_units < units_of ns

-- the order in which they are looked for
abbrev pub faults : List GeometryFault
faults =
    Size ∷ BlockSize ∷ OffsetWithoutBoundary ∷ OffsetAboveBoundary ∷ WriteUnitAboveBoundary ∷ PairUnitAboveBoundary ∷
    TooManyUnits ∷ []

-- Of these faults the first that applies is `fault`.
abbrev pub IsFirstOf : List GeometryFault → Namespace → GeometryFault → Type 0
IsFirstOf [] ns fault = ⊥
IsFirstOf (f ∷ fs) ns fault = (Applies ns f × (fault ≡ f)) ⊎ ((¬ (Applies ns f)) × IsFirstOf fs ns fault)

-- None of these faults applies.
abbrev pub NoneApplies : List GeometryFault → Namespace → Type 0
NoneApplies [] ns = Unit {0}
NoneApplies (f ∷ fs) ns = (¬ (Applies ns f)) × NoneApplies fs ns

-- the fault that is answered
abbrev pub IsFirstGeometryFault : Namespace → GeometryFault → Type 0
IsFirstGeometryFault ns fault = IsFirstOf faults ns fault

abbrev pub HasNoFault : Namespace → Type 0
HasNoFault ns = NoneApplies faults ns

-- What every geometry keeps: that no fault applies, said the other way round.
pub record IsValid (ns : Namespace) : Type 0 where
  pub some : 0 < ns.nsze
  pub size : ns.nsze ≤ most_blocks
  pub block_size : IsBlockSize ns.block_size
  pub no_boundary : ns.nabsn ≡ 0 → ns.nabo ≡ 0
  pub offset : ns.nabo ≤ ns.nabsn
  pub write_unit : ns.nabsn ≢ 0 → ns.nawun ≤ ns.nabsn
  pub pair_unit : ns.nabsn ≢ 0 → ns.nacwu ≤ ns.nabsn
  pub units : units_of ns ≤ most_units
