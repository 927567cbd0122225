-- A namespace of any size, and the regions that it is kept as. Where its units are few each of them is a region, and a larger
-- namespace has regions of whole units. Regions are this project's own: what a namespace advertises are its units.
use Rattle.std.specs.Prelude.{◌≡◌, ◌≢◌, ◌==◌, ℕ, ◌+◌, ◌-◌, ◌*◌, ◌/◌, ◌^◌, ◌<◌, ◌≤◌, if◌then◌else◌}
use Rattle.nvm_record.specs.BlockSize.{IsBlockSize}
use Rattle.nvm_geometry.specs.Boundaries.{units_of}
use Rattle.nvm_geometry.specs.Faults.{most_units}
use Rattle.nvm_geometry.specs.Namespace.{Namespace}

-- What the numbers of a large namespace keep: as those of any, but for its size and how many units there are. Without a boundary
-- it is one unit of fewer than 2^32 blocks.
pub record IsLarge (ns : Namespace) : Type 0 where
  pub some : 0 < ns.nsze
  pub size : ns.nsze ≤ 2 ^ 40
  pub block_size : IsBlockSize ns.block_size
  pub no_boundary : ns.nabsn ≡ 0 → (ns.nabo ≡ 0) × (ns.nsze < 2 ^ 32)
  pub offset : ns.nabo ≤ ns.nabsn
  pub write_unit : ns.nabsn ≢ 0 → ns.nawun ≤ ns.nabsn
  pub pair_unit : ns.nabsn ≢ 0 → ns.nacwu ≤ ns.nabsn

-- The namespace cut at one boundary of so many, where a length is NABSN + 1. With NABO 0 the first cut lies at count * length, and
-- else at the last of the first `count` boundaries, which is count - 1 lengths behind the first.
abbrev pub cut_at_each : ℕ → Namespace → Namespace
cut_at_each count ns =
    record {
      nsze = ns.nsze;
      block_size = ns.block_size;
      nabsn = count * (ns.nabsn + 1) - 1;
      nabo = if ns.nabo == 0 then 0 else ns.nabo + (count - 1) * (ns.nabsn + 1);
      nawun = ns.nawun;
      nacwu = ns.nacwu;
    }

-- how many units a region has: as few as make no more regions than a namespace may have units
abbrev pub units_a_region : Namespace → ℕ
units_a_region ns = (units_of ns + (most_units - 1)) / most_units

-- the region in which a unit lies
abbrev pub region_of : Namespace → ℕ → ℕ
region_of ns unit = unit / units_a_region ns

-- the namespace whose units are the regions
abbrev pub regions_of : Namespace → Namespace
regions_of ns = cut_at_each (units_a_region ns) ns

-- What the regions of a large namespace keep: they are few, and each has fewer than 2^32 blocks. The first and the last may have
-- fewer than the others.
pub record AreRegions (ns : Namespace) : Type 0 where
  pub some : 0 < ns.nsze
  pub size : ns.nsze ≤ 2 ^ 40
  pub block_size : IsBlockSize ns.block_size
  pub offset : ns.nabo ≤ ns.nabsn
  pub blocks : ns.nabsn + 1 < 2 ^ 32
  pub one : ns.nabsn ≡ 0 → ns.nsze < 2 ^ 32
  pub few : units_of ns ≤ most_units
