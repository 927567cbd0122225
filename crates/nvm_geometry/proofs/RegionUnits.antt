-- The regions of a large namespace: each has whole units, and they are few and short.
use Rattle.std.proofs.Common.{◌≡◌, ◌==◌, ◌↔◌, inl, inr, ℕ, ◌+◌, ◌*◌, ◌/◌, ◌-◌, ◌^◌, ◌<◌, ◌≤◌, refl, sym, ap, ◌∙◌, arith, if◌then◌else◌}
use Rattle.std.proofs.lemmas.Bool.{cases_eq, cases_lt, eq-eqb, ne_eqb}
use Rattle.std.proofs.lemmas.Nat.{div_below}
use Rattle.std.proofs.Math.Nat.{div-div-eq-div-mul, div-eq_of_lt, div-mul-le_self, le-div_iff_mul-le, lt-div-mul-add, mul_comm, mul-le-mul_right, le-mul_of_pos_right}
use Rattle.nvm_geometry.specs.Boundaries.{boundary_count, unit_number, units_of}
use Rattle.nvm_geometry.specs.Faults.{most_units}
use Rattle.nvm_geometry.specs.Large.{AreRegions, IsLarge, cut_at_each, units_a_region, regions_of}
use Rattle.nvm_geometry.specs.Limits.{LiesInUnit}
use Rattle.nvm_geometry.specs.Namespace.{Namespace, namespace_of}
use Rattle.nvm_geometry.specs.Place.{IsPlaceOf}
use Rattle.nvm_geometry.proofs.BoundaryCount.{IsShift, is_placed, quotient}
use Rattle.nvm_geometry.proofs.UnitOrder.{count_none, count_reaches, count_rises, same_number, shares_from_number}

-- each offset has a shift
pub some_shift : (nabsn nabo : ℕ) → nabo ≤ nabsn → (shift : ℕ) × IsShift nabsn nabo shift
some_shift nabsn nabo offset =
    elim (cases_lt 0 nabo) [
      | inl l ↦ (nabsn + 1 - nabo, record { none = λ e. absurd (omega (arith, e, l)); rest = λ _. omega (arith, offset); offset = offset })
      | inr h ↦ (0, record { none = λ _. refl; rest = λ l. absurd (omega (arith, l, h)); offset = offset })
    ]

-- the boundaries at which a region begins have the shift of those at which a unit does
pub coarse_shift : (nabsn nabo shift count : ℕ) → 0 < count → IsShift nabsn nabo shift
    → IsShift (count * (nabsn + 1) - 1) (if nabo == 0 then 0 else nabo + (count - 1) * (nabsn + 1)) shift
coarse_shift nabsn nabo shift count some s =
    let c = count - 1 in
    let is : count * (nabsn + 1) ≡ c * (nabsn + 1) + (nabsn + 1) = (let next : count ≡ c + 1 = omega (arith, some) in ap (λ n. n * (nabsn + 1)) next ∙ omega arith) in
    elim (cases_eq nabo 0) [
      | inl e ↦
          rw (eq-eqb nabo 0 e) record {
            none = λ _. s.none e;
            rest = λ l. absurd (omega (arith, l));
            offset = omega arith;
          }
      | inr o ↦
          rw (ne_eqb nabo 0 o) record {
            none = λ e. absurd (omega (arith, e, o));
            rest = λ _. omega (arith, is, s.rest (omega (arith, o)));
            offset = omega (arith, is, s.offset);
          }
    ]

-- a region has a unit at least
pub region_some : (ns : Namespace) → 0 < units_a_region ns
region_some ns =
    (le-div_iff_mul-le {k = most_units} {x = 1} {y = units_of ns + (most_units - 1)} (omega arith)).1 (omega arith)

-- without a boundary it has one
pub region_of_one : (ns : Namespace) → ns.nabsn ≡ 0 → units_a_region ns ≡ 1
region_of_one ns none = ap (λ n. (n + 1 + (most_units - 1)) / most_units) (count_none ns.nabsn ns.nabo (ns.nsze - 1) none)

-- the number of an LBA's region is that of its unit, divided by how many units a region has
pub region_number : (ns : Namespace) (lba : ℕ) → IsLarge ns → unit_number (regions_of ns) lba ≡ unit_number ns lba / units_a_region ns
region_number ns lba large =
    let c = units_a_region ns in
    let s = ns.nabsn + 1 in
    let some : 0 < c = region_some ns in
    elim (cases_lt 0 ns.nabsn) [
      | inl has ↦
          let shift = some_shift ns.nabsn ns.nabo large.offset in
          let longer : s ≤ c * s = (let turned : s ≤ s * c = le-mul_of_pos_right {m = c} s some in omega (arith, turned, mul_comm s c)) in
          let length : c * s - 1 + 1 ≡ s * c = (let whole : c * s - 1 + 1 ≡ c * s = omega (arith, longer) in whole ∙ mul_comm c s) in
          sym (quotient (regions_of ns).nabsn (regions_of ns).nabo shift.0 lba (coarse_shift ns.nabsn ns.nabo shift.0 c some shift.1) (omega (arith, longer, has)))
          ∙ ap (λ d. (lba + shift.0) / d) length
          ∙ sym (div-div-eq-div-mul (lba + shift.0) s c)
          ∙ ap (λ q. q / c) (quotient ns.nabsn ns.nabo shift.0 lba shift.1 has)
      | inr h ↦
          let none : ns.nabsn ≡ 0 = omega (arith, h) in
          let one : c * s - 1 ≡ 0 = rw (region_of_one ns none, none) refl in
          let first = count_none ns.nabsn ns.nabo lba none in
          count_none (regions_of ns).nabsn (regions_of ns).nabo lba one
          ∙ sym (div-eq_of_lt (omega (arith, first, some)))
    ]

-- so what lies in one unit lies in one region
pub region_lies : (ns : Namespace) (slba blocks : ℕ) → IsLarge ns → LiesInUnit ns slba blocks → LiesInUnit (regions_of ns) slba blocks
region_lies ns slba blocks large lies =
    let last = slba + blocks - 1 in
    shares_from_number (regions_of ns) slba last
    (region_number ns slba large ∙ ap (λ n. n / units_a_region ns) (same_number ns slba last lies) ∙ sym (region_number ns last large))

-- a region's first LBA is counted from one at most the distance of two
pub regions_offset : (ns : Namespace) → IsLarge ns → (regions_of ns).nabo ≤ (regions_of ns).nabsn
regions_offset ns large =
    let shift = some_shift ns.nabsn ns.nabo large.offset in
    (coarse_shift ns.nabsn ns.nabo shift.0 (units_a_region ns) (region_some ns) shift.1).offset

-- there are no more regions than a namespace may have units
pub regions_few : (ns : Namespace) → IsLarge ns → units_of (regions_of ns) ≤ most_units
regions_few ns large =
    let c = units_a_region ns in
    let last = unit_number ns (ns.nsze - 1) in
    let up : units_of ns + (most_units - 1) < c * most_units + most_units = lt-div-mul-add (omega arith) in
    let below : last / c < most_units = div_below last c most_units (region_some ns) (omega (arith, up)) in
    omega (arith, region_number ns (ns.nsze - 1) large, below)

-- the products of the numbers of a region, over plain numbers
region_product : (c n s nsze shift : ℕ) → c * 4096 ≤ n + 1 + 4095 → n * s ≤ nsze - 1 + shift → nsze ≤ 2 ^ 40 → shift ≤ s → s ≤ 65536 → c * s < 2 ^ 30
region_product c n s nsze shift up low size short near =
    omega (arith, mul-le-mul_right {m = c * 4096} {n = n + 1 + 4095} s up, low, size, short, near)

-- and a region is short
pub region_short : (ns : Namespace) → IsLarge ns → ns.nabsn < 65536 → units_a_region ns * (ns.nabsn + 1) < 2 ^ 30
region_short ns large near =
    let c = units_a_region ns in
    elim (cases_lt 0 ns.nabsn) [
      | inl has ↦
          let shift = some_shift ns.nabsn ns.nabo large.offset in
          let within : shift.0 ≤ ns.nabsn + 1 =
          elim (cases_lt 0 ns.nabo) [ inl l ↦ omega (arith, shift.1.rest l) | inr h ↦ omega (arith, shift.1.none (omega (arith, h))) ] in
          let place = is_placed ns.nabsn ns.nabo shift.0 (ns.nsze - 1) shift.1 has in
          region_product c (unit_number ns (ns.nsze - 1)) (ns.nabsn + 1) ns.nsze shift.0
          (div-mul-le_self (units_of ns + (most_units - 1)) most_units) place.low large.size within (omega (arith, near))
      | inr h ↦ rw (region_of_one ns (omega (arith, h))) (omega (arith, h))
    ]

-- the first LBA of a region is at most a region's length above that of the one before it
pub next_near : (nabsn nabo unit first next : ℕ) → nabo ≤ nabsn → 0 < nabsn
    → ((lba : ℕ) → (first ≤ lba) ↔ (unit ≤ boundary_count nabsn nabo lba))
    → ((lba : ℕ) → (next ≤ lba) ↔ (unit + 1 ≤ boundary_count nabsn nabo lba)) → next ≤ first + (nabsn + 1)
next_near nabsn nabo unit first next offset some reaches passes =
    let shift = some_shift nabsn nabo offset in
    let here = (count_reaches nabsn nabo shift.0 unit first shift.1 some).0 ((reaches first).0 (omega arith)) in
    (passes (first + (nabsn + 1))).1
    ((count_reaches nabsn nabo shift.0 (unit + 1) (first + (nabsn + 1)) shift.1 some).1 (omega (arith, here)))

-- up to the first LBA of the next unit the number is the same
pub same_until : (nabsn nabo lba next x : ℕ) → ((y : ℕ) → (next ≤ y) ↔ (boundary_count nabsn nabo lba + 1 ≤ boundary_count nabsn nabo y))
    → lba ≤ x → x < next → boundary_count nabsn nabo x ≡ boundary_count nabsn nabo lba
same_until nabsn nabo lba next x passes low high =
    elim (cases_lt (boundary_count nabsn nabo x) (boundary_count nabsn nabo lba + 1)) [
      | inl l ↦ omega (arith, l, count_rises nabsn nabo lba x low)
      | inr h ↦ absurd (omega (arith, (passes x).1 h, high))
    ]

-- what the code of `regions` computes, from the number of the last LBA's unit
pub regions_kept : (ns : Namespace) → IsLarge ns → ns.nabsn < 65536 → AreRegions (regions_of ns)
regions_kept ns large near =
    let short = region_short ns large near in
    let some : 0 < units_a_region ns = region_some ns in
    record {
      some = large.some;
      size = large.size;
      block_size = large.block_size;
      offset = regions_offset ns large;
      blocks = omega (arith, short);
      one = λ e.
          elim (cases_lt 0 ns.nabsn) [
            | inl has ↦
                let turned : ns.nabsn + 1 ≤ (ns.nabsn + 1) * units_a_region ns = le-mul_of_pos_right {m = units_a_region ns} (ns.nabsn + 1) some in
                absurd (omega (arith, e, has, turned, mul_comm (ns.nabsn + 1) (units_a_region ns)))
            | inr h ↦ (large.no_boundary (omega (arith, h))).1
          ];
      few = regions_few ns large;
    }

-- a unit lies in its region
pub region_covers : (ns : Namespace) (unit first blocks start count : ℕ) → IsLarge ns → IsPlaceOf ns unit first blocks
    → IsPlaceOf (regions_of ns) (unit / units_a_region ns) start count → (start ≤ first) × (first + blocks ≤ start + count)
region_covers ns unit first blocks start count large place around =
    let c = units_a_region ns in
    let last = first + blocks - 1 in
    let inside : (lba : ℕ) → first ≤ lba → lba < first + blocks → (start ≤ lba) × (lba < start + count) =
    λ lba low high. around.whole lba (omega (arith, high, place.inside)) (region_number ns lba large ∙ ap (λ n. n / c) (place.lies lba low high)) in (
      (inside first (omega arith) (omega (arith, place.some))).0,
      omega (arith, place.some, (inside last (omega (arith, place.some)) (omega (arith, place.some))).1),
    )

-- where there are few units, each is a region
pub region_is_unit : (ns : Namespace) → units_of ns ≤ most_units → units_a_region ns ≡ 1
region_is_unit ns few =
    let below : units_a_region ns < 2 = div_below (units_of ns + (most_units - 1)) most_units 2 (omega arith) (omega (arith, few)) in
    omega (arith, below, region_some ns)

cut_at_all : (ns : Namespace) → cut_at_each 1 ns ≡ ns
cut_at_all ns =
    let apart : 1 * (ns.nabsn + 1) - 1 ≡ ns.nabsn = omega arith in
    let offset : (if ns.nabo == 0 then 0 else ns.nabo + (1 - 1) * (ns.nabsn + 1)) ≡ ns.nabo =
    elim (cases_eq ns.nabo 0) [
      | inl e ↦ rw (eq-eqb ns.nabo 0 e) (sym e)
      | inr o ↦ rw (ne_eqb ns.nabo 0 o) (omega arith)
    ] in
    let made : ℕ → ℕ → Namespace = λ nabsn nabo. namespace_of ns.nsze ns.block_size nabsn nabo ns.nawun ns.nacwu in
    ap (λ nabsn. made nabsn (if ns.nabo == 0 then 0 else ns.nabo + (1 - 1) * (ns.nabsn + 1))) apart ∙ ap (λ nabo. made ns.nabsn nabo) offset

pub regions_are_units : (ns : Namespace) → units_of ns ≤ most_units → regions_of ns ≡ ns
regions_are_units ns few = ap (λ count. cut_at_each count ns) (region_is_unit ns few) ∙ cut_at_all ns
