-- Which LBAs an operation reaches, and in which units they lie. What is known of cut ranges is a premise here, which
-- nvm_record's laws have.
use Rattle.std.proofs.Common.{◌≡◌, ◌≢◌, ℕ, ◌+◌, ◌-◌, ◌<◌, ◌≤◌, Bool, true, false, ◌&&◌, List, [], ◌∷◌, refl, sym, ap, ◌∙◌, arith}
use Rattle.std.specs.Prelude.{nat_le, nat_lt, ◌==◌}
use Rattle.std.proofs.Math.Bool.{and_assoc}
use Rattle.std.proofs.Math.Path.{fun_ext}
use Rattle.std.proofs.lemmas.Bool.{and_parts, and_from, or_left, leb-true, ltb-true, le-leb, lt-ltb, eqb-true, eq-eqb, false≢true}
use Rattle.std.proofs.lemmas.List.Elements.{All-contains}
use Rattle.nvm_record.specs.declared.lba_range.LbaRange.{LbaRange}
use Rattle.nvm_record.specs.Ranges.{ranges_have, cut_ranges, AreRangesWithin}
use Rattle.nvm_record.specs.Step.{Deed, Operation, writes, zeroes, uncorrectable, reads, compares, pairs, deallocates, HasRangesWithin, is_about, is_in_range, reaches}
use Rattle.nvm_record.specs.Deeds.{IsLook, IsOnRange}
use Rattle.nvm_geometry.specs.Namespace.{Namespace}
use Rattle.nvm_geometry.specs.Boundaries.{unit_number, units_of}
use Rattle.nvm_geometry.specs.Parts.{blocks_below, blocks_in, units_of_range, units_where, deed_part, reached_in, units_met, part_in}
use Rattle.nvm_geometry.proofs.UnitOrder.{unit_below}
use Rattle.nvm_geometry.proofs.Counting.{count_agree, passing_counted, counted_passes}
use Rattle.nvm_geometry.proofs.Places.{place_in, part_lbas}

-- the bounds that the test for the range gives
pub range_bounds : (op : Operation) (lba : ℕ) → is_in_range op lba ≡ true
    → (op.first ≤ lba) × (lba < op.first + op.blocks)
range_bounds op lba inside =
    let parts = and_parts _ _ inside in
    (leb-true _ _ parts.0, ltb-true _ _ parts.1)

-- what is reached lies in the range
pub reached_inside : (op : Operation) (lba : ℕ) → reaches op lba ≡ true → is_in_range op lba ≡ true
reached_inside op lba reached =
    let parts = and_parts (is_about op.deed lba) (is_in_range op lba) reached in
    parts.1

pub reached_bounds : (op : Operation) (lba : ℕ) → reaches op lba ≡ true
    → (op.first ≤ lba) × (lba < op.first + op.blocks)
reached_bounds op lba reached = range_bounds op lba (reached_inside op lba reached)

-- an LBA of the unit that is reached is counted
pub reached_some : (ns : Namespace) (op : Operation) (unit lba : ℕ) → reaches op lba ≡ true → unit_number ns lba ≡ unit
    → 0 < reached_in ns op unit
unfolding reached_in
reached_some ns op unit lba reached here =
    let parts = and_parts (is_about op.deed lba) (is_in_range op lba) reached in
    let bounds = range_bounds op lba parts.1 in
    passing_counted (λ l. is_about op.deed l && (unit_number ns l == unit)) op.first op.blocks lba
    (and_from (is_about op.deed lba) (unit_number ns lba == unit) parts.0 (eq-eqb _ _ here)) bounds.0 bounds.1

-- where some are counted, there is one
pub some_reached : (ns : Namespace) (op : Operation) (unit : ℕ) → 0 < reached_in ns op unit
    → (lba : ℕ) × (reaches op lba ≡ true) × (unit_number ns lba ≡ unit)
unfolding reached_in
some_reached ns op unit some =
    let found = counted_passes (λ l. is_about op.deed l && (unit_number ns l == unit)) op.first op.blocks some in
    let parts = and_parts (is_about op.deed found.0) (unit_number ns found.0 == unit) found.3 in
    let inside : is_in_range op found.0 ≡ true =
    and_from _ _ (le-leb op.first found.0 found.1) (lt-ltb found.0 (op.first + op.blocks) found.2) in
    (found.0, and_from (is_about op.deed found.0) (is_in_range op found.0) parts.0 inside, eqb-true _ _ parts.1)

-- then the range has a block there
pub reached_block : (ns : Namespace) (op : Operation) (unit : ℕ) → 0 < reached_in ns op unit
    → 0 < blocks_in ns op.first op.blocks unit
reached_block ns op unit some =
    let found = some_reached ns op unit some in
    let bounds = reached_bounds op found.0 found.1 in
    let i = found.0 - op.first in
    let at : op.first + i ≡ found.0 = omega (arith, bounds.0) in
    let place = place_in ns op.first op.blocks unit i (omega (arith, bounds.0, bounds.1)) (rw at found.2) in
    omega (arith, place.0, place.1)

-- and the unit is one of the namespace's
pub reached_known : (ns : Namespace) (op : Operation) (unit : ℕ) → op.first + op.blocks ≤ ns.nsze
    → 0 < reached_in ns op unit
    → unit < units_of ns
reached_known ns op unit fits some =
    let found = some_reached ns op unit some in
    let bounds = reached_bounds op found.0 found.1 in
    omega (arith, found.2, unit_below ns found.0 (omega (arith, bounds.1, fits)))

-- a deed on its range has to do with each LBA
about_all : (deed : Deed) (lba : ℕ) → IsOnRange deed → is_about deed lba ≡ true
about_all (writes payload) lba all = refl
about_all zeroes lba all = refl
about_all uncorrectable lba all = refl
about_all reads lba all = refl
about_all (compares payload) lba all = refl
about_all (pairs payload new) lba all = refl
about_all (deallocates ranges) lba all = absurd (cc all)

-- and so has a look
pub look_about : (deed : Deed) (lba : ℕ) → IsLook deed → is_about deed lba ≡ true
look_about (writes payload) lba look = refl
look_about zeroes lba look = refl
look_about uncorrectable lba look = refl
look_about reads lba look = refl
look_about (compares payload) lba look = refl
look_about (pairs payload new) lba look = refl
look_about (deallocates ranges) lba look = absurd (cc look)

-- so its operation reaches each LBA of its range
pub reaches_all : (op : Operation) (lba : ℕ) → IsOnRange op.deed → reaches op lba ≡ is_in_range op lba
reaches_all op lba all = rw (about_all op.deed lba all) refl

-- it has no ranges
pub ranges_all : (first blocks : ℕ) (deed : Deed) → IsOnRange deed → HasRangesWithin first blocks deed
ranges_all first blocks (writes payload) all = tt
ranges_all first blocks zeroes all = tt
ranges_all first blocks uncorrectable all = tt
ranges_all first blocks reads all = tt
ranges_all first blocks (compares payload) all = tt
ranges_all first blocks (pairs payload new) all = tt
ranges_all first blocks (deallocates ranges) all = absurd (cc all)

-- and it reaches all blocks of its range in the unit
pub reached_all : (ns : Namespace) (op : Operation) (unit : ℕ) → IsOnRange op.deed
    → reached_in ns op unit ≡ blocks_in ns op.first op.blocks unit
unfolding reached_in blocks_in
reached_all ns op unit all =
    count_agree (λ lba. is_about op.deed lba && (unit_number ns lba == unit)) (λ lba. unit_number ns lba == unit)
    op.first op.blocks
    (λ lba low high. rw (about_all op.deed lba all) refl)

-- and meets the units of its range
pub units_all : (ns : Namespace) (op : Operation) → IsOnRange op.deed
    → units_met ns op ≡ units_of_range ns op.first op.blocks
units_all ns op all = ap (λ test. units_where ns test) (fun_ext (λ unit. rw (reached_all ns op unit all) refl))

-- ranges among the blocks have an LBA of these
range_reached : (first blocks : ℕ) (ranges : List LbaRange) → AreRangesWithin first blocks ranges
    → (lba : ℕ) × (ranges_have ranges lba ≡ true) × (first ≤ lba) × (lba < first + blocks)
range_reached first blocks [] within = absurd (within.some refl)
range_reached first blocks (r ∷ rs) within =
    let here = All-contains
    (λ (x : LbaRange). (0 < x.blocks) × (first ≤ x.first) × (x.first + x.blocks ≤ first + blocks)) (r ∷ rs) r
    within.each (0, omega arith, refl) in (
      r.first,
      or_left _ _ (and_from _ _ (le-leb r.first r.first (omega arith))
          (lt-ltb r.first (r.first + r.blocks) (omega (arith, here.0)))),
      here.1,
      omega (arith, here.0, here.2),
    )

-- so an operation with a block whose ranges are some among its blocks reaches an LBA
deed_reached : (first blocks : ℕ) (deed : Deed) → 0 < blocks → HasRangesWithin first blocks deed
    → (lba : ℕ) × (is_about deed lba ≡ true) × (first ≤ lba) × (lba < first + blocks)
deed_reached first blocks (writes payload) some within = (first, refl, omega arith, omega (arith, some))
deed_reached first blocks zeroes some within = (first, refl, omega arith, omega (arith, some))
deed_reached first blocks uncorrectable some within = (first, refl, omega arith, omega (arith, some))
deed_reached first blocks reads some within = (first, refl, omega arith, omega (arith, some))
deed_reached first blocks (compares payload) some within = (first, refl, omega arith, omega (arith, some))
deed_reached first blocks (pairs payload new) some within = (first, refl, omega arith, omega (arith, some))
deed_reached first blocks (deallocates ranges) some within = range_reached first blocks ranges within

pub lba_reached : (op : Operation) → 0 < op.blocks → HasRangesWithin op.first op.blocks op.deed
    → (lba : ℕ) × (reaches op lba ≡ true)
lba_reached op some within =
    let found = deed_reached op.first op.blocks op.deed some within in
    let inside : is_in_range op found.0 ≡ true =
    and_from _ _ (le-leb op.first found.0 found.2) (lt-ltb found.0 (op.first + op.blocks) found.3) in
    (found.0, and_from (is_about op.deed found.0) (is_in_range op found.0) found.1 inside)

-- Cut ranges have exactly those of their LBAs that are among the blocks.
abbrev pub CutsHave : Type 0
CutsHave = (first blocks : ℕ) (rs : List LbaRange) (lba : ℕ)
    → ranges_have (cut_ranges first blocks rs) lba
    ≡ ((nat_le first lba && nat_lt lba (first + blocks)) && ranges_have rs lba)

-- Cut ranges, where there are any, lie among the blocks.
abbrev pub CutsLie : Type 0
CutsLie = (first blocks : ℕ) (rs : List LbaRange) → cut_ranges first blocks rs ≢ []
    → AreRangesWithin first blocks (cut_ranges first blocks rs)

-- Ranges among the blocks are their own cut.
abbrev pub CutsStay : Type 0
CutsStay = (first blocks : ℕ) (rs : List LbaRange) → AreRangesWithin first blocks rs → cut_ranges first blocks rs ≡ rs

-- b decides nothing more where a does
and_twice : (a b : Bool) → ((a && b) && a) ≡ (b && a)
and_twice true b = refl
and_twice false true = refl
and_twice false false = refl

-- inside its LBAs the part of a deed has to do with what the deed has
part_about : (have : CutsHave) (size first skipped blocks : ℕ) (deed : Deed) (lba : ℕ)
    → (is_about (deed_part size first skipped blocks deed) lba
    && (nat_le (first + skipped) lba && nat_lt lba (first + skipped + blocks)))
    ≡ (is_about deed lba && (nat_le (first + skipped) lba && nat_lt lba (first + skipped + blocks)))
part_about have size first skipped blocks (writes payload) lba = refl
part_about have size first skipped blocks zeroes lba = refl
part_about have size first skipped blocks uncorrectable lba = refl
part_about have size first skipped blocks reads lba = refl
part_about have size first skipped blocks (compares payload) lba = refl
part_about have size first skipped blocks (pairs payload new) lba = refl
part_about have size first skipped blocks (deallocates ranges) lba =
    let inside = nat_le (first + skipped) lba && nat_lt lba (first + skipped + blocks) in
    ap (λ b. b && inside) (have (first + skipped) blocks ranges lba) ∙ and_twice inside (ranges_have ranges lba)

-- the part reaches exactly the LBAs in the unit that the operation reaches
pub part_reaches : (have : CutsHave) (ns : Namespace) (op : Operation) (unit lba : ℕ)
    → reaches (part_in ns op unit) lba ≡ (reaches op lba && (unit_number ns lba == unit))
part_reaches have ns op unit lba =
    part_about have ns.block_size op.first (blocks_below ns op.first op.blocks unit)
    (blocks_in ns op.first op.blocks unit) op.deed lba
    ∙ ap (λ b. is_about op.deed lba && b) (part_lbas ns op unit lba)
    ∙ sym (and_assoc (is_about op.deed lba) (is_in_range op lba) (unit_number ns lba == unit))

-- a part with an LBA that it reaches has its ranges
ranges_reached : (lie : CutsLie) (size first skipped blocks : ℕ) (deed : Deed) (lba : ℕ)
    → is_about (deed_part size first skipped blocks deed) lba ≡ true
    → HasRangesWithin (first + skipped) blocks (deed_part size first skipped blocks deed)
ranges_reached lie size first skipped blocks (writes payload) lba about = tt
ranges_reached lie size first skipped blocks zeroes lba about = tt
ranges_reached lie size first skipped blocks uncorrectable lba about = tt
ranges_reached lie size first skipped blocks reads lba about = tt
ranges_reached lie size first skipped blocks (compares payload) lba about = tt
ranges_reached lie size first skipped blocks (pairs payload new) lba about = tt
ranges_reached lie size first skipped blocks (deallocates ranges) lba about =
    lie (first + skipped) blocks ranges (λ e. false≢true (ap (λ rs. ranges_have rs lba) (sym e) ∙ about))

pub part_has_ranges : (have : CutsHave) (lie : CutsLie) (ns : Namespace) (op : Operation) (unit : ℕ)
    → 0 < reached_in ns op unit
    → HasRangesWithin (part_in ns op unit).first (part_in ns op unit).blocks (part_in ns op unit).deed
part_has_ranges have lie ns op unit some =
    let found = some_reached ns op unit some in
    let reached : reaches (part_in ns op unit) found.0 ≡ true =
    part_reaches have ns op unit found.0 ∙ and_from _ _ found.1 (eq-eqb _ _ found.2) in
    let parts = and_parts (is_about (part_in ns op unit).deed found.0) (is_in_range (part_in ns op unit) found.0)
    reached in
    ranges_reached lie ns.block_size op.first (blocks_below ns op.first op.blocks unit)
    (blocks_in ns op.first op.blocks unit) op.deed found.0 parts.0
