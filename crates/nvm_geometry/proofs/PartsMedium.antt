-- The medium after the parts of a single command, LBA by LBA.
use Rattle.std.proofs.Common.{◌≡◌, ℕ, ◌+◌, ◌-◌, ◌<◌, ◌≤◌, true, false, cond, List, [], ◌∷◌, inl, inr, refl, sym, ap, ◌∙◌, arith}
use Rattle.std.specs.Prelude.{count_by, nat_lt, ◌==◌}
use Rattle.std.proofs.lemmas.Bool.{cases_Bool, cases_lt, cases_eq, lt-ltb, eq-eqb, ne_eqb, and_from, and_left, and_right}
use Rattle.std.proofs.lemmas.List.Sorted.{sum_by-IsPermutation}
use Rattle.nvm_record.specs.declared.block.Block.{Block}
use Rattle.nvm_record.specs.Medium.{Medium}
use Rattle.nvm_record.specs.Step.{Deed, Operation, writes, zeroes, uncorrectable, reads, compares, pairs, deallocates, block_after, reaches, range_of, medium_after}
use Rattle.nvm_geometry.specs.Namespace.{Namespace}
use Rattle.nvm_geometry.specs.Boundaries.{unit_number, units_of}
use Rattle.nvm_geometry.specs.Parts.{blocks_below, blocks_in, reached_in, units_met, units_where, deed_part, part_in}
use Rattle.nvm_geometry.specs.Turns.{IsOrderOf, medium_after_parts}
use Rattle.nvm_record.specs.Deeds.{IsSingle}
use Rattle.nvm_geometry.proofs.UnitOrder.{unit_below}
use Rattle.nvm_geometry.proofs.Counting.{count_yes, count_no, kept_member}
use Rattle.nvm_geometry.proofs.Places.{place_in, block_of_part}
use Rattle.nvm_geometry.proofs.Reached.{CutsHave, part_reaches, reached_bounds, reached_some}

-- what a single command leaves of a block doesn't depend on the other blocks of its range
abbrev pub left_by : ℕ → Deed → ℕ → Block → Block
left_by size deed i old = block_after size [] deed i old

single_after : (size : ℕ) (blocks : List Block) (deed : Deed) (i : ℕ) (old : Block) → IsSingle deed
    → block_after size blocks deed i old ≡ left_by size deed i old
single_after size blocks (writes payload) i old single = refl
single_after size blocks zeroes i old single = refl
single_after size blocks uncorrectable i old single = refl
single_after size blocks reads i old single = refl
single_after size blocks (compares payload) i old single = refl
single_after size blocks (pairs payload new) i old single = absurd (cc single)
single_after size blocks (deallocates ranges) i old single = refl

-- doing it twice is doing it once
left_twice : (size : ℕ) (deed : Deed) (i : ℕ) (old : Block) → IsSingle deed
    → left_by size deed i (left_by size deed i old) ≡ left_by size deed i old
left_twice size (writes payload) i old single = refl
left_twice size zeroes i old single = refl
left_twice size uncorrectable i old single = refl
left_twice size reads i old single = refl
left_twice size (compares payload) i old single = refl
left_twice size (pairs payload new) i old single = absurd (cc single)
left_twice size (deallocates ranges) i old single = refl

pub part_single : (size first skipped blocks : ℕ) (deed : Deed) → IsSingle deed
    → IsSingle (deed_part size first skipped blocks deed)
part_single size first skipped blocks (writes payload) single = refl
part_single size first skipped blocks zeroes single = refl
part_single size first skipped blocks uncorrectable single = refl
part_single size first skipped blocks reads single = refl
part_single size first skipped blocks (compares payload) single = refl
part_single size first skipped blocks (pairs payload new) single = absurd (cc single)
part_single size first skipped blocks (deallocates ranges) single = refl

-- a part leaves of a block what the whole leaves of it
part_left : (size first skipped blocks : ℕ) (deed : Deed) (i : ℕ) (old : Block) → IsSingle deed → i < blocks
    → left_by size (deed_part size first skipped blocks deed) i old ≡ left_by size deed (skipped + i) old
part_left size first skipped blocks (writes payload) i old single inside =
    block_of_part size skipped blocks i payload inside
part_left size first skipped blocks zeroes i old single inside = refl
part_left size first skipped blocks uncorrectable i old single inside = refl
part_left size first skipped blocks reads i old single inside = refl
part_left size first skipped blocks (compares payload) i old single inside = refl
part_left size first skipped blocks (pairs payload new) i old single inside = absurd (cc single)
part_left size first skipped blocks (deallocates ranges) i old single inside = refl

pub after_reached : (size : ℕ) (op : Operation) (m : Medium) (lba : ℕ) → IsSingle op.deed → reaches op lba ≡ true
    → medium_after size op m lba ≡ left_by size op.deed (lba - op.first) (m lba)
after_reached size op m lba single reached =
    rw reached (single_after size (range_of op m) op.deed (lba - op.first) (m lba) single)

-- the part in an LBA's unit does there what the whole does
part_here : (have : CutsHave) (ns : Namespace) (op : Operation) (unit : ℕ) (m : Medium) (lba : ℕ) → IsSingle op.deed
    → reaches op lba ≡ true
    → unit ≡ unit_number ns lba
    → medium_after ns.block_size (part_in ns op unit) m lba ≡ left_by ns.block_size op.deed (lba - op.first) (m lba)
part_here have ns op unit m lba single reached here =
    let bounds = reached_bounds op lba reached in
    let skipped = blocks_below ns op.first op.blocks unit in
    let i = lba - op.first in
    let j = lba - (op.first + skipped) in
    let at : op.first + i ≡ lba = omega (arith, bounds.0) in
    let place = place_in ns op.first op.blocks unit i (omega (arith, bounds.0, bounds.1)) (rw at (sym here)) in
    let same : skipped + j ≡ i = omega (arith, place.0, bounds.0) in
    let in_part : reaches (part_in ns op unit) lba ≡ true =
    part_reaches have ns op unit lba ∙ and_from _ _ reached (eq-eqb (unit_number ns lba) unit (sym here)) in
    after_reached ns.block_size (part_in ns op unit) m lba
    (part_single ns.block_size op.first skipped (blocks_in ns op.first op.blocks unit) op.deed single) in_part
    ∙ part_left ns.block_size op.first skipped (blocks_in ns op.first op.blocks unit) op.deed j (m lba) single
    (omega (arith, place.0, place.1, bounds.0))
    ∙ ap (λ k. left_by ns.block_size op.deed k (m lba)) same

-- the part in another unit leaves the LBA as it is
part_apart : (have : CutsHave) (ns : Namespace) (op : Operation) (unit : ℕ) (m : Medium) (lba : ℕ)
    → (unit ≡ unit_number ns lba → ⊥)
    → medium_after ns.block_size (part_in ns op unit) m lba ≡ m lba
part_apart have ns op unit m lba apart =
    let outside : reaches (part_in ns op unit) lba ≡ false =
    part_reaches have ns op unit lba ∙ and_right _ _ (ne_eqb (unit_number ns lba) unit (λ e. apart (sym e))) in
    rw outside refl

-- an LBA that the operation doesn't reach stays as it is
parts_unreached : (have : CutsHave) (ns : Namespace) (op : Operation) (units : List ℕ) (m : Medium) (lba : ℕ)
    → reaches op lba ≡ false
    → medium_after_parts ns op units m lba ≡ m lba
parts_unreached have ns op [] m lba unreached = refl
parts_unreached have ns op (unit ∷ units) m lba unreached =
    let beyond : reaches (part_in ns op unit) lba ≡ false = part_reaches have ns op unit lba ∙ and_left _ _ unreached in
    parts_unreached have ns op units (medium_after ns.block_size (part_in ns op unit) m) lba unreached ∙ rw beyond refl

-- and so does an LBA of a unit that isn't among these
parts_apart : (have : CutsHave) (ns : Namespace) (op : Operation) (units : List ℕ) (m : Medium) (lba : ℕ)
    → count_by (λ v. v == unit_number ns lba) units ≡ 0
    → medium_after_parts ns op units m lba ≡ m lba
parts_apart have ns op [] m lba none = refl
parts_apart have ns op (unit ∷ units) m lba none =
    elim (cases_eq unit (unit_number ns lba)) [
      | inl e ↦ absurd (omega (arith, none, count_yes (λ v. v == unit_number ns lba) unit units (eq-eqb _ _ e)))
      | inr o ↦
          parts_apart have ns op units (medium_after ns.block_size (part_in ns op unit) m) lba
          (omega (arith, none, count_no (λ v. v == unit_number ns lba) unit units (ne_eqb _ _ o)))
          ∙ part_apart have ns op unit m lba o
    ]

-- an LBA that is reached, and whose unit is among these, is left as the whole leaves it
parts_reached : (have : CutsHave) (ns : Namespace) (op : Operation) (units : List ℕ) (m : Medium) (lba : ℕ)
    → IsSingle op.deed → reaches op lba ≡ true
    → 0 < count_by (λ v. v == unit_number ns lba) units
    → medium_after_parts ns op units m lba ≡ left_by ns.block_size op.deed (lba - op.first) (m lba)
parts_reached have ns op [] m lba single reached some = absurd (omega (arith, some))
parts_reached have ns op (unit ∷ units) m lba single reached some =
    let next = medium_after ns.block_size (part_in ns op unit) m in
    elim (cases_eq unit (unit_number ns lba)) [
      | inl e ↦
          let here = part_here have ns op unit m lba single reached e in
          elim (cases_lt 0 (count_by (λ v. v == unit_number ns lba) units)) [
            | inl more ↦
                parts_reached have ns op units next lba single reached more
                ∙ ap (λ b. left_by ns.block_size op.deed (lba - op.first) b) here
                ∙ left_twice ns.block_size op.deed (lba - op.first) (m lba) single
            | inr none ↦ parts_apart have ns op units next lba (omega (arith, none)) ∙ here
          ]
      | inr o ↦
          parts_reached have ns op units next lba single reached
          (omega (arith, some, count_no (λ v. v == unit_number ns lba) unit units (ne_eqb _ _ o)))
          ∙ ap (λ b. left_by ns.block_size op.deed (lba - op.first) b) (part_apart have ns op unit m lba o)
    ]

-- each unit that the operation meets is among those in order
pub met_among : (ns : Namespace) (op : Operation) (units : List ℕ) (unit : ℕ) → IsOrderOf ns op units
    → 0 < reached_in ns op unit → unit < units_of ns → 0 < count_by (λ v. v == unit) units
unfolding units_where
met_among ns op units unit order some known =
    let met = kept_member (λ u. nat_lt 0 (reached_in ns op u)) 0 (units_of ns) unit
    (lt-ltb 0 (reached_in ns op unit) some) (omega arith) (omega (arith, known)) in
    let same = sum_by-IsPermutation (λ v. cond (v == unit) 1 0) (units_met ns op) units order in
    omega (arith, met, same)

-- and so is the unit of each LBA that it reaches
pub unit_among : (ns : Namespace) (op : Operation) (units : List ℕ) (lba : ℕ) → op.first + op.blocks ≤ ns.nsze
    → IsOrderOf ns op units → reaches op lba ≡ true
    → 0 < count_by (λ v. v == unit_number ns lba) units
unit_among ns op units lba fits order reached =
    let bounds = reached_bounds op lba reached in
    met_among ns op units (unit_number ns lba) order (reached_some ns op (unit_number ns lba) lba reached refl)
    (unit_below ns lba (omega (arith, bounds.1, fits)))

pub parts_medium : (have : CutsHave) (ns : Namespace) (op : Operation) (units : List ℕ) (m : Medium) → IsSingle op.deed
    → op.first + op.blocks ≤ ns.nsze → IsOrderOf ns op units
    → (lba : ℕ) → medium_after_parts ns op units m lba ≡ medium_after ns.block_size op m lba
parts_medium have ns op units m single fits order lba =
    elim (cases_Bool (reaches op lba)) [
      | inl t ↦
          parts_reached have ns op units m lba single t (unit_among ns op units lba fits order t)
          ∙ sym (after_reached ns.block_size op m lba single t)
      | inr f ↦ parts_unreached have ns op units m lba f ∙ rw f refl
    ]
