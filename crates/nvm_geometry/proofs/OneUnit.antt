-- A range in one unit has one part, which is the whole.
use Rattle.std.proofs.Common.{◌≡◌, ℕ, ◌+◌, ◌*◌, ◌-◌, ◌<◌, ◌≤◌, List, [], ◌∷◌, length, true, inl, inr, refl, sym, ap, ap₂, ◌∙◌, add-zero, arith}
use Rattle.std.proofs.lemmas.Bool.{cases_lt, le-ltb, lt-ltb}
use Rattle.std.proofs.lemmas.List.{take_all}
use Rattle.nvm_record.specs.Ranges.{cut_ranges}
use Rattle.nvm_record.specs.Step.{HasData, HasRangesWithin, Deed, Operation, writes, zeroes, uncorrectable, reads, compares, pairs, deallocates, reaches}
use Rattle.nvm_geometry.specs.Namespace.{Namespace}
use Rattle.nvm_geometry.specs.Boundaries.{unit_number, units_of}
use Rattle.nvm_geometry.specs.Limits.{LiesInUnit}
use Rattle.nvm_geometry.specs.Parts.{data_part, deed_part, reached_in, meets, units_met, units_where, part_in}
use Rattle.nvm_geometry.proofs.UnitOrder.{count_rises, unit_below, same_number}
use Rattle.nvm_geometry.proofs.Pieces.{IsFront, below_here, in_here, kept_one}
use Rattle.nvm_geometry.proofs.Reached.{CutsStay, lba_reached, reached_bounds, reached_some, some_reached}

-- the whole range is a front
one_front : (ns : Namespace) (first blocks : ℕ) → 0 < blocks → LiesInUnit ns first blocks → IsFront ns first blocks blocks (unit_number ns first)
one_front ns first blocks some one = record {
  some = some;
  inside = omega arith;
  here = λ lba low high. omega (
    arith,
    same_number ns first (first + blocks - 1) one,
    count_rises ns.nabsn ns.nabo first lba low,
    count_rises ns.nabsn ns.nabo lba (first + blocks - 1) (omega (arith, high)),
  );
  beyond = λ lba low high. absurd (omega (arith, low, high));
}

-- where all that is reached lies in one unit, that unit alone is met
pub one_unit_reached : (ns : Namespace) (op : Operation) (unit lba : ℕ) → op.first + op.blocks ≤ ns.nsze
    → reaches op lba ≡ true
    → ((x : ℕ) → reaches op x ≡ true → unit_number ns x ≡ unit) → units_met ns op ≡ unit ∷ []
unfolding units_where
one_unit_reached ns op unit lba inside reached alone =
    let here = alone lba reached in
    let bounds = reached_bounds op lba reached in
    kept_one (λ v. meets ns op v) (units_of ns) unit
    (lt-ltb 0 (reached_in ns op unit) (reached_some ns op unit lba reached here))
    (omega (arith, here, unit_below ns lba (omega (arith, bounds.1, inside))))
    (λ v other. le-ltb 0 (reached_in ns op v)
    (elim (cases_lt 0 (reached_in ns op v)) [
      | inl l ↦ let found = some_reached ns op v l in absurd (other (sym found.2 ∙ alone found.0 found.1))
      | inr h ↦ h
    ]))

pub one_unit : (ns : Namespace) (op : Operation) → 0 < op.blocks → op.first + op.blocks ≤ ns.nsze
    → LiesInUnit ns op.first op.blocks
    → HasRangesWithin op.first op.blocks op.deed → units_met ns op ≡ unit_number ns op.first ∷ []
one_unit ns op some inside one within =
    let found = lba_reached op some within in
    one_unit_reached ns op (unit_number ns op.first) found.0 inside found.1
    (λ x reached.
    let bounds = reached_bounds op x reached in
    (one_front ns op.first op.blocks some one).here x bounds.0 bounds.1)

-- all of the data
data_whole : (size blocks : ℕ) (payload : List ℕ) → length payload ≡ blocks * size → data_part size 0 blocks payload ≡ payload
data_whole size blocks payload long =
    let none : 0 * size ≡ 0 = omega arith in
    rw none (take_all (blocks * size) payload (omega (arith, long)))

deed_whole : (stay : CutsStay) (size first blocks : ℕ) (deed : Deed) → HasData (blocks * size) deed
    → HasRangesWithin first blocks deed
    → deed_part size first 0 blocks deed ≡ deed
deed_whole stay size first blocks (writes payload) has within = ap writes (data_whole size blocks payload has)
deed_whole stay size first blocks zeroes has within = refl
deed_whole stay size first blocks uncorrectable has within = refl
deed_whole stay size first blocks reads has within = refl
deed_whole stay size first blocks (compares payload) has within = ap compares (data_whole size blocks payload has)
deed_whole stay size first blocks (pairs payload new) has within =
    ap₂ pairs (data_whole size blocks payload has.0) (data_whole size blocks new has.1)
deed_whole stay size first blocks (deallocates ranges) has within =
    ap (λ from. deallocates (cut_ranges from blocks ranges)) (add-zero first)
    ∙ ap deallocates (stay first blocks ranges within)

pub one_part : (stay : CutsStay) (ns : Namespace) (op : Operation) → 0 < op.blocks → op.first + op.blocks ≤ ns.nsze
    → LiesInUnit ns op.first op.blocks
    → HasData (op.blocks * ns.block_size) op.deed → HasRangesWithin op.first op.blocks op.deed
    → part_in ns op (unit_number ns op.first) ≡ op
one_part stay ns op some inside one has within =
    let front = one_front ns op.first op.blocks some one in
    rw (
      below_here ns op.first op.blocks op.blocks (unit_number ns op.first) front,
      in_here ns op.first op.blocks op.blocks (unit_number ns op.first) front,
      add-zero,
      deed_whole stay ns.block_size op.first op.blocks op.deed has within,
    ) refl
