-- The pieces of a range in line, by the front of what is left.
use Rattle.std.proofs.Common.{◌≡◌, ℕ, zero, suc, ◌+◌, ◌-◌, ◌<◌, ◌≤◌, List, [], ◌∷◌, map, inl, inr, refl, ap, add-zero, arith}
use Rattle.std.specs.Prelude.{All}
use Rattle.std.proofs.lemmas.Bool.{cases_lt, cases_eq}
use Rattle.std.proofs.lemmas.List.Elements.{All-nil, All-cons}
use Rattle.nvm_geometry.specs.Namespace.{Namespace}
use Rattle.nvm_geometry.specs.Boundaries.{unit_number}
use Rattle.nvm_geometry.specs.Parts.{blocks_below, blocks_in, units_of_range, piece_in, pieces_of, AreInLine, IsInUnit}
use Rattle.nvm_geometry.proofs.UnitOrder.{count_rises, unit_below}
use Rattle.nvm_geometry.proofs.Places.{is_below, part_inside, place_in, place_here}
use Rattle.nvm_geometry.proofs.Pieces.{IsFront, pieces_none, pieces_front}

-- every range with a block has a front: its LBAs in the first one's unit
front_exists : (ns : Namespace) (at left : ℕ) → 0 < left → IsFront ns at left (blocks_in ns at left (unit_number ns at)) (unit_number ns at)
front_exists ns at left some =
    let unit = unit_number ns at in
    let start : at + 0 ≡ at = add-zero at in
    let none : blocks_below ns at left unit ≡ 0 =
    elim (cases_lt 0 (blocks_below ns at left unit)) [
      | inl l ↦ absurd (omega (arith, rw start at ((is_below ns at left unit 0 some).0 l)))
      | inr l ↦ omega (arith, l)
    ] in
    let first = place_in ns at left unit 0 some (rw start refl) in
    record {
      some = omega (arith, first.1, none);
      inside = omega (arith, part_inside ns at left unit);
      here = λ lba low high.
          let j = lba - at in
          let same : at + (blocks_below ns at left unit + j) ≡ lba = omega (arith, none, low) in
          rw same at (place_here ns at left unit j (omega (arith, low, high)));
      beyond = λ lba low high.
          let j = lba - at in
          let same : at + j ≡ lba = omega (arith, low) in
          elim (cases_eq (unit_number ns lba) unit) [
            | inl e ↦ absurd (omega (arith, (place_in ns at left unit j (omega (arith, low, high)) (rw same e)).1, none, low))
            | inr o ↦ omega (arith, o, count_rises ns.nabsn ns.nabo at lba (omega (arith, low)))
          ];
    }

-- the pieces, with a bound on the blocks that are left
in_line : (ns : Namespace) (bound at left : ℕ) → left ≤ bound → at + left ≤ ns.nsze → AreInLine at left (pieces_of ns at left)
in_line ns bound at zero few inside = rw (pieces_none ns at) refl
in_line ns zero at (suc left) few inside = absurd (omega arith)
in_line ns (suc bound) at (suc left) few inside =
    let unit = unit_number ns at in
    let n = blocks_in ns at (suc left) unit in
    let front = front_exists ns at (suc left) (omega arith) in
    rw (pieces_front ns at (suc left) n unit front (unit_below ns at (omega (arith, inside)))) (
      refl,
      front.some,
      front.inside,
      in_line ns bound (at + n) (suc left - n) (omega (arith, front.some, front.inside, few)) (omega (arith, front.inside, inside)),
    )

in_unit : (ns : Namespace) (bound at left : ℕ) → left ≤ bound → at + left ≤ ns.nsze → All (IsInUnit ns) (pieces_of ns at left)
in_unit ns bound at zero few inside = rw (pieces_none ns at) (All-nil (IsInUnit ns))
in_unit ns zero at (suc left) few inside = absurd (omega arith)
in_unit ns (suc bound) at (suc left) few inside =
    let unit = unit_number ns at in
    let n = blocks_in ns at (suc left) unit in
    let front = front_exists ns at (suc left) (omega arith) in
    let known = unit_below ns at (omega (arith, inside)) in
    rw (pieces_front ns at (suc left) n unit front known)
    (All-cons (IsInUnit ns) (record { unit = unit; first = at; blocks = n }) (pieces_of ns (at + n) (suc left - n))
    record { known = known; lies = front.here }
    (in_unit ns bound (at + n) (suc left - n) (omega (arith, front.some, front.inside, few)) (omega (arith, front.inside, inside))))

pub pieces_in_line : (ns : Namespace) (first blocks : ℕ) → first + blocks ≤ ns.nsze → AreInLine first blocks (pieces_of ns first blocks)
pieces_in_line ns first blocks inside = in_line ns blocks first blocks (omega arith) inside

pub pieces_in_unit : (ns : Namespace) (first blocks : ℕ) → first + blocks ≤ ns.nsze → All (IsInUnit ns) (pieces_of ns first blocks)
pieces_in_unit ns first blocks inside = in_unit ns blocks first blocks (omega arith) inside

-- each piece is the one of its unit
pub pieces_of_units : (ns : Namespace) (first blocks : ℕ) → All (λ p. p ≡ piece_in ns first blocks p.unit) (pieces_of ns first blocks)
pieces_of_units ns first blocks = each (units_of_range ns first blocks)
  where
    each : (units : List ℕ) → All (λ p. p ≡ piece_in ns first blocks p.unit) (map (piece_in ns first blocks) units)
    each [] = All-nil (λ p. p ≡ piece_in ns first blocks p.unit)
    each (u ∷ us) =
        All-cons (λ p. p ≡ piece_in ns first blocks p.unit) (piece_in ns first blocks u) (map (piece_in ns first blocks) us) refl (each us)

-- and there is one for each unit that the range meets
pub units_of_pieces : (ns : Namespace) (first blocks : ℕ) → map (λ p. p.unit) (pieces_of ns first blocks) ≡ units_of_range ns first blocks
units_of_pieces ns first blocks = each (units_of_range ns first blocks)
  where
    each : (units : List ℕ) → map (λ p. p.unit) (map (piece_in ns first blocks) units) ≡ units
    each [] = refl
    each (u ∷ us) = ap (λ vs. u ∷ vs) (each us)
