-- Which LBAs of a range lie in which unit: place i of the range lies in the unit u exactly where
-- blocks_below u ≤ i < blocks_below u + blocks_in u.
use Rattle.std.proofs.Common.{◌≡◌, ◌↔◌, ℕ, zero, suc, ◌+◌, ◌*◌, ◌-◌, ◌<◌, ◌≤◌, false, ◌&&◌, eqb, ltb, List, take, drop, inl, inr, refl, ap, add-zero, arith}
use Rattle.std.specs.Prelude.{count_by, nat_lt, ◌==◌}
use Rattle.std.specs.List.{range_with_len}
use Rattle.std.proofs.lemmas.Bool.{cases_lt, cases_eq, lt-ltb, le-ltb, le-leb, lt-leb, eq-eqb, ne_eqb, and_right}
use Rattle.std.proofs.lemmas.List.{take-take, drop-drop, drop-take}
use Rattle.std.proofs.lemmas.List.FromFn.{length-range_with_len}
use Rattle.std.proofs.lemmas.List.Sums.{count_by-le-length}
use Rattle.nvm_record.specs.declared.block.Block.TheVariants.{Bytes}
use Rattle.nvm_record.specs.Step.{Operation, block_at, is_in_range}
use Rattle.nvm_geometry.specs.Namespace.{Namespace}
use Rattle.nvm_geometry.specs.Boundaries.{unit_number, units_of}
use Rattle.nvm_geometry.specs.Parts.{blocks_below, blocks_in, data_part, part_in}
use Rattle.nvm_geometry.proofs.UnitOrder.{count_rises, unit_below}
use Rattle.nvm_geometry.proofs.Counting.{count_yes, count_no, count_none_pass}

-- where f takes the first number above u, it does so with all
place_above : (f : ℕ → ℕ) (u a n i : ℕ) → ((x y : ℕ) → x ≤ y → f x ≤ f y) → u ≤ f a
    → (i < count_by (λ x. ltb (f x) u) (range_with_len a n)) ↔ (f (a + i) < u)
place_above f u a n i rises high =
    let none = count_none_pass (λ x. ltb (f x) u) a n (λ x low _. le-ltb (f x) u (omega (arith, high, rises a x low))) in
    ((λ h. absurd (omega (arith, h, none))), (λ h. absurd (omega (arith, h, high, rises a (a + i) (omega arith)))))

-- the numbers from a on that f takes below u come first, where f never falls
place_below : (f : ℕ → ℕ) (u a n i : ℕ) → ((x y : ℕ) → x ≤ y → f x ≤ f y) → i < n
    → (i < count_by (λ x. ltb (f x) u) (range_with_len a n)) ↔ (f (a + i) < u)
place_below f u a zero i rises inside = absurd (omega arith)
place_below f u a (suc n) zero rises inside =
    elim (cases_lt (f a) u) [
      | inl l ↦
          ((λ _. rw (add-zero a) l), (λ _. omega (arith, count_yes (λ x. ltb (f x) u) a (range_with_len (a + 1) n) (lt-ltb _ _ l))))
      | inr l ↦ place_above f u a (suc n) 0 rises l
    ]
place_below f u a (suc n) (suc i) rises inside =
    elim (cases_lt (f a) u) [
      | inl l ↦
          let rest = place_below f u (a + 1) n i rises (omega (arith, inside)) in
          let here = count_yes (λ x. ltb (f x) u) a (range_with_len (a + 1) n) (lt-ltb _ _ l) in
          let next : a + suc i ≡ a + 1 + i = omega arith in
          rw next ((λ h. rest.0 (omega (arith, h, here))), (λ h. omega (arith, rest.1 h, here)))
      | inr l ↦ place_above f u a (suc n) (suc i) rises l
    ]

-- what lies below the next unit lies below this one, or in it
below_next : (f : ℕ → ℕ) (u a n : ℕ) → count_by (λ x. ltb (f x) (u + 1)) (range_with_len a n)
    ≡ count_by (λ x. ltb (f x) u) (range_with_len a n) + count_by (λ x. eqb (f x) u) (range_with_len a n)
below_next f u a zero = refl
below_next f u a (suc n) =
    let xs = range_with_len (a + 1) n in
    let rest = below_next f u (a + 1) n in
    elim (cases_lt (f a) u) [
      | inl l ↦
          omega (
            arith,
            rest,
            count_yes (λ x. ltb (f x) (u + 1)) a xs (lt-ltb _ _ (omega (arith, l))),
            count_yes (λ x. ltb (f x) u) a xs (lt-ltb _ _ l),
            count_no (λ x. eqb (f x) u) a xs (ne_eqb _ _ (λ e. omega (arith, e, l))),
          )
      | inr l ↦
          elim (cases_eq (f a) u) [
            | inl e ↦
                omega (
                  arith,
                  rest,
                  count_yes (λ x. ltb (f x) (u + 1)) a xs (lt-ltb _ _ (omega (arith, e))),
                  count_no (λ x. ltb (f x) u) a xs (le-ltb _ _ l),
                  count_yes (λ x. eqb (f x) u) a xs (eq-eqb _ _ e),
                )
            | inr o ↦
                omega (
                  arith,
                  rest,
                  count_no (λ x. ltb (f x) (u + 1)) a xs (le-ltb _ _ (omega (arith, o, l))),
                  count_no (λ x. ltb (f x) u) a xs (le-ltb _ _ l),
                  count_no (λ x. eqb (f x) u) a xs (ne_eqb _ _ o),
                )
          ]
    ]

-- the places of a range that lie in lower units
pub is_below : (ns : Namespace) (first blocks unit i : ℕ) → i < blocks
    → (i < blocks_below ns first blocks unit) ↔ (unit_number ns (first + i) < unit)
unfolding blocks_below
is_below ns first blocks unit i inside = place_below (λ lba. unit_number ns lba) unit first blocks i (count_rises ns.nabsn ns.nabo) inside

pub blocks_below_next : (ns : Namespace) (first blocks unit : ℕ)
    → blocks_below ns first blocks (unit + 1) ≡ blocks_below ns first blocks unit + blocks_in ns first blocks unit
unfolding blocks_below blocks_in
blocks_below_next ns first blocks unit = below_next (λ lba. unit_number ns lba) unit first blocks

pub blocks_below_few : (ns : Namespace) (first blocks unit : ℕ) → blocks_below ns first blocks unit ≤ blocks
unfolding blocks_below
blocks_below_few ns first blocks unit =
    omega (arith, count_by-le-length (λ lba. nat_lt (unit_number ns lba) unit) (range_with_len first blocks), length-range_with_len first blocks)

-- nothing lies below unit 0, and all of a range in the namespace below the units' number
pub blocks_below_first : (ns : Namespace) (first blocks : ℕ) → blocks_below ns first blocks 0 ≡ 0
unfolding blocks_below
blocks_below_first ns first blocks =
    count_none_pass (λ lba. nat_lt (unit_number ns lba) 0) first blocks (λ lba _ _. le-ltb (unit_number ns lba) 0 (omega arith))

pub blocks_below_all : (ns : Namespace) (first blocks : ℕ) → first + blocks ≤ ns.nsze → blocks_below ns first blocks (units_of ns) ≡ blocks
blocks_below_all ns first zero inside = omega (arith, blocks_below_few ns first 0 (units_of ns))
blocks_below_all ns first (suc blocks) inside =
    omega (
      arith,
      blocks_below_few ns first (suc blocks) (units_of ns),
      (is_below ns first (suc blocks) (units_of ns) blocks (omega arith)).1 (unit_below ns (first + blocks) (omega (arith, inside))),
    )

-- the part's place
pub part_inside : (ns : Namespace) (first blocks unit : ℕ) → blocks_below ns first blocks unit + blocks_in ns first blocks unit ≤ blocks
part_inside ns first blocks unit =
    omega (arith, blocks_below_next ns first blocks unit, blocks_below_few ns first blocks (unit + 1))

-- a place that lies in the unit is one of the part's
pub place_in : (ns : Namespace) (first blocks unit i : ℕ) → i < blocks → unit_number ns (first + i) ≡ unit
    → (blocks_below ns first blocks unit ≤ i) × (i < blocks_below ns first blocks unit + blocks_in ns first blocks unit)
place_in ns first blocks unit i inside here = (
  elim (cases_lt i (blocks_below ns first blocks unit)) [
    | inl l ↦ absurd (omega (arith, (is_below ns first blocks unit i inside).0 l, here))
    | inr l ↦ l
  ],
  omega (arith, (is_below ns first blocks (unit + 1) i inside).1 (omega (arith, here)), blocks_below_next ns first blocks unit),
)

-- a place of the part lies in the unit
pub place_here : (ns : Namespace) (first blocks unit i : ℕ) → i < blocks_in ns first blocks unit
    → unit_number ns (first + (blocks_below ns first blocks unit + i)) ≡ unit
place_here ns first blocks unit i inside =
    let place = blocks_below ns first blocks unit + i in
    let few : place < blocks = omega (arith, part_inside ns first blocks unit, inside) in
    let low = (is_below ns first blocks (unit + 1) place few).0 (omega (arith, blocks_below_next ns first blocks unit, inside)) in
    elim (cases_lt (unit_number ns (first + place)) unit) [
      | inl l ↦ absurd (omega (arith, (is_below ns first blocks unit place few).1 l))
      | inr l ↦ omega (arith, low, l)
    ]

-- the data at a place of the part
pub part_data_at : (size skipped blocks i : ℕ) (payload : List ℕ) → i < blocks
    → take size (drop (i * size) (data_part size skipped blocks payload)) ≡ take size (drop ((skipped + i) * size) payload)
part_data_at size skipped blocks i payload inside =
    let k = blocks - i - 1 in
    let whole : blocks ≡ i + (k + 1) = omega (arith, inside) in
    let split : (i + (k + 1)) * size ≡ i * size + (k + 1) * size = omega arith in
    let joined : skipped * size + i * size ≡ (skipped + i) * size = omega arith in
    rw (
      whole,
      split,
      drop-take (i * size) ((k + 1) * size) (drop (skipped * size) payload),
      take-take size ((k + 1) * size) (drop (i * size) (drop (skipped * size) payload)) (omega arith),
      drop-drop (i * size) (skipped * size) payload,
      joined,
    ) refl

pub block_of_part : (size skipped blocks i : ℕ) (payload : List ℕ) → i < blocks
    → block_at size (data_part size skipped blocks payload) i ≡ block_at size payload (skipped + i)
block_of_part size skipped blocks i payload inside = ap Bytes (part_data_at size skipped blocks i payload inside)

-- for an LBA of the range
inside_lbas : (ns : Namespace) (op : Operation) (unit lba : ℕ) → op.first ≤ lba → lba < op.first + op.blocks
    → is_in_range (part_in ns op unit) lba ≡ (is_in_range op lba && (unit_number ns lba == unit))
inside_lbas ns op unit lba low high =
    let i = lba - op.first in
    let place : op.first + i ≡ lba = omega (arith, low) in
    elim (cases_eq (unit_number ns lba) unit) [
      | inl e ↦
          let here = place_in ns op.first op.blocks unit i (omega (arith, low, high)) (rw place e) in
          rw (
            le-leb op.first lba low,
            lt-ltb lba (op.first + op.blocks) high,
            eq-eqb (unit_number ns lba) unit e,
            le-leb (op.first + blocks_below ns op.first op.blocks unit) lba (omega (arith, here.0, low)),
            lt-ltb lba (op.first + blocks_below ns op.first op.blocks unit + blocks_in ns op.first op.blocks unit) (omega (arith, here.1, low)),
          ) refl
      | inr o ↦
          rw (le-leb op.first lba low, lt-ltb lba (op.first + op.blocks) high, ne_eqb (unit_number ns lba) unit o)
          (elim (cases_lt i (blocks_below ns op.first op.blocks unit)) [
            | inl b ↦ rw (lt-leb (op.first + blocks_below ns op.first op.blocks unit) lba (omega (arith, b, low))) refl
            | inr b ↦
                elim (cases_lt i (blocks_below ns op.first op.blocks unit + blocks_in ns op.first op.blocks unit)) [
                  | inl w ↦
                      let j = i - blocks_below ns op.first op.blocks unit in
                      let same : op.first + (blocks_below ns op.first op.blocks unit + j) ≡ lba = omega (arith, b, low) in
                      absurd (o (rw same at (place_here ns op.first op.blocks unit j (omega (arith, b, w)))))
                  | inr w ↦
                      rw (le-ltb lba (op.first + blocks_below ns op.first op.blocks unit + blocks_in ns op.first op.blocks unit) (omega (arith, w, low)))
                      (and_right _ false refl)
                ]
          ])
    ]

-- the part has exactly the LBAs of the range that lie in the unit
pub part_lbas : (ns : Namespace) (op : Operation) (unit lba : ℕ)
    → is_in_range (part_in ns op unit) lba ≡ (is_in_range op lba && (unit_number ns lba == unit))
part_lbas ns op unit lba =
    elim (cases_lt lba op.first) [
      | inl l ↦ rw (lt-leb op.first lba l, lt-leb (op.first + blocks_below ns op.first op.blocks unit) lba (omega (arith, l))) refl
      | inr l ↦
          elim (cases_lt lba (op.first + op.blocks)) [
            | inl h ↦ inside_lbas ns op unit lba l h
            | inr h ↦
                rw (
                  le-leb op.first lba l,
                  le-ltb lba (op.first + op.blocks) h,
                  le-ltb lba (op.first + blocks_below ns op.first op.blocks unit + blocks_in ns op.first op.blocks unit)
                      (omega (arith, h, part_inside ns op.first op.blocks unit)),
                )
                (and_right _ false refl)
          ]
    ]
