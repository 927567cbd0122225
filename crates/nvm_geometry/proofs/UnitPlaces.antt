-- Where units lie, and where an operation's parts lie in them.
use Rattle.std.proofs.Common.{◌≡◌, ◌↔◌, ℕ, zero, suc, ◌+◌, ◌*◌, ◌-◌, ◌<◌, ◌≤◌, min, max, Bool, true, false, List, [], ◌∷◌, length, drop, inl, inr, refl, sym, ap, ◌∙◌, IsTrue, arith}
use Rattle.std.specs.Prelude.{◌≢◌, All, Contains, filter, nat_lt}
use Rattle.std.specs.List.{range_with_len}
use Rattle.std.proofs.Math.Path.{fun_ext}
use Rattle.std.proofs.lemmas.Bool.{cases_Bool, cases_lt, cases_eq, le-ltb, lt-ltb, ltb-true, false≢true}
use Rattle.std.proofs.lemmas.List.{length-drop, length-take-le}
use Rattle.std.proofs.lemmas.List.Elements.{All-nil, All-cons, All-contains, All-filter, filter_passes, Contains-append_left, Contains-append_right, Contains-push}
use Rattle.std.proofs.lemmas.List.FromFn.{length-range_with_len}
use Rattle.std.proofs.lemmas.List.Sums.{count_by-le-length, length-filter}
use Rattle.std.proofs.Math.Nat.{mul-le-mul_right}
use Rattle.nvm_record.specs.Deeds.{IsOnRange}
use Rattle.nvm_record.specs.Step.{HasData, Deed, Operation, writes, zeroes, uncorrectable, reads, compares, pairs, deallocates, HasRangesWithin, reaches}
use Rattle.nvm_geometry.specs.Namespace.{Namespace}
use Rattle.nvm_geometry.specs.Boundaries.{unit_number, units_of}
use Rattle.nvm_geometry.specs.Parts.{blocks_below, blocks_in, reached_in, units_of_range, units_where, meets, units_met, piece_in, data_part, deed_part, part_in}
use Rattle.nvm_geometry.specs.Place.{IsPlaceOf}
use Rattle.nvm_geometry.proofs.UnitOrder.{count_none, count_rises, number_reached, range_some, unit_below}
use Rattle.nvm_geometry.proofs.Counting.{count_none_pass, count_front_passes, count_front_fails}
use Rattle.nvm_geometry.proofs.Pieces.{filter_none}
use Rattle.nvm_geometry.proofs.Places.{part_inside, place_in, place_here}
use Rattle.nvm_geometry.proofs.Reached.{lba_reached, reached_all, reached_block, reached_known, reached_some, some_reached}

-- the place of a unit between the first LBA of its own and the first of the next
pub place_from_starts : (ns : Namespace) (unit first next : ℕ) → 0 < ns.nsze → unit < units_of ns
    → ((lba : ℕ) → (first ≤ lba) ↔ (unit ≤ unit_number ns lba))
    → ((lba : ℕ) → (next ≤ lba) ↔ (unit + 1 ≤ unit_number ns lba))
    → IsPlaceOf ns unit first (min next ns.nsze - first)
place_from_starts ns unit first next some known reaches passes =
    let less : first < min next ns.nsze = range_some ns.nabsn ns.nabo unit first next ns.nsze reaches passes some known in
    record {
      some = omega arith;
      inside = omega arith;
      lies = λ lba low high.
          elim (cases_lt (unit_number ns lba) (unit + 1)) [
            | inl l ↦ omega (arith, l, (reaches lba).0 low)
            | inr h ↦ absurd (omega (arith, (passes lba).1 h, low, high))
          ];
      whole = λ lba inside here. (
        (reaches lba).1 (omega (arith, here)),
        elim (cases_lt lba next) [
          | inl l ↦ omega (arith, l, inside, (reaches lba).1 (omega (arith, here)))
          | inr h ↦ absurd (omega (arith, (passes lba).0 h, here))
        ],
      );
    }

-- where there is no boundary, the only unit is the whole namespace
pub place_of_all : (ns : Namespace) (unit : ℕ) → ns.nabsn ≡ 0 → 0 < ns.nsze → unit < units_of ns → IsPlaceOf ns unit 0 ns.nsze
place_of_all ns unit none some known =
    record {
      some = some;
      inside = omega arith;
      lies = λ lba low high.
          omega (arith, known, count_none ns.nabsn ns.nabo lba none, count_none ns.nabsn ns.nabo (ns.nsze - 1) none);
      whole = λ lba inside here. (omega arith, omega (arith, inside));
    }

-- two places of one unit
pub one_place : (ns : Namespace) (unit first blocks start count : ℕ) → IsPlaceOf ns unit first blocks → IsPlaceOf ns unit start count
    → (first ≡ start) × (blocks ≡ count)
one_place ns unit first blocks start count p q =
    let a = q.whole first (omega (arith, p.some, p.inside)) (p.lies first (omega arith) (omega (arith, p.some))) in
    let b = p.whole start (omega (arith, q.some, q.inside)) (q.lies start (omega arith) (omega (arith, q.some))) in
    let y = q.whole (first + blocks - 1) (omega (arith, p.some, p.inside)) (p.lies (first + blocks - 1) (omega (arith, p.some)) (omega (arith, p.some))) in
    let z = p.whole (start + count - 1) (omega (arith, q.some, q.inside)) (q.lies (start + count - 1) (omega (arith, q.some)) (omega (arith, q.some))) in
    (omega (arith, a.0, b.0), omega (arith, a.0, b.0, y.1, z.1, p.some, q.some))

-- the place is the piece of the whole namespace in the unit
pub place_exists : (ns : Namespace) (unit : ℕ) → 0 < ns.nsze → unit < units_of ns
    → IsPlaceOf ns unit (piece_in ns 0 ns.nsze unit).first (piece_in ns 0 ns.nsze unit).blocks
place_exists ns unit some known =
    let r = number_reached ns unit (ns.nsze - 1) (omega (arith, known)) in
    let from : (lba : ℕ) → lba < ns.nsze → unit_number ns lba ≡ unit
    → (0 + blocks_below ns 0 ns.nsze unit ≤ lba) × (lba < 0 + blocks_below ns 0 ns.nsze unit + blocks_in ns 0 ns.nsze unit) =
    λ lba inside here.
    let start : 0 + lba ≡ lba = omega arith in
    let at = place_in ns 0 ns.nsze unit lba inside (rw start here) in
    (omega (arith, at.0), omega (arith, at.1)) in
    let reached = from r.0 (omega (arith, r.1, some)) r.2 in
    record {
      some = omega (arith, reached.0, reached.1);
      inside = omega (arith, part_inside ns 0 ns.nsze unit);
      lies = λ lba low high.
          let i = lba - blocks_below ns 0 ns.nsze unit in
          let same : 0 + (blocks_below ns 0 ns.nsze unit + i) ≡ lba = omega (arith, low) in
          rw same at (place_here ns 0 ns.nsze unit i (omega (arith, low, high)));
      whole = from;
    }

-- the part of a range in a unit lies in the unit's place
pub part_in_place : (ns : Namespace) (first blocks unit start count : ℕ) → first + blocks ≤ ns.nsze → IsPlaceOf ns unit start count
    → 0 < blocks_in ns first blocks unit
    → (start ≤ first + blocks_below ns first blocks unit)
    × (first + blocks_below ns first blocks unit + blocks_in ns first blocks unit ≤ start + count)
part_in_place ns first blocks unit start count inside place some =
    let below = blocks_below ns first blocks unit in
    let last = blocks_in ns first blocks unit - 1 in
    let few = part_inside ns first blocks unit in
    let low = place.whole (first + (below + 0)) (omega (arith, inside, few, some)) (place_here ns first blocks unit 0 some) in
    let high = place.whole (first + (below + last)) (omega (arith, inside, few, some)) (place_here ns first blocks unit last (omega (arith, some))) in
    (omega (arith, low.0), omega (arith, high.1, some))

-- the part is all of the range that lies in the place
pub part_is_overlap : (ns : Namespace) (first blocks unit start count : ℕ) → first + blocks ≤ ns.nsze → IsPlaceOf ns unit start count
    → max first start < min (first + blocks) (start + count)
    → (first + blocks_below ns first blocks unit ≡ max first start)
    × (blocks_in ns first blocks unit ≡ min (first + blocks) (start + count) - max first start)
part_is_overlap ns first blocks unit start count inside place some =
    let low = max first start in
    let past = min (first + blocks) (start + count) in
    let i = low - first in
    let j = past - 1 - first in
    let at : first + i ≡ low = omega arith in
    let end : first + j ≡ past - 1 = omega (arith, some) in
    let front = place_in ns first blocks unit i (omega (arith, some)) (rw at (place.lies low (omega arith) (omega (arith, some)))) in
    let back = place_in ns first blocks unit j (omega (arith, some)) (rw end (place.lies (past - 1) (omega (arith, some)) (omega (arith, some)))) in
    let fits = part_in_place ns first blocks unit start count inside place (omega (arith, front.0, front.1)) in
    let few = part_inside ns first blocks unit in
    (omega (arith, front.0, fits.0, at), omega (arith, front.0, back.1, fits.0, fits.1, few, at, end))

-- and there is none where nothing of it does
pub no_overlap : (ns : Namespace) (first blocks unit start count : ℕ) → first + blocks ≤ ns.nsze → IsPlaceOf ns unit start count
    → min (first + blocks) (start + count) ≤ max first start → blocks_in ns first blocks unit ≡ 0
no_overlap ns first blocks unit start count inside place none =
    elim (cases_eq (blocks_in ns first blocks unit) 0) [
      | inl e ↦ e
      | inr some ↦
          let fits = part_in_place ns first blocks unit start count inside place (omega (arith, some)) in
          absurd (omega (arith, fits.0, fits.1, some, none, part_inside ns first blocks unit))
    ]

-- nor in a unit that isn't the namespace's
pub no_unit : (ns : Namespace) (first blocks unit : ℕ) → first + blocks ≤ ns.nsze → units_of ns ≤ unit → blocks_in ns first blocks unit ≡ 0
no_unit ns first blocks unit inside beyond =
    elim (cases_eq (blocks_in ns first blocks unit) 0) [
      | inl e ↦ e
      | inr some ↦
          let few = part_inside ns first blocks unit in
          let lba = first + (blocks_below ns first blocks unit + 0) in
          let here : unit_number ns lba ≡ unit = place_here ns first blocks unit 0 (omega (arith, some)) in
          absurd (omega (arith, here, beyond, unit_below ns lba (omega (arith, inside, few, some))))
    ]

contains_behind : (x u : ℕ) (xs : List ℕ) → Contains xs u → Contains (x ∷ xs) u
contains_behind x u xs h = Contains-append_right (x ∷ []) xs u h

-- a number of the range that passes is kept
contains_kept : (p : ℕ → Bool) (a n u : ℕ) → p u ≡ true → a ≤ u → u < a + n → Contains (filter p (range_with_len a n)) u
contains_kept p a zero u passes low high = absurd (omega arith)
contains_kept p a (suc n) u passes low high =
    elim (cases_eq a u) [
      | inl e ↦ rw (e, passes) (Contains-append_left (u ∷ []) (filter p (range_with_len (u + 1) n)) u (Contains-push [] u))
      | inr o ↦
          let rest = contains_kept p (a + 1) n u passes (omega (arith, o, low)) (omega (arith, high)) in
          elim (cases_Bool (p a)) [
            | inl t ↦ rw t (contains_behind a u (filter p (range_with_len (a + 1) n)) rest)
            | inr f ↦ rw f rest
          ]
    ]

-- and each that is kept is a number of the range
kept_below : (p : ℕ → Bool) (n u : ℕ) → Contains (filter p (range_with_len 0 n)) u → u < n
kept_below p n u kept =
    All-contains (λ v. v < n) (filter p (range_with_len 0 n)) u
    (All-filter p (λ v. v < n) (range_with_len 0 n) (numbers_below 0 n n (omega arith))) kept
  where
    numbers_below : (a n end : ℕ) → a + n ≤ end → All (λ v. v < end) (range_with_len a n)
    numbers_below a zero end few = All-nil (λ v. v < end)
    numbers_below a (suc n) end few =
        All-cons (λ v. v < end) a (range_with_len (a + 1) n) (omega (arith, few))
        (numbers_below (a + 1) n end (omega (arith, few)))

-- an operation meets the units in which it reaches an LBA
pub unit_is_met : (ns : Namespace) (op : Operation) (unit : ℕ) → op.first + op.blocks ≤ ns.nsze
    → Contains (units_met ns op) unit ↔ (0 < reached_in ns op unit)
unfolding units_where
unit_is_met ns op unit inside = (
  (λ h. ltb-true 0 (reached_in ns op unit)
      (All-contains (λ v. nat_lt 0 (reached_in ns op v) ≡ true) _ unit
      (filter_passes (λ v. nat_lt 0 (reached_in ns op v)) (range_with_len 0 (units_of ns))) h)),
  (λ some. contains_kept (λ v. nat_lt 0 (reached_in ns op v)) 0 (units_of ns) unit (lt-ltb _ _ some) (omega arith)
      (omega (arith, reached_known ns op unit inside some))),
)

-- data of `n` blocks has that of each part
data_part_length : (size n skipped blocks : ℕ) (payload : List ℕ) → length payload ≡ n * size → skipped + blocks ≤ n
    → length (data_part size skipped blocks payload) ≡ blocks * size
data_part_length size n skipped blocks payload long few =
    let most : (skipped + blocks) * size ≤ n * size = mul-le-mul_right {m = skipped + blocks} {n = n} size few in
    let split : (skipped + blocks) * size ≡ skipped * size + blocks * size = omega arith in
    length-take-le (blocks * size) (drop (skipped * size) payload) (omega (arith, length-drop (skipped * size) payload))

part_data : (size n first skipped blocks : ℕ) (deed : Deed) → HasData (n * size) deed → skipped + blocks ≤ n
    → HasData (blocks * size) (deed_part size first skipped blocks deed)
part_data size n first skipped blocks (writes payload) has few = data_part_length size n skipped blocks payload has few
part_data size n first skipped blocks zeroes has few = tt
part_data size n first skipped blocks uncorrectable has few = tt
part_data size n first skipped blocks reads has few = tt
part_data size n first skipped blocks (compares payload) has few =
    data_part_length size n skipped blocks payload has few
part_data size n first skipped blocks (pairs payload new) has few =
    (data_part_length size n skipped blocks payload has.0 few, data_part_length size n skipped blocks new has.1 few)
part_data size n first skipped blocks (deallocates ranges) has few = tt

pub part_has_data : (ns : Namespace) (op : Operation) (unit : ℕ) → HasData (op.blocks * ns.block_size) op.deed
    → HasData ((part_in ns op unit).blocks * ns.block_size) (part_in ns op unit).deed
part_has_data ns op unit has =
    part_data ns.block_size op.blocks op.first (blocks_below ns op.first op.blocks unit)
    (blocks_in ns op.first op.blocks unit) op.deed has
    (part_inside ns op.first op.blocks unit)

pub lba_is_met : (ns : Namespace) (op : Operation) (unit : ℕ) → op.first + op.blocks ≤ ns.nsze
    → Contains (units_met ns op) unit ↔ ((lba : ℕ) × (reaches op lba ≡ true) × (unit_number ns lba ≡ unit))
lba_is_met ns op unit inside = (
  (λ met. some_reached ns op unit ((unit_is_met ns op unit inside).0 met)),
  (λ found. (unit_is_met ns op unit inside).1 (reached_some ns op unit found.0 found.1 found.2)),
)

pub test_is_met : (ns : Namespace) (op : Operation) (unit : ℕ) → op.first + op.blocks ≤ ns.nsze
    → Contains (units_met ns op) unit ↔ IsTrue (meets ns op unit)
test_is_met ns op unit inside = (
  (λ met. lt-ltb 0 (reached_in ns op unit) ((unit_is_met ns op unit inside).0 met)),
  (λ test. (unit_is_met ns op unit inside).1 (ltb-true 0 (reached_in ns op unit) test)),
)

-- the units met are units of the namespace
pub met_known : (ns : Namespace) (op : Operation) (unit : ℕ) → Contains (units_met ns op) unit → unit < units_of ns
unfolding units_where
met_known ns op unit met = kept_below (λ v. nat_lt 0 (reached_in ns op v)) (units_of ns) unit met

-- there is one where an LBA is reached
pub units_some : (ns : Namespace) (op : Operation) → 0 < op.blocks → op.first + op.blocks ≤ ns.nsze
    → HasRangesWithin op.first op.blocks op.deed → units_met ns op ≢ []
units_some ns op some inside within none =
    let found = lba_reached op some within in
    let met : Contains (units_met ns op) (unit_number ns found.0) =
    (lba_is_met ns op (unit_number ns found.0) inside).1 (found.0, found.1, refl) in
    omega (arith, met.1, ap length none)

-- and none where none is
pub units_unmet : (ns : Namespace) (op : Operation) → ((lba : ℕ) → reaches op lba ≡ false) → units_met ns op ≡ []
unfolding units_where
units_unmet ns op unreached =
    ap (λ test. units_where ns test) (fun_ext (λ unit. le-ltb 0 (reached_in ns op unit)
    (elim (cases_lt 0 (reached_in ns op unit)) [
      | inl l ↦ let found = some_reached ns op unit l in absurd (false≢true (sym (unreached found.0) ∙ found.1))
      | inr h ↦ h
    ])))
    ∙ filter_none (range_with_len 0 (units_of ns))

-- in a unit that isn't met nothing is reached
pub lba_unmet : (ns : Namespace) (op : Operation) (lba : ℕ) → op.first + op.blocks ≤ ns.nsze
    → ¬ (Contains (units_met ns op) (unit_number ns lba)) → reaches op lba ≡ false
lba_unmet ns op lba inside unmet =
    elim (cases_Bool (reaches op lba)) [
      | inl t ↦ absurd (unmet ((lba_is_met ns op (unit_number ns lba) inside).1 (lba, t, refl)))
      | inr f ↦ f
    ]

-- a deed on its range meets those in which its part has a block
pub block_is_met : (ns : Namespace) (op : Operation) (unit : ℕ) → IsOnRange op.deed → op.first + op.blocks ≤ ns.nsze
    → Contains (units_met ns op) unit ↔ (0 < (part_in ns op unit).blocks)
block_is_met ns op unit all inside = (
  (λ met. reached_block ns op unit ((unit_is_met ns op unit inside).0 met)),
  (λ some. (unit_is_met ns op unit inside).1 (omega (arith, some, reached_all ns op unit all))),
)

-- a unit in which the range has a block lies between those of its first and its last LBA
pub between_units : (ns : Namespace) (first blocks unit : ℕ) → 0 < blocks_in ns first blocks unit
    → (unit_number ns first ≤ unit) × (unit ≤ unit_number ns (first + blocks - 1))
between_units ns first blocks unit some =
    let lba = first + (blocks_below ns first blocks unit + 0) in
    let here : unit_number ns lba ≡ unit = place_here ns first blocks unit 0 some in
    let few = part_inside ns first blocks unit in (
      omega (arith, here, count_rises ns.nabsn ns.nabo first lba (omega arith)),
      omega (arith, here, count_rises ns.nabsn ns.nabo lba (first + blocks - 1) (omega (arith, few, some))),
    )

-- a unit between them has one
pub unit_between : (ns : Namespace) (first blocks unit : ℕ) → 0 < blocks → unit_number ns first ≤ unit
    → unit ≤ unit_number ns (first + blocks - 1) → 0 < blocks_in ns first blocks unit
unit_between ns first blocks unit some low high =
    let r = number_reached ns unit (first + blocks - 1) high in
    let lba = max first r.0 in
    let i = lba - first in
    let at : first + i ≡ lba = omega arith in
    let here : unit_number ns lba ≡ unit =
    elim (cases_lt r.0 first) [
      | inl l ↦
          let is : lba ≡ first = omega (arith, l) in
          rw is (omega (arith, low, r.2, count_rises ns.nabsn ns.nabo r.0 first (omega (arith, l))))
      | inr h ↦ let is : lba ≡ r.0 = omega (arith, h) in rw is r.2
    ] in
    let place = place_in ns first blocks unit i (omega (arith, some, r.1)) (rw at here) in
    omega (arith, place.0, place.1)

-- a range meets the units from its first LBA's to its last one's
pub units_counted : (ns : Namespace) (first blocks : ℕ) → 0 < blocks → first + blocks ≤ ns.nsze
    → length (units_of_range ns first blocks) ≡ unit_number ns (first + blocks - 1) - unit_number ns first + 1
unfolding units_where
units_counted ns first blocks some inside =
    let low = unit_number ns first in
    let high = unit_number ns (first + blocks - 1) in
    let all = units_of ns in
    let meets : ℕ → Bool = λ v. nat_lt 0 (blocks_in ns first blocks v) in
    let rise : low ≤ high = count_rises ns.nabsn ns.nabo first (first + blocks - 1) (omega (arith, some)) in
    let known : high < all = unit_below ns (first + blocks - 1) (omega (arith, some, inside)) in
    let missed : (v : ℕ) → (low ≤ v → v ≤ high → ⊥) → meets v ≡ false =
    λ v out. le-ltb 0 (blocks_in ns first blocks v)
    (elim (cases_lt 0 (blocks_in ns first blocks v)) [
      | inl l ↦ let b = between_units ns first blocks v l in absurd (out b.0 b.1)
      | inr h ↦ h
    ]) in
    omega (
      arith,
      length-filter meets (range_with_len 0 all),
      count_front_fails meets 0 low all low (all - low) (omega (arith, rise, known)) (omega arith)
          (λ v above below. missed v (λ l h. omega (arith, below, l))),
      count_front_passes meets low (high - low + 1) (all - low) (high + 1) (all - high - 1) (omega (arith, rise, known)) (omega (arith, rise))
          (λ v above below. lt-ltb 0 (blocks_in ns first blocks v) (unit_between ns first blocks v some above (omega (arith, below, rise)))),
      count_none_pass meets (high + 1) (all - high - 1) (λ v above below. missed v (λ l h. omega (arith, above, h))),
      rise,
      known,
    )

pub units_few : (ns : Namespace) (op : Operation) → length (units_met ns op) ≤ units_of ns
unfolding units_where
units_few ns op =
    let meets : ℕ → Bool = λ v. nat_lt 0 (reached_in ns op v) in
    omega (
      arith,
      length-filter meets (range_with_len 0 (units_of ns)),
      count_by-le-length meets (range_with_len 0 (units_of ns)),
      length-range_with_len 0 (units_of ns),
    )
