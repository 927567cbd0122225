-- The parts of a single command all succeed exactly where it does.
use Rattle.std.proofs.Common.{◌≡◌, ◌↔◌, ◌⊎◌, ℕ, ◌+◌, ◌*◌, ◌-◌, ◌<◌, ◌≤◌, true, List, [], ◌∷◌, length, drop, inl, inr, refl, sym, ◌∙◌, arith}
use Rattle.std.proofs.Math.Path.{fun_ext}
use Rattle.std.proofs.Math.Nat.{mul-le-mul_right}
use Rattle.std.specs.Prelude.{count_by, ◌==◌}
use Rattle.std.proofs.lemmas.Bool.{cases_Bool, cases_eq, ne_eqb, lt-ltb, le-leb, and_from}
use Rattle.std.proofs.lemmas.List.{length-take-le, length-drop}
use Rattle.nvm_record.specs.declared.block.Block.{Block}
use Rattle.nvm_record.specs.Status.{IsSuccess}
use Rattle.nvm_record.specs.Medium.{Medium, HasBlockSize}
use Rattle.nvm_record.specs.Step.{HasData, Deed, Operation, writes, zeroes, uncorrectable, reads, compares, pairs, deallocates, statuses_on, block_after, is_about, is_in_range, reaches, range_of, medium_after, statuses_of}
use Rattle.nvm_geometry.specs.Namespace.{Namespace}
use Rattle.nvm_geometry.specs.Boundaries.{unit_number}
use Rattle.nvm_geometry.specs.Parts.{blocks_below, blocks_in, data_part, deed_part, part_in}
use Rattle.nvm_geometry.specs.Turns.{IsOrderOf, EachSucceeds}
use Rattle.nvm_record.specs.Deeds.{IsAct, IsLook, IsSingle}
use Rattle.nvm_geometry.proofs.Counting.{count_no}
use Rattle.nvm_geometry.proofs.Places.{place_in, part_inside, part_data_at}
use Rattle.nvm_geometry.proofs.Reached.{look_about}
use Rattle.nvm_geometry.proofs.PartsMedium.{part_single, unit_among}
use Rattle.nvm_geometry.proofs.Success.{IsGood, good_from_success, success_from_good}

-- a command that changes blocks, and always succeeds
abbrev IsChange : Deed → Type 0
IsChange deed = IsAct deed × IsSingle deed

change_or_look : (deed : Deed) → IsSingle deed → IsChange deed ⊎ IsLook deed
change_or_look (writes payload) single = inl (refl, refl)
change_or_look zeroes single = inl (refl, refl)
change_or_look uncorrectable single = inl (refl, refl)
change_or_look reads single = inr refl
change_or_look (compares payload) single = inr refl
change_or_look (pairs payload new) single = absurd (cc single)
change_or_look (deallocates ranges) single = inl (refl, refl)

change_succeeds : (blocks : List Block) (deed : Deed) → IsChange deed → IsSuccess (statuses_on blocks deed)
change_succeeds blocks (writes payload) change = refl
change_succeeds blocks zeroes change = refl
change_succeeds blocks uncorrectable change = refl
change_succeeds blocks reads change = absurd (cc change.0)
change_succeeds blocks (compares payload) change = absurd (cc change.0)
change_succeeds blocks (pairs payload new) change = absurd (cc change.1)
change_succeeds blocks (deallocates ranges) change = refl

part_change : (size first skipped blocks : ℕ) (deed : Deed) → IsChange deed
    → IsChange (deed_part size first skipped blocks deed)
part_change size first skipped blocks (writes payload) change = (refl, refl)
part_change size first skipped blocks zeroes change = (refl, refl)
part_change size first skipped blocks uncorrectable change = (refl, refl)
part_change size first skipped blocks reads change = absurd (cc change.0)
part_change size first skipped blocks (compares payload) change = absurd (cc change.0)
part_change size first skipped blocks (pairs payload new) change = absurd (cc change.1)
part_change size first skipped blocks (deallocates ranges) change = (refl, refl)

part_look : (size first skipped blocks : ℕ) (deed : Deed) → IsLook deed
    → IsLook (deed_part size first skipped blocks deed)
part_look size first skipped blocks (writes payload) look = absurd (cc look)
part_look size first skipped blocks zeroes look = absurd (cc look)
part_look size first skipped blocks uncorrectable look = absurd (cc look)
part_look size first skipped blocks reads look = refl
part_look size first skipped blocks (compares payload) look = refl
part_look size first skipped blocks (pairs payload new) look = absurd (cc look)
part_look size first skipped blocks (deallocates ranges) look = absurd (cc look)

each_change : (ns : Namespace) (op : Operation) (units : List ℕ) (m : Medium) → IsChange op.deed → EachSucceeds ns op units m
each_change ns op [] m change = tt
each_change ns op (unit ∷ units) m change = (
  change_succeeds (range_of (part_in ns op unit) m) (part_in ns op unit).deed
      (part_change ns.block_size op.first (blocks_below ns op.first op.blocks unit)
      (blocks_in ns op.first op.blocks unit) op.deed change),
  each_change ns op units (medium_after ns.block_size (part_in ns op unit) m) change,
)

look_leaves : (size : ℕ) (blocks : List Block) (deed : Deed) (i : ℕ) (old : Block) → IsLook deed → block_after size blocks deed i old ≡ old
look_leaves size blocks (writes payload) i old look = absurd (cc look)
look_leaves size blocks zeroes i old look = absurd (cc look)
look_leaves size blocks uncorrectable i old look = absurd (cc look)
look_leaves size blocks reads i old look = refl
look_leaves size blocks (compares payload) i old look = refl
look_leaves size blocks (pairs payload new) i old look = absurd (cc look)
look_leaves size blocks (deallocates ranges) i old look = absurd (cc look)

-- a look leaves the medium as it is
look_unchanged : (size : ℕ) (op : Operation) (m : Medium) → IsLook op.deed → medium_after size op m ≡ m
look_unchanged size op m look =
    fun_ext (λ lba.
    elim (cases_Bool (reaches op lba)) [
      | inl t ↦ rw t (look_leaves size (range_of op m) op.deed (lba - op.first) (m lba) look)
      | inr f ↦ rw f refl
    ])

-- so does a part of one
pub part_unchanged : (ns : Namespace) (op : Operation) (unit : ℕ) (m : Medium) → IsLook op.deed
    → medium_after ns.block_size (part_in ns op unit) m ≡ m
part_unchanged ns op unit m look =
    look_unchanged ns.block_size (part_in ns op unit) m
    (part_look ns.block_size op.first (blocks_below ns op.first op.blocks unit) (blocks_in ns op.first op.blocks unit)
    op.deed look)

-- each part of a look succeeds on the one medium
one_of_each : (ns : Namespace) (op : Operation) (units : List ℕ) (m : Medium) (unit : ℕ) → IsLook op.deed → EachSucceeds ns op units m
    → 0 < count_by (λ v. v == unit) units → IsSuccess (statuses_of (part_in ns op unit) m)
one_of_each ns op [] m unit look each some = absurd (omega (arith, some))
one_of_each ns op (u ∷ units) m unit look each some =
    elim (cases_eq u unit) [
      | inl e ↦ rw e at each.0
      | inr o ↦
          one_of_each ns op units m unit look (rw (part_unchanged ns op u m look) at each.1)
          (omega (arith, some, count_no (λ v. v == unit) u units (ne_eqb u unit o)))
    ]

each_of_one : (ns : Namespace) (op : Operation) (units : List ℕ) (m : Medium) → IsLook op.deed
    → ((unit : ℕ) → IsSuccess (statuses_of (part_in ns op unit) m)) → EachSucceeds ns op units m
each_of_one ns op [] m look one = tt
each_of_one ns op (u ∷ units) m look one = (one u, rw (part_unchanged ns op u m look) (each_of_one ns op units m look one))

-- a block is good for a part exactly where it is good for the whole
part_good : (size first skipped blocks : ℕ) (deed : Deed) (i : ℕ) (b : Block) → i < blocks
    → IsGood size (deed_part size first skipped blocks deed) i b ↔ IsGood size deed (skipped + i) b
part_good size first skipped blocks (writes payload) i b inside = ((λ h. h), (λ h. h))
part_good size first skipped blocks zeroes i b inside = ((λ h. h), (λ h. h))
part_good size first skipped blocks uncorrectable i b inside = ((λ h. h), (λ h. h))
part_good size first skipped blocks reads i b inside = ((λ h. h), (λ h. h))
part_good size first skipped blocks (compares payload) i b inside =
    let same = part_data_at size skipped blocks i payload inside in
    ((λ h. (h.0, h.1 ∙ same)), (λ h. (h.0, h.1 ∙ sym same)))
part_good size first skipped blocks (pairs payload new) i b inside = ((λ h. h), (λ h. h))
part_good size first skipped blocks (deallocates ranges) i b inside = ((λ h. h), (λ h. h))

-- the part's data has its length
data_part_length : (size skipped blocks all : ℕ) (payload : List ℕ) → skipped + blocks ≤ all → length payload ≡ all * size
    → length (data_part size skipped blocks payload) ≡ blocks * size
data_part_length size skipped blocks all payload inside long =
    length-take-le (blocks * size) (drop (skipped * size) payload)
    (omega (arith, length-drop (skipped * size) payload, long, mul-le-mul_right {m = skipped + blocks} {n = all} size inside))

part_has_data : (size first skipped blocks all : ℕ) (deed : Deed) → skipped + blocks ≤ all → HasData (all * size) deed
    → HasData (blocks * size) (deed_part size first skipped blocks deed)
part_has_data size first skipped blocks all (writes payload) inside has =
    data_part_length size skipped blocks all payload inside has
part_has_data size first skipped blocks all zeroes inside has = tt
part_has_data size first skipped blocks all uncorrectable inside has = tt
part_has_data size first skipped blocks all reads inside has = tt
part_has_data size first skipped blocks all (compares payload) inside has =
    data_part_length size skipped blocks all payload inside has
part_has_data size first skipped blocks all (pairs payload new) inside has =
    (data_part_length size skipped blocks all payload inside has.0, data_part_length size skipped blocks all new inside has.1)
part_has_data size first skipped blocks all (deallocates ranges) inside has = tt

-- a look reaches each place of its range
place_reached : (op : Operation) (i : ℕ) → IsLook op.deed → i < op.blocks → reaches op (op.first + i) ≡ true
place_reached op i look inside =
    let here : is_in_range op (op.first + i) ≡ true =
    and_from _ _ (le-leb op.first (op.first + i) (omega arith))
    (lt-ltb (op.first + i) (op.first + op.blocks) (omega (arith, inside))) in
    and_from (is_about op.deed (op.first + i)) (is_in_range op (op.first + i)) (look_about op.deed (op.first + i) look)
    here

-- where each part of a look succeeds, each block is good for the whole
whole_good : (ns : Namespace) (op : Operation) (units : List ℕ) (m : Medium) → IsSingle op.deed → IsLook op.deed → op.first + op.blocks ≤ ns.nsze → IsOrderOf ns op units
    → HasBlockSize ns.block_size m → EachSucceeds ns op units m
    → (i : ℕ) → i < op.blocks → IsGood ns.block_size op.deed i (m (op.first + i))
whole_good ns op units m single look fits order holds each i inside =
    let unit = unit_number ns (op.first + i) in
    let skipped = blocks_below ns op.first op.blocks unit in
    let blocks = blocks_in ns op.first op.blocks unit in
    let place = place_in ns op.first op.blocks unit i inside refl in
    let j = i - skipped in
    let same : skipped + j ≡ i = omega (arith, place.0) in
    let at : op.first + skipped + j ≡ op.first + i = omega (arith, place.0) in
    let below : j < blocks = omega (arith, place.0, place.1) in
    let part = one_of_each ns op units m unit look each
    (unit_among ns op units (op.first + i) fits order (place_reached op i look inside)) in
    let good = good_from_success ns.block_size m (op.first + skipped) blocks
    (deed_part ns.block_size op.first skipped blocks op.deed)
    (part_single ns.block_size op.first skipped blocks op.deed single) holds part j below in
    let whole = (part_good ns.block_size op.first skipped blocks op.deed j (m (op.first + skipped + j)) below).0 good in
    rw (same, at) at whole

-- where each block is good for the whole, each part succeeds
part_succeeds : (ns : Namespace) (op : Operation) (m : Medium) (unit : ℕ) → IsSingle op.deed → HasData (op.blocks * ns.block_size) op.deed
    → ((i : ℕ) → i < op.blocks → IsGood ns.block_size op.deed i (m (op.first + i))) → IsSuccess (statuses_of (part_in ns op unit) m)
part_succeeds ns op m unit single has good =
    let skipped = blocks_below ns op.first op.blocks unit in
    let blocks = blocks_in ns op.first op.blocks unit in
    let inside = part_inside ns op.first op.blocks unit in
    success_from_good ns.block_size m (op.first + skipped) blocks
    (deed_part ns.block_size op.first skipped blocks op.deed)
    (part_single ns.block_size op.first skipped blocks op.deed single)
    (part_has_data ns.block_size op.first skipped blocks op.blocks op.deed inside has)
    (λ j below.
    let at : op.first + (skipped + j) ≡ op.first + skipped + j = omega arith in
    (part_good ns.block_size op.first skipped blocks op.deed j (m (op.first + skipped + j)) below).1
    (rw at at (good (skipped + j) (omega (arith, inside, below)))))

pub parts_success : (ns : Namespace) (op : Operation) (units : List ℕ) (m : Medium) → IsSingle op.deed → op.first + op.blocks ≤ ns.nsze → IsOrderOf ns op units
    → HasData (op.blocks * ns.block_size) op.deed → HasBlockSize ns.block_size m → EachSucceeds ns op units m ↔ IsSuccess (statuses_of op m)
parts_success ns op units m single fits order has holds =
    elim (change_or_look op.deed single) [
      | inl change ↦ ((λ _. change_succeeds (range_of op m) op.deed change), (λ _. each_change ns op units m change))
      | inr look ↦ (
        (λ each. success_from_good ns.block_size m op.first op.blocks op.deed single has (whole_good ns op units m single look fits order holds each)),
        (λ success. each_of_one ns op units m look
            (λ unit. part_succeeds ns op m unit single has (good_from_success ns.block_size m op.first op.blocks op.deed single holds success))),
      )
    ]
