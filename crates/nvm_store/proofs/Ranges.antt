-- A range of a medium, and the blocks of a unit that hold it.
use Rattle.std.proofs.Common.{◌≡◌, ◌⊎◌, ℕ, suc, ◌+◌, ◌-◌, ◌*◌, ◌<◌, ◌≤◌, List, [], ◌∷◌, length, get_or, take, drop, replicate, true, false, refl, sym, ap, subst, ◌∙◌, arith, inl, inr}
use Rattle.std.specs.Prelude.{Result, Ok, Err, OnOk, OnErr}
use Rattle.std.proofs.Math.ListN.{length-take}
use Rattle.std.proofs.Math.Nat.{mul-le-mul_right}
use Rattle.std.proofs.lemmas.Bool.Decides.{nat_tests, leb_tells}
use Rattle.std.proofs.lemmas.List.{get_or-take, get_or-drop, get_or-replicate, length-take-le, length-drop, length-replicate}
use Rattle.nvm_record.specs.declared.block.Block.{Block}
use Rattle.nvm_record.specs.declared.block.Block.TheVariants.{Bytes, Uncorrectable}
use Rattle.nvm_record.specs.Lists.{IsAt}
use Rattle.nvm_record.specs.Medium.{Medium, IsOfSize, zero_medium, range}
use Rattle.nvm_record.specs.Step.{Operation, range_of, is_about, is_in_range, block_after, block_at, medium_after}
use Rattle.nvm_store.specs.Contents.{Contents, Holds, place_of}
use Rattle.nvm_store.proofs.AtLemmas.{at_below, at_read, get_or_at_place}
use Rattle.nvm_store.specs.Inside.Sound.{AreOfSize, AreSound, blocks_at}
use Rattle.nvm_store.specs.Place.{IsWithin}
use Rattle.nvm_store.specs.Inside.Rewrite.{IsRewritten}

-- These blocks are the medium's, from this LBA.
abbrev pub AreAt : List Block → ℕ → Medium → Type 0
AreAt blocks first m = (d : Block) (i : ℕ) → i < length blocks → get_or blocks i d ≡ m (first + i)

-- A unit holds a medium where its blocks are the medium's.
pub held_are_at : (u : Contents) (m : Medium) → Holds u m → AreAt u.blocks u.first m
held_are_at u m held d i lt = sym (held i (get_or u.blocks i d) (at_read u.blocks i d lt))

pub held_where_at : (u : Contents) (m : Medium) → AreAt u.blocks u.first m → Holds u m
held_where_at u m are i block at =
    sym (are block i (at_below u.blocks i block at)) ∙ get_or_at_place u.blocks i block block at

-- the unit of these blocks
abbrev pub unit_with : ℕ → ℕ → List Block → Contents
unit_with first size blocks = record { first = first; size = size; blocks = blocks }

-- Blocks that are the medium's are its range.
pub range-is : (m : Medium) (blocks : List Block) (first : ℕ) → AreAt blocks first m → range m first (length blocks) ≡ blocks
range-is m [] first at = refl
range-is m (b ∷ bs) first at =
    let here : b ≡ m (first + 0) = at b 0 (omega arith) in
    let same : first + 0 ≡ first = omega arith in
    let rest : range m (suc first) (length bs) ≡ bs =
    range-is m bs (suc first)
    (λ d i lt. let next : suc first + i ≡ first + suc i = omega arith in rw next (at d (suc i) (omega arith))) in
    cc

-- The unit's blocks of some of its LBAs are the medium's range there.
pub range-held : (m : Medium) (unit : Contents) (first n : ℕ) → Holds unit m → IsWithin (place_of unit) first n
    → range m first n ≡ blocks_at unit first n
range-held m unit first n holds within =
    let items = unit.blocks in
    let at = first - unit.first in
    let held : AreAt items unit.first m = held_are_at unit m holds in
    let above : unit.first ≤ first = within.above in
    let below : first + n ≤ unit.first + length items = within.below in
    let some = take n (drop at items) in
    let room : n ≤ length (drop at items) = omega (arith, length-drop at items) in
    let len : length some ≡ n = length-take-le n (drop at items) room in
    let are : AreAt some first m =
    λ e i lt.
    let lt' : i < n = omega arith in
    let place : unit.first + (at + i) ≡ first + i = omega arith in
    get_or-take n (drop at items) i e lt' ∙ get_or-drop at items i e ∙ held e (at + i) (omega arith) ∙ ap m place
    in
    rw len at (range-is m some first are)

pub part_length : (unit : Contents) (first n : ℕ) → IsWithin (place_of unit) first n → length (blocks_at unit first n) ≡ n
part_length unit first n within =
    let at = first - unit.first in
    let above : unit.first ≤ first = within.above in
    let below : first + n ≤ unit.first + length unit.blocks = within.below in
    length-take-le n (drop at unit.blocks) (omega (arith, length-drop at unit.blocks))

-- Part of blocks of one size is of that size.
pub part_sized : (size : ℕ) (blocks : List Block) (at n : ℕ) → AreOfSize size blocks → AreOfSize size (take n (drop at blocks))
part_sized size blocks at n sized i block there =
    let some = take n (drop at blocks) in
    let lt : i < length some = at_below some i block there in
    let low : i < n = omega (arith, length-take n (drop at blocks)) in
    let inside : at + i < length blocks = omega (arith, length-take n (drop at blocks), length-drop at blocks) in
    let same : get_or blocks (at + i) block ≡ block =
    sym (get_or-drop at blocks i block) ∙ sym (get_or-take n (drop at blocks) i block low) ∙ get_or_at_place some i block block there in
    subst (λ (b : Block). IsOfSize size b) same (sized (at + i) (get_or blocks (at + i) block) (at_read blocks (at + i) block inside))

-- A unit of zero blocks holds the zero medium.
pub zeroes_held : (n first size : ℕ) → Holds (unit_with first size (replicate n (Bytes (replicate size 0)))) (zero_medium size)
zeroes_held n first size =
    let block = Bytes (replicate size 0) in
    held_where_at (unit_with first size (replicate n block)) (zero_medium size)
    (λ e i lt. get_or-replicate n i block e (rw length-replicate at lt))

-- Zero blocks are of their size.
pub zeroes_sized : (n size : ℕ) → AreOfSize size (replicate n (Bytes (replicate size 0)))
zeroes_sized n size i block at =
    let zero = Bytes (replicate size 0) in
    let zeroes = replicate n zero in
    let lt : i < n = rw (length-replicate n zero) at (at_below zeroes i block at) in
    let is : zero ≡ block = sym (get_or-replicate n i zero block lt) ∙ get_or_at_place zeroes i block block at in
    subst (λ (b : Block). IsOfSize size b) is (length-replicate size 0)

-- An LBA of the operation's range that the deed has to do with takes the block that it leaves there.
medium_after-inside : (m : Medium) (size : ℕ) (op : Operation) (lba : ℕ) → is_about op.deed lba ≡ true → op.first ≤ lba
    → lba < op.first + op.blocks → medium_after size op m lba ≡ block_after size (range_of op m) op.deed (lba - op.first) (m lba)
medium_after-inside m size op lba about above below = grind (arith, nat_tests)

-- A step leaves what is outside its range.
abbrev pub StepsStayInside : Type 0
StepsStayInside =
    (size : ℕ) (op : Operation) (m : Medium) (lba : ℕ) → is_in_range op lba ≡ false → medium_after size op m lba ≡ m lba

is_outside : (op : Operation) (lba : ℕ) → (lba < op.first) ⊎ (op.first + op.blocks ≤ lba) → is_in_range op lba ≡ false
is_outside op lba out = grind (arith, nat_tests)

-- A block of a list of which a range was rewritten is new, or was there before.
module _ (at count : ℕ) (news : ℕ → Block) (old new : List Block) (is : IsRewritten at count news old new) where
  kept_at : (i : ℕ) (block : Block) → (i < at) ⊎ (at + count ≤ i) → IsAt new i block → IsAt old i block
  kept_at i block out there =
      let below : i < length new = at_below new i block there in
      let len : length new ≡ length old = is.len in
      let before = get_or old i block in
      let was : IsAt old i before = at_read old i block (omega arith) in
      let same : before ≡ block =
      sym (get_or_at_place new i before block (is.others i before out was)) ∙ get_or_at_place new i block block there in
      rw (← same) was

  new_at : (i : ℕ) (block : Block) → at ≤ i → i < at + count → IsAt new i block → news (i - at) ≡ block
  new_at i block above below there =
      let place : at + (i - at) ≡ i = omega arith in
      let put : IsAt new (at + (i - at)) (news (i - at)) = is.rewritten (i - at) (omega arith) in
      sym (get_or_at_place new i (news (i - at)) block (rw place at put)) ∙ get_or_at_place new i block block there

  -- Its blocks are of their size where the old and the new ones are.
  pub sized-rewritten : (size : ℕ) → AreOfSize size old → ((i : ℕ) → i < count → IsOfSize size (news i)) → AreOfSize size new
  sized-rewritten size sized fit i block there =
      let outside : (i < at) ⊎ (at + count ≤ i) → IsOfSize size block = λ out. sized i block (kept_at i block out there) in
      elim (leb_tells at i) [
        | inl above ↦
            elim (leb_tells (at + count) i) [
              | inl past ↦ outside (inr past.1)
              | inr before ↦ subst (λ (b : Block). IsOfSize size b) (new_at i block above.1 before.1 there) (fit (i - at) (omega arith))
            ]
        | inr below ↦ outside (inl below.1)
      ]

-- The unit of which the operation's range was rewritten holds the medium after it, where the deed has to do with all of it.
pub held-rewritten : StepsStayInside → (m : Medium) (first size at : ℕ) (op : Operation) (news : ℕ → Block) (old new : List Block)
    → ((lba : ℕ) → is_about op.deed lba ≡ true) → Holds (unit_with first size old) m → first + at ≡ op.first → IsRewritten at op.blocks news old new
    → ((i : ℕ) → i < op.blocks → news i ≡ block_after size (range_of op m) op.deed i (m (op.first + i)))
    → Holds (unit_with first size new) (medium_after size op m)
held-rewritten law m first size at op news old new about held place is does i block there =
    let outside : (i < at) ⊎ (at + op.blocks ≤ i) → medium_after size op m (first + i) ≡ block =
    λ out.
    let out' : (first + i < op.first) ⊎ (op.first + op.blocks ≤ first + i) = grind arith in
    law size op m (first + i) (is_outside op (first + i) out')
    ∙ held i block (kept_at at op.blocks news old new is i block out there)
    in
    elim (leb_tells at i) [
      | inl above ↦
          elim (leb_tells (at + op.blocks) i) [
            | inl past ↦ outside (inr past.1)
            | inr before ↦
                let lba : op.first + (i - at) ≡ first + i = omega arith in
                let same : first + i - op.first ≡ i - at = omega arith in
                let put : news (i - at) ≡ block_after size (range_of op m) op.deed (i - at) (m (op.first + (i - at))) =
                does (i - at) (omega arith) in
                medium_after-inside m size op (first + i) (about (first + i)) (omega arith) (omega arith)
                ∙ ap (λ (n : ℕ). block_after size (range_of op m) op.deed n (m (first + i))) same
                ∙ sym (rw lba at put)
                ∙ new_at at op.blocks news old new is i block above.1 before.1 there
          ]
      | inr below ↦ outside (inl below.1)
    ]

-- A change leaves the blocks sound, whether it is made or refused.
pub sound_after : {T E : Type 0} (r : Result T E) (first size at count : ℕ) (news : ℕ → Block) (old new : List Block)
    → OnOk r (IsRewritten at count news old new) → OnErr r (new ≡ old) → AreSound first size old
    → ((i : ℕ) → i < count → IsOfSize size (news i)) → AreSound first size new
sound_after (Ok y) first size at count news old new ok err sound fit =
    let len : length new ≡ length old = ok.len in
    record {
      some = rw len sound.some;
      low = rw len sound.low;
      few = rw len sound.few;
      sized = sized-rewritten at count news old new ok size sound.sized fit;
    }
sound_after (Err y) first size at count news old new ok err sound fit = rw err sound

-- It leaves as many blocks.
pub count_after : {T E : Type 0} (r : Result T E) (at count : ℕ) (news : ℕ → Block) (old new : List Block)
    → OnOk r (IsRewritten at count news old new) → OnErr r (new ≡ old) → length new ≡ length old
count_after (Ok y) at count news old new ok err = ok.len
count_after (Err y) at count news old new ok err = ap length err

-- A block of data is of its size.
pub data_sized : (size count : ℕ) (payload : List ℕ) (i : ℕ) → length payload ≡ count * size → i < count
    → IsOfSize size (block_at size payload i)
data_sized size count payload i len lt =
    let front : suc i * size ≤ count * size = mul-le-mul_right size lt in
    let more : suc i * size ≡ i * size + size = grind arith in
    length-take-le size (drop (i * size) payload) (omega (arith, length-drop (i * size) payload))

-- Two media that a unit holds have the same block at each of its LBAs.
pub same_on_held : (unit : Contents) (m n : Medium) (lba : ℕ) → unit.first ≤ lba → lba < unit.first + length unit.blocks
    → Holds unit m → Holds unit n → m lba ≡ n lba
same_on_held unit m n lba above below held held' =
    let i = lba - unit.first in
    let at : IsAt unit.blocks i (get_or unit.blocks i Uncorrectable) = at_read unit.blocks i Uncorrectable (omega arith) in
    let here : unit.first + i ≡ lba = omega arith in
    rw here at (held i (get_or unit.blocks i Uncorrectable) at ∙ sym (held' i (get_or unit.blocks i Uncorrectable) at))

-- a medium that has a unit's blocks
abbrev medium_with : Contents → Medium
medium_with unit lba = get_or unit.blocks (lba - unit.first) Uncorrectable

-- The unit holds it.
pub some_medium_is_held : (unit : Contents) → (m : Medium) × Holds unit m
some_medium_is_held unit = (
  medium_with unit,
  λ i block at.
      let here : unit.first + i - unit.first ≡ i = omega arith in
      rw here (get_or_at_place unit.blocks i block Uncorrectable at),
)
