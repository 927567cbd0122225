-- Ranges of blocks in pages: what lies in one page, and that none of it is marked.
use Rattle.std.proofs.Common.{◌≡◌, ℕ, zero, suc, ◌+◌, ◌-◌, ◌*◌, ◌/◌, ◌%◌, ◌^◌, ◌<◌, ◌≤◌, List, [], ◌∷◌, ◌++◌, length, take, drop, replicate, Bool, true, false, ◌||◌, refl, sym, ap, ◌∙◌, arith}
use mathlib.Core.Option.{some-injective, some-ne-none}
use Rattle.std.proofs.Math.Seq.{drop-append-add}
use Rattle.std.proofs.lemmas.Bool.{true≢false}
use Rattle.std.proofs.lemmas.List.{drop-append-le, drop-drop, drop-take, length-drop, length-take-le, take-append-le, take-replicate, take-take, take_all}
use Rattle.nvm_record.specs.declared.block.Block.{Block}
use Rattle.nvm_record.specs.declared.block.Block.TheVariants.{Bytes, Uncorrectable}
use Rattle.nvm_record.specs.Lists.{IsAt}
use Rattle.nvm_record.specs.Medium.{has_mark, joined}
use Rattle.nvm_store.specs.Inside.Gathered.{row_of, gathered, named}
use Rattle.nvm_store.specs.Inside.Flat.{SizedBlocks}
use Rattle.nvm_store.specs.Inside.Pages.{ArePages, ArePagedBlocks}
use Rattle.nvm_store.specs.Inside.Rewrite.{IsRewritten, stretch_of, zero_block}
use Rattle.nvm_store.specs.Inside.Stretch.{AreParts}
use Rattle.nvm_store.proofs.Gathering.{AreThere, all_there, changed, gathered_first, length_gathered, length_row, place_of_row}
use Rattle.nvm_store.proofs.Parts.{LiesIn}
use Rattle.nvm_store.proofs.Rewrites.{rewritten_front}
use Rattle.nvm_store.proofs.Stretches.{has_mark-append, joined-append, next_stretch}

module _ {A : Type 0} where
  -- a place of the k-th row and what is after it
  drop_gathered : (w : ℕ) (rows : List A) (numbers : List ℕ) (k n j : ℕ) → AreThere w rows numbers → IsAt numbers k n → j ≤ w
      → drop (k * w + j) (gathered w rows numbers) ≡ drop j (row_of w rows n) ++ gathered w rows (drop (suc k) numbers)
  drop_gathered w rows [] k n j there at le = absurd (some-ne-none n (sym at))
  drop_gathered w rows (m ∷ numbers) zero n j there at le =
      let len = length_row w rows m (there 0 m refl) in
      let here : 0 * w + j ≡ j = omega arith in
      ap (λ (p : ℕ). drop p (row_of w rows m ++ gathered w rows numbers)) here
      ∙ drop-append-le j (row_of w rows m) (gathered w rows numbers) (omega (arith, len, le))
      ∙ ap (λ (l : ℕ). drop j (row_of w rows l) ++ gathered w rows numbers) (some-injective m n at)
  drop_gathered w rows (m ∷ numbers) (suc k) n j there at le =
      let len = length_row w rows m (there 0 m refl) in
      let more : suc k * w ≡ w + k * w = grind arith in
      let place : suc k * w + j ≡ length (row_of w rows m) + (k * w + j) = omega (arith, len, more) in
      ap (λ (p : ℕ). drop p (row_of w rows m ++ gathered w rows numbers)) place
      ∙ drop-append-add (row_of w rows m) (gathered w rows numbers) (k * w + j)
      ∙ drop_gathered w rows numbers k n j (λ i l at'. there (suc i) l at') at le

  row_stretch : (w : ℕ) (rows : List A) (n j c : ℕ) → j + c ≤ w → take c (drop j (row_of w rows n)) ≡ take c (drop (n * w + j) rows)
  row_stretch w rows n j c le =
      let m = w - j in
      let whole : w ≡ j + m = omega arith in
      let few : c ≤ m = omega arith in
      let kept : drop j (row_of w rows n) ≡ take m (drop j (drop (n * w) rows)) =
      ap (λ (k : ℕ). drop j (take k (drop (n * w) rows))) whole ∙ drop-take j m (drop (n * w) rows) in
      ap (take c) kept ∙ take-take c m (drop j (drop (n * w) rows)) few ∙ ap (take c) (drop-drop j (n * w) rows)

  -- What lies in one row is there in the rows.
  pub gathered_stretch : (w : ℕ) (rows : List A) (numbers : List ℕ) (k n j c : ℕ) → AreThere w rows numbers → IsAt numbers k n → j + c ≤ w
      → take c (drop (k * w + j) (gathered w rows numbers)) ≡ take c (drop (n * w + j) rows)
  gathered_stretch w rows numbers k n j c there at le =
      let row = row_of w rows n in
      let len = length_row w rows n (there k n at) in
      let left = length-drop j row in
      ap (take c) (drop_gathered w rows numbers k n j there at (omega (arith, le)))
      ∙ take-append-le c (drop j row) (gathered w rows (drop (suc k) numbers)) (omega (arith, len, left, le))
      ∙ row_stretch w rows n j c le

  -- The same of those that count.
  pub counted_stretch : (w : ℕ) (rows : List A) (numbers : List ℕ) (count at k n j c : ℕ) → AreThere w rows numbers → IsAt numbers k n → j + c ≤ w
      → at ≡ k * w + j → at + c ≤ count → take c (drop at (take count (gathered w rows numbers))) ≡ take c (drop (n * w + j) rows)
  counted_stretch w rows numbers count at k n j c there is le place within =
      let all = gathered w rows numbers in
      let m = count - at in
      let whole : count ≡ at + m = omega (arith, within) in
      let few : c ≤ m = omega (arith, within) in
      let kept : drop at (take count all) ≡ take m (drop at all) = ap (λ (k : ℕ). drop at (take k all)) whole ∙ drop-take at m all in
      ap (take c) kept
      ∙ take-take c m (drop at all) few
      ∙ ap (λ (p : ℕ). take c (drop p all)) place
      ∙ gathered_stretch w rows numbers k n j c there is le

-- There are as many blocks as count.
pub length_paged : (count : ℕ) (pages : SizedBlocks) (numbers : List ℕ) → ArePagedBlocks count pages numbers
    → length (take count (gathered 8 pages.list numbers)) ≡ count
length_paged count pages numbers is =
    let all = gathered 8 pages.list numbers in
    let len = length_gathered 8 pages.list numbers (all_there 8 _ pages.list numbers is.paged.gathered) in
    let enough = is.enough in
    length-take-le count all (omega (arith, len, enough))

-- A range of those that count is below 2^32.
pub low_range : (count : ℕ) (pages : SizedBlocks) (numbers : List ℕ) (at n : ℕ) → ArePagedBlocks count pages numbers
    → at + n ≤ length (take count (gathered 8 pages.list numbers)) → at + n < 2 ^ 32
low_range count pages numbers at n is range =
    let counted = length_paged count pages numbers is in
    let low = is.low in
    omega (arith, counted, low, range)

-- A place of those that count lies in a page.
pub place_of_page : (count : ℕ) (pages : SizedBlocks) (numbers : List ℕ) (at : ℕ) → ArePagedBlocks count pages numbers → at < count → LiesIn 8 at (length numbers)
place_of_page count pages numbers at is lt =
    let len = length_gathered 8 pages.list numbers (all_there 8 _ pages.list numbers is.paged.gathered) in
    let enough = is.enough in
    place_of_row 8 _ pages.list numbers at is.paged.gathered (omega (arith, len, enough, lt))

-- Of blocks of which none is marked, none is here, and none behind.
unmarked_parts : (xs ys : List Block) → has_mark (xs ++ ys) ≡ false → (has_mark xs ≡ false) × (has_mark ys ≡ false)
unmarked_parts xs ys none = split (has_mark xs) (has_mark ys) (sym (has_mark-append xs ys) ∙ none)
  where
    split : (a b : Bool) → (a || b) ≡ false → (a ≡ false) × (b ≡ false)
    split true b is = absurd (true≢false is)
    split false b is = (refl, is)

-- Of blocks of which none is marked, none of a range is.
unmarked_take : (n : ℕ) (xs : List Block) → has_mark xs ≡ false → has_mark (take n xs) ≡ false
unmarked_take zero xs none = refl
unmarked_take (suc n) [] none = refl
unmarked_take (suc n) (Bytes bytes ∷ xs) none = unmarked_take n xs none
unmarked_take (suc n) (Uncorrectable ∷ xs) none = absurd (true≢false none)

unmarked_drop : (n : ℕ) (xs : List Block) → has_mark xs ≡ false → has_mark (drop n xs) ≡ false
unmarked_drop zero xs none = none
unmarked_drop (suc n) [] none = refl
unmarked_drop (suc n) (Bytes bytes ∷ xs) none = unmarked_drop n xs none
unmarked_drop (suc n) (Uncorrectable ∷ xs) none = absurd (true≢false none)

-- Gathered from rows of which none is marked, none is.
unmarked_gathered : (w : ℕ) (rows : List Block) (numbers : List ℕ) → has_mark rows ≡ false → has_mark (gathered w rows numbers) ≡ false
unmarked_gathered w rows [] none = refl
unmarked_gathered w rows (n ∷ numbers) none =
    has_mark-append (row_of w rows n) (gathered w rows numbers)
    ∙ ap (λ (t : Bool). t || has_mark (gathered w rows numbers)) (unmarked_take w (drop (n * w) rows) (unmarked_drop (n * w) rows none))
    ∙ unmarked_gathered w rows numbers none

pub unmarked_paged : (count at n : ℕ) (pages : SizedBlocks) (numbers : List ℕ) → has_mark pages.list ≡ false
    → has_mark (stretch_of at n (take count (gathered 8 pages.list numbers))) ≡ false
unmarked_paged count at n pages numbers none =
    let all = gathered 8 pages.list numbers in
    unmarked_take n (drop at (take count all)) (unmarked_drop at (take count all) (unmarked_take count all (unmarked_gathered 8 pages.list numbers none)))

-- Where none is named, all numbers are 0.
none_named : (numbers : List ℕ) → named numbers ≡ 0 → numbers ≡ replicate (length numbers) 0
none_named [] none = refl
none_named (zero ∷ numbers) none = ap (λ (l : List ℕ). 0 ∷ l) (none_named numbers none)
none_named (suc n ∷ numbers) none = absurd (omega (arith, none))

-- With page 0 alone all blocks that count are zeroes.
pub zero_paged : (count : ℕ) (pages : SizedBlocks) (numbers : List ℕ) → ArePagedBlocks count pages numbers → length pages.list ≡ 8
    → take count (gathered 8 pages.list numbers) ≡ replicate (length (take count (gathered 8 pages.list numbers))) (zero_block pages.size)
zero_paged count pages numbers is first =
    let thing = zero_block pages.size in
    let n = length numbers in
    let one = is.paged.gathered.count in
    let none : named numbers ≡ 0 = omega (arith, one, first) in
    let rows : pages.list ≡ replicate 8 thing = sym (take_all 8 pages.list (omega (arith, first))) ∙ is.paged.gathered.first in
    let all : gathered 8 pages.list numbers ≡ replicate (n * 8) thing =
    ap (λ (l : List Block). gathered 8 l numbers) rows
    ∙ ap (gathered 8 (replicate 8 thing)) (none_named numbers none)
    ∙ gathered_first 8 n thing in
    ap (take count) all
    ∙ take-replicate count (n * 8) thing is.enough
    ∙ ap (λ (k : ℕ). replicate k thing) (sym (length_paged count pages numbers is))

-- A range and its front.
pub parts_of : (blocks front : List Block) (from left n : ℕ) → stretch_of from n blocks ≡ front → n ≤ left
    → AreParts front (stretch_of (from + n) (left - n) blocks) (stretch_of from left blocks)
parts_of blocks front from left n is le =
    let behind = stretch_of (from + n) (left - n) blocks in
    let whole = next_stretch blocks front from left n is le in
    let marks = ap has_mark whole ∙ has_mark-append front behind in
    record {
      marked = λ yes. marks ∙ ap (λ (t : Bool). t || has_mark behind) yes;
      rest = λ none. marks ∙ ap (λ (t : Bool). t || has_mark behind) none;
      unmarked = λ none. (unmarked_parts front behind (sym (ap has_mark whole) ∙ none)).0;
      bytes = ap joined whole ∙ joined-append front behind;
    }

-- A change of the gathered blocks within those that count is one of these.
pub counted_change : (count : ℕ) (pages others : SizedBlocks) (numbers after : List ℕ) (at n : ℕ) (news : ℕ → Block) → ArePagedBlocks count pages numbers
    → at + n ≤ length (take count (gathered 8 pages.list numbers)) → IsRewritten at n news (gathered 8 pages.list numbers) (gathered 8 others.list after)
    → IsRewritten at n news (take count (gathered 8 pages.list numbers)) (take count (gathered 8 others.list after))
counted_change count pages others numbers after at n news is within put =
    let len = length_gathered 8 pages.list numbers (all_there 8 _ pages.list numbers is.paged.gathered) in
    let counted = length_paged count pages numbers is in
    let enough = is.enough in
    rewritten_front at n count news (gathered 8 pages.list numbers) (gathered 8 others.list after) (omega (arith, within, counted)) (omega (arith, len, enough)) put

-- A change within one page: they are pages still, and the gathered blocks change so.
pub changed_page : (pages others : SizedBlocks) (numbers : List ℕ) (page at n : ℕ) (news : ℕ → Block) → ArePages pages numbers → IsAt numbers (at / 8) page
    → 0 < page → at % 8 + n ≤ 8 → others.size ≡ pages.size → IsRewritten (page * 8 + at % 8) n news pages.list others.list
    → ArePages others numbers × IsRewritten at n news (gathered 8 pages.list numbers) (gathered 8 others.list numbers)
changed_page pages others numbers page at n news is number some within size put =
    let place : at ≡ at / 8 * 8 + at % 8 = omega arith in
    let done = changed 8 (zero_block pages.size) pages.list others.list numbers (at / 8) page (at % 8) at n news is.gathered number some place within (omega arith) put in
    (record { gathered = rw size done.sound; few = is.few; small = rw size is.small }, done.is)
