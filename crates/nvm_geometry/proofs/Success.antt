-- When a single command succeeds, block by block.
use Rattle.std.proofs.Common.{◌≡◌, ℕ, zero, suc, ◌+◌, ◌*◌, ◌<◌, false, List, [], ◌∷◌, ◌++◌, length, take, drop, inl, inr, refl, sym, ap, ap₂, ◌∙◌, add-zero, arith}
use Rattle.std.specs.Str.{bytes_eq}
use Rattle.std.proofs.lemmas.Bool.{cases_Bool, or_parts, or_from}
use Rattle.std.proofs.lemmas.Slice.Eq.{bytes_eq-Decides}
use Rattle.std.proofs.lemmas.List.{take_at, drop_at, drop-drop, length-drop, take-append-drop}
use Rattle.nvm_record.specs.declared.block.Block.{Block}
use Rattle.nvm_record.specs.declared.block.Block.TheVariants.{Bytes, Uncorrectable}
use Rattle.nvm_record.specs.declared.status.Status.{Status}
use Rattle.nvm_record.specs.Status.{IsSuccess, successful_completion, unrecovered_read_error, compare_failure}
use Rattle.nvm_record.specs.Medium.{Medium, range, is_marked, has_mark, bytes_of, joined, IsOfSize, HasBlockSize}
use Rattle.nvm_record.specs.Step.{HasData, Deed, writes, zeroes, uncorrectable, reads, compares, pairs, deallocates, statuses_on}
use Rattle.nvm_record.specs.Deeds.{IsSingle}

-- The block at place i of the range lets the command succeed.
abbrev pub IsGood : ℕ → Deed → ℕ → Block → Type 0
IsGood size (writes payload) i b = Unit {0}
IsGood size zeroes i b = Unit {0}
IsGood size uncorrectable i b = Unit {0}
IsGood size reads i b = is_marked b ≡ false
IsGood size (compares payload) i b = (is_marked b ≡ false) × (bytes_of b ≡ take size (drop (i * size) payload))
IsGood size (pairs payload new) i b = ⊥
IsGood size (deallocates ranges) i b = Unit {0}

-- each block of the n from `first` is unmarked
unmarked_at : (m : Medium) (first n i : ℕ) → has_mark (range m first n) ≡ false → i < n → is_marked (m (first + i)) ≡ false
unmarked_at m first zero i none inside = absurd (omega (arith, inside))
unmarked_at m first (suc n) zero none inside = rw (add-zero first) (or_parts _ _ none).0
unmarked_at m first (suc n) (suc i) none inside =
    let next : first + suc i ≡ suc first + i = omega arith in
    rw next (unmarked_at m (suc first) n i (or_parts _ _ none).1 (omega (arith, inside)))

unmarked_from : (m : Medium) (first n : ℕ) → ((i : ℕ) → i < n → is_marked (m (first + i)) ≡ false) → has_mark (range m first n) ≡ false
unmarked_from m first zero each = refl
unmarked_from m first (suc n) each =
    or_from _ _ (rw (add-zero first) at (each 0 (omega arith)))
    (unmarked_from m (suc first) n (λ i inside.
    let next : first + suc i ≡ suc first + i = omega arith in
    rw next at (each (suc i) (omega (arith, inside)))))

unmarked_size : (size : ℕ) (b : Block) → IsOfSize size b → is_marked b ≡ false → length (bytes_of b) ≡ size
unmarked_size size (Bytes bytes) has unmarked = has
unmarked_size size Uncorrectable has unmarked = absurd (cc)

-- the bytes at a place of unmarked blocks
joined_at : (size : ℕ) (m : Medium) (first n i : ℕ) → HasBlockSize size m → has_mark (range m first n) ≡ false → i < n
    → take size (drop (i * size) (joined (range m first n))) ≡ bytes_of (m (first + i))
joined_at size m first zero i holds none inside = absurd (omega (arith, inside))
joined_at size m first (suc n) zero holds none inside =
    let start : 0 * size ≡ 0 = omega arith in
    rw (start, add-zero first)
    (take_at (bytes_of (m first)) (joined (range m (suc first) n)) size (unmarked_size size (m first) (holds first) (or_parts _ _ none).0))
joined_at size m first (suc n) (suc i) holds none inside =
    let later : suc i * size ≡ size + i * size = omega arith in
    let next : first + suc i ≡ suc first + i = omega arith in
    rw (
      later,
      next,
      ← drop-drop (i * size) size (bytes_of (m first) ++ joined (range m (suc first) n)),
      drop_at (bytes_of (m first)) (joined (range m (suc first) n)) size (unmarked_size size (m first) (holds first) (or_parts _ _ none).0),
    )
    (joined_at size m (suc first) n i holds (or_parts _ _ none).1 (omega (arith, inside)))

-- data whose every place has a block's bytes is these blocks' bytes
joined_from : (size : ℕ) (m : Medium) (first n : ℕ) (payload : List ℕ) → length payload ≡ n * size
    → ((i : ℕ) → i < n → bytes_of (m (first + i)) ≡ take size (drop (i * size) payload)) → joined (range m first n) ≡ payload
joined_from size m first zero [] long each = refl
joined_from size m first zero (x ∷ payload) long each = absurd (omega (arith, long))
joined_from size m first (suc n) payload long each =
    let start : 0 * size ≡ 0 = omega arith in
    let here = rw (start, add-zero first) at (each 0 (omega arith)) in
    let rest =
    joined_from size m (suc first) n (drop size payload) (length-drop size payload ∙ omega (arith, long))
    (λ i inside.
    let later : suc i * size ≡ size + i * size = omega arith in
    let next : first + suc i ≡ suc first + i = omega arith in
    rw (drop-drop (i * size) size payload) (rw (later, next) at (each (suc i) (omega (arith, inside))))) in
    ap₂ (λ x y. x ++ y) here rest ∙ take-append-drop size payload

marked_fails : unrecovered_read_error ≡ successful_completion → ⊥
marked_fails e = omega (arith, ap (λ (s : Status). s.sct) e)

differing_fails : compare_failure ≡ successful_completion → ⊥
differing_fails e = omega (arith, ap (λ (s : Status). s.sct) e)

-- where the command succeeds, each block is good
pub good_from_success : (size : ℕ) (m : Medium) (first n : ℕ) (deed : Deed) → IsSingle deed → HasBlockSize size m
    → IsSuccess (statuses_on (range m first n) deed) → (i : ℕ) → i < n → IsGood size deed i (m (first + i))
good_from_success size m first n (writes payload) single holds success i inside = tt
good_from_success size m first n zeroes single holds success i inside = tt
good_from_success size m first n uncorrectable single holds success i inside = tt
good_from_success size m first n reads single holds success i inside =
    elim (cases_Bool (has_mark (range m first n))) [
      | inl t ↦ absurd (marked_fails (rw t at success))
      | inr f ↦ unmarked_at m first n i f inside
    ]
good_from_success size m first n (compares payload) single holds success i inside =
    elim (cases_Bool (has_mark (range m first n))) [
      | inl t ↦ absurd (marked_fails (rw t at success))
      | inr f ↦
          elim (cases_Bool (bytes_eq (joined (range m first n)) payload)) [
            | inl t ↦ (
              unmarked_at m first n i f inside,
              sym (joined_at size m first n i holds f inside)
                  ∙ ap (λ xs. take size (drop (i * size) xs)) ((bytes_eq-Decides (joined (range m first n)) payload).0 t),
            )
            | inr d ↦ absurd (differing_fails (rw (f, d) at success))
          ]
    ]
good_from_success size m first n (pairs payload new) single holds success i inside = absurd (cc single)
good_from_success size m first n (deallocates ranges) single holds success i inside = tt

-- and where each is, the command succeeds
pub success_from_good : (size : ℕ) (m : Medium) (first n : ℕ) (deed : Deed) → IsSingle deed → HasData (n * size) deed
    → ((i : ℕ) → i < n → IsGood size deed i (m (first + i))) → IsSuccess (statuses_on (range m first n) deed)
success_from_good size m first n (writes payload) single has good = refl
success_from_good size m first n zeroes single has good = refl
success_from_good size m first n uncorrectable single has good = refl
success_from_good size m first n reads single has good = rw (unmarked_from m first n good) refl
success_from_good size m first n (compares payload) single has good =
    let same = joined_from size m first n payload has (λ i inside. (good i inside).1) in
    rw (unmarked_from m first n (λ i inside. (good i inside).0), (bytes_eq-Decides (joined (range m first n)) payload).1 same) refl
success_from_good size m first n (pairs payload new) single has good = absurd (cc single)
success_from_good size m first n (deallocates ranges) single has good = refl
