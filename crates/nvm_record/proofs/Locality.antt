-- A step sees and changes its range alone.
use Rattle.std.proofs.Common.{◌≡◌, ◌↔◌, ℕ, zero, suc, ◌+◌, ◌-◌, ◌<◌, ◌≤◌, true, false, IsTrue, List, ◌∷◌, inl, inr, refl, ap, ap₂, arith}
use Rattle.std.proofs.lemmas.Bool.{cases_Bool, and_parts, leb-true, ltb-true, le-leb, lt-ltb}
use Rattle.nvm_record.specs.declared.block.Block.{Block}
use Rattle.nvm_record.specs.Medium.{Medium, range}
use Rattle.nvm_record.specs.Step.{Operation, block_after, is_about, is_in_range, reaches, range_of, statuses_of, data_of, data_on, statuses_on, medium_after, AgreeOn}

-- the bounds that the test for the range gives
pub range_bounds : (op : Operation) (lba : ℕ) → is_in_range op lba ≡ true → (op.first ≤ lba) × (lba < op.first + op.blocks)
range_bounds op lba inside =
    let parts = and_parts _ _ inside in
    (leb-true _ _ parts.0, ltb-true _ _ parts.1)

pub range_test : (op : Operation) (lba : ℕ) → (op.first ≤ lba) × (lba < op.first + op.blocks) → is_in_range op lba ≡ true
range_test op lba bounds = rw (le-leb op.first lba bounds.0, lt-ltb lba (op.first + op.blocks) bounds.1) refl

pub bounds_of_range : (op : Operation) (lba : ℕ) → IsTrue (is_in_range op lba) ↔ ((op.first ≤ lba) × (lba < op.first + op.blocks))
bounds_of_range op lba = (range_bounds op lba, range_test op lba)

-- what is reached lies in the range
pub reached_bounds : (op : Operation) (lba : ℕ) → reaches op lba ≡ true → (op.first ≤ lba) × (lba < op.first + op.blocks)
reached_bounds op lba reached =
    let parts = and_parts (is_about op.deed lba) (is_in_range op lba) reached in
    range_bounds op lba parts.1

pub after_reached : (size : ℕ) (op : Operation) (m : Medium) (lba : ℕ) → reaches op lba ≡ true
    → medium_after size op m lba ≡ block_after size (range_of op m) op.deed (lba - op.first) (m lba)
after_reached size op m lba reached = rw reached refl

pub after_unreached : (size : ℕ) (op : Operation) (m : Medium) (lba : ℕ) → reaches op lba ≡ false
    → medium_after size op m lba ≡ m lba
after_unreached size op m lba unreached = rw unreached refl

unreached_outside : (op : Operation) (lba : ℕ) → is_in_range op lba ≡ false → reaches op lba ≡ false
unreached_outside op lba outside =
    elim (cases_Bool (is_about op.deed lba)) [
      | inl t ↦ rw (t, outside) refl
      | inr f ↦ rw f refl
    ]

pub after_outside : (size : ℕ) (op : Operation) (m : Medium) (lba : ℕ) → is_in_range op lba ≡ false → medium_after size op m lba ≡ m lba
after_outside size op m lba outside = after_unreached size op m lba (unreached_outside op lba outside)

-- ranges of the same blocks
ranges_agree : (m n : Medium) (first k : ℕ) → ((lba : ℕ) → first ≤ lba → lba < first + k → m lba ≡ n lba) → range m first k ≡ range n first k
ranges_agree m n first zero same = refl
ranges_agree m n first (suc k) same =
    ap₂ (λ x xs. x ∷ xs) (same first (omega arith) (omega arith))
    (ranges_agree m n (suc first) k (λ lba low high. same lba (omega (arith, low)) (omega (arith, high))))

pub range_agrees : (op : Operation) (m n : Medium) → AgreeOn op m n → range_of op m ≡ range_of op n
range_agrees op m n agree = ranges_agree m n op.first op.blocks (λ lba low high. agree lba (range_test op lba (low, high)))

pub statuses_agree : (op : Operation) (m n : Medium) → AgreeOn op m n → statuses_of op m ≡ statuses_of op n
statuses_agree op m n agree = ap (λ (blocks : List Block). statuses_on blocks op.deed) (range_agrees op m n agree)

pub data_agrees : (op : Operation) (m n : Medium) → AgreeOn op m n → data_of op m ≡ data_of op n
data_agrees op m n agree = ap (λ (blocks : List Block). data_on blocks op.deed) (range_agrees op m n agree)

pub blocks_agree : (size : ℕ) (op : Operation) (m n : Medium) (lba : ℕ) → AgreeOn op m n → m lba ≡ n lba
    → medium_after size op m lba ≡ medium_after size op n lba
blocks_agree size op m n lba agree same =
    elim (cases_Bool (reaches op lba)) [
      | inl t ↦ rw (after_reached size op m lba t, after_reached size op n lba t, range_agrees op m n agree, same) refl
      | inr f ↦ rw (after_unreached size op m lba f, after_unreached size op n lba f, same) refl
    ]
