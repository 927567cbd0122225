-- What a step leaves and reports, by the kind of its deed.
use Rattle.std.proofs.Common.{◌≡◌, ◌⊎◌, ◌↔◌, ℕ, true, ◌-◌, List, Some, inl, inr, refl, ap, ◌∙◌}
use Rattle.std.proofs.lemmas.Bool.{cases_Bool}
use Rattle.std.proofs.lemmas.Slice.Eq.{bytes_eq-Decides}
use Rattle.nvm_record.specs.declared.block.Block.{Block}
use Rattle.nvm_record.specs.declared.status.Statuses.TheVariants.{One}
use Rattle.nvm_record.specs.Status.{IsSuccess}
use Rattle.nvm_record.specs.Medium.{Medium, has_mark, joined}
use Rattle.nvm_record.specs.Step.{Deed, Operation, writes, zeroes, uncorrectable, reads, compares, pairs, deallocates, block_after, compares_equal, data_on, reaches, range_of, statuses_on, statuses_of, medium_after}
use Rattle.nvm_record.specs.Deeds.{IsLook, FailsOn, IsFailedPair, success_of}
use Rattle.nvm_record.proofs.Locality.{after_reached, after_unreached}

block_stays : (size : ℕ) (blocks : List Block) (deed : Deed) (i : ℕ) (old : Block) → IsLook deed ⊎ FailsOn blocks deed
    → block_after size blocks deed i old ≡ old
block_stays size blocks (writes payload) i old (inl look) = absurd (cc look)
block_stays size blocks (writes payload) i old (inr fails) = absurd fails
block_stays size blocks zeroes i old (inl look) = absurd (cc look)
block_stays size blocks zeroes i old (inr fails) = absurd fails
block_stays size blocks uncorrectable i old (inl look) = absurd (cc look)
block_stays size blocks uncorrectable i old (inr fails) = absurd fails
block_stays size blocks reads i old why = refl
block_stays size blocks (compares payload) i old why = refl
block_stays size blocks (pairs payload new) i old (inl look) = absurd (cc look)
block_stays size blocks (pairs payload new) i old (inr fails) = rw fails refl
block_stays size blocks (deallocates ranges) i old (inl look) = absurd (cc look)
block_stays size blocks (deallocates ranges) i old (inr fails) = absurd fails

pub medium_stays : (size : ℕ) (op : Operation) (m : Medium) (lba : ℕ) → IsLook op.deed ⊎ IsFailedPair op m
    → medium_after size op m lba ≡ m lba
medium_stays size op m lba why =
    elim (cases_Bool (reaches op lba)) [
      | inl t ↦ after_reached size op m lba t ∙ block_stays size (range_of op m) op.deed (lba - op.first) (m lba) why
      | inr f ↦ after_unreached size op m lba f
    ]

told_alike : (blocks : List Block) (deed : Deed) → IsSuccess (statuses_on blocks deed) → statuses_on blocks deed ≡ success_of deed
told_alike blocks (writes payload) h = refl
told_alike blocks zeroes h = refl
told_alike blocks uncorrectable h = refl
told_alike blocks reads h = ap One h
told_alike blocks (compares payload) h = ap One h
told_alike blocks (pairs payload new) h = rw (h.0, h.1) refl
told_alike blocks (deallocates ranges) h = refl

pub success_alike : (op : Operation) (m : Medium) → IsSuccess (statuses_of op m) → statuses_of op m ≡ success_of op.deed
success_alike op m h = told_alike (range_of op m) op.deed h

some_one : (a b : List ℕ) → Some a ≡ Some b → a ≡ b
some_one a b e = cc

pub read_compares : (blocks : List Block) (bytes : List ℕ) → (data_on blocks reads ≡ Some bytes) ↔ (compares_equal blocks bytes ≡ true)
read_compares blocks bytes =
    elim (cases_Bool (has_mark blocks)) [
      | inl t ↦ rw t ((λ h. absurd (cc h)), (λ h. absurd (cc h)))
      | inr f ↦
          rw f (
            (λ h. (bytes_eq-Decides (joined blocks) bytes).1 (some_one (joined blocks) bytes h)),
            (λ h. ap (λ (xs : List ℕ). Some xs) ((bytes_eq-Decides (joined blocks) bytes).0 h)),
          )
    ]
