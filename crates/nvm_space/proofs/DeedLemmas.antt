-- The kinds of deeds exclude one another.
use Rattle.std.proofs.Common.{◌≡◌, false, IsTrue, Option, None, Some, IsSome, refl, ap}
use Rattle.nvm_record.specs.declared.status.Status.{Status}
use Rattle.nvm_record.specs.Deeds.{is_pair, is_read, IsAct, IsLook}
use Rattle.nvm_record.specs.Status.{successful_completion, internal_error}
use Rattle.nvm_record.specs.Step.{Deed, writes, zeroes, uncorrectable, reads, compares, pairs, deallocates}

-- an act reads nothing
pub act_reads_none : (deed : Deed) → IsAct deed → IsTrue (is_read deed) → ⊥
act_reads_none (writes payload) act h = cc h
act_reads_none zeroes act h = cc h
act_reads_none uncorrectable act h = cc h
act_reads_none reads act h = cc act
act_reads_none (compares payload) act h = cc h
act_reads_none (pairs payload new) act h = cc h
act_reads_none (deallocates ranges) act h = cc h

-- a look is no pair
pub look_is_no_pair : (deed : Deed) → IsLook deed → is_pair deed ≡ false
look_is_no_pair (writes payload) look = absurd (cc look)
look_is_no_pair zeroes look = absurd (cc look)
look_is_no_pair uncorrectable look = absurd (cc look)
look_is_no_pair reads look = refl
look_is_no_pair (compares payload) look = refl
look_is_no_pair (pairs payload new) look = absurd (cc look)
look_is_no_pair (deallocates ranges) look = absurd (cc look)

pub internal_error_fails : internal_error ≡ successful_completion → ⊥
internal_error_fails e = let bad : 6 ≡ 0 = ap (λ (s : Status). s.sc) e in absurd (cc bad)

pub none_there : {A : Type 0} (o : Option A) → (IsSome o → ⊥) → o ≡ None
none_there None h = refl
none_there (Some x) h = absurd (h refl)
