-- The kinds of deeds, what is reported on success, and pairs that fail. Who asks for a kind, asks here.
use Rattle.std.specs.Prelude.{◌≡◌, List, Bool, true, false, not, IsTrue, if◌then◌else◌}
use Rattle.nvm_record.specs.declared.block.Block.{Block}
use Rattle.nvm_record.specs.declared.status.Statuses.{Statuses}
use Rattle.nvm_record.specs.declared.status.Statuses.TheVariants.{One, Two}
use Rattle.nvm_record.specs.Status.{successful_completion}
use Rattle.nvm_record.specs.Medium.{Medium}
use Rattle.nvm_record.specs.Step.{Deed, Operation, reads, compares, pairs, deallocates, compares_equal, range_of}

-- a Read: where it succeeds, it is answered data
abbrev pub is_read : Deed → Bool
is_read reads = true
is_read _ = false

-- a Read, or a Compare by itself: it changes nothing
abbrev pub is_look : Deed → Bool
is_look reads = true
is_look (compares payload) = true
is_look _ = false

-- a fused Compare and Write
abbrev pub is_pair : Deed → Bool
is_pair (pairs payload new) = true
is_pair _ = false

-- a Deallocate: it has to do with the LBAs of its ranges alone
abbrev pub is_deallocate : Deed → Bool
is_deallocate (deallocates ranges) = true
is_deallocate _ = false

abbrev pub IsLook : Deed → Type 0
IsLook deed = IsTrue (is_look deed)

-- It isn't a look: where it succeeds, it may change the medium.
abbrev pub IsAct : Deed → Type 0
IsAct deed = IsTrue (not (is_look deed))

abbrev pub IsPair : Deed → Type 0
IsPair deed = IsTrue (is_pair deed)

-- the deed of one command
abbrev pub IsSingle : Deed → Type 0
IsSingle deed = IsTrue (not (is_pair deed))

-- The deed has to do with each LBA of its operation.
abbrev pub IsOnRange : Deed → Type 0
IsOnRange deed = IsTrue (not (is_deallocate deed))

-- one status for a command by itself, two for a pair
abbrev pub for_deed : Deed → Statuses → Statuses → Statuses
for_deed deed one two = if is_pair deed then two else one

-- what is reported on success
abbrev pub success_of : Deed → Statuses
success_of deed = for_deed deed (One successful_completion) (Two successful_completion successful_completion)

-- The deed is a pair, and its comparison with these blocks doesn't hold.
abbrev pub FailsOn : List Block → Deed → Type 0
FailsOn blocks (pairs payload new) = compares_equal blocks payload ≡ false
FailsOn blocks _ = ⊥

-- The operation is a pair, and its comparison doesn't hold on the medium.
abbrev pub IsFailedPair : Operation → Medium → Type 0
IsFailedPair op m = FailsOn (range_of op m) op.deed
