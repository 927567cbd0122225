-- What a part may report, against what a record may show of a job that ended with it.
use Rattle.std.proofs.Common.{◌≡◌, ◌↔◌, ℕ, List, true, false, Option, None, IsTrue, IsSome, rules}
use Rattle.nvm_record.specs.declared.status.Statuses.{Statuses}
use Rattle.nvm_record.specs.Status.{IsSuccess}
use Rattle.nvm_record.specs.Step.{Deed}
use Rattle.nvm_plan.specs.declared.part.PartResult.{PartResult}
use Rattle.nvm_record.specs.Deeds.{is_pair, success_of}
use Rattle.nvm_plan.specs.Reply.{can_have, IsOneStatus, MayTell, GivesData}
use Rattle.nvm_plan.specs.Outcome.{answered, unstarted_of}
use Rattle.nvm_plan.specs.Shape.{goes_on, IsTwoStatuses, MayShow}

pub unstarted_fails : (deed : Deed) → IsSuccess (unstarted_of deed) → ⊥
unstarted_fails deed h = search rules

-- after a part that succeeded others may come
pub success_goes_on : (deed : Deed) (result : PartResult) (told : Statuses) → MayTell deed result told → IsSuccess told → IsTrue (goes_on result)
success_goes_on deed result told may h = search rules

-- what a part reports, a record may show
pub told_shown : (deed : Deed) (result : PartResult) (told : Statuses) → MayTell deed result told → MayShow deed result told
told_shown deed result told may = search rules

-- where the last part succeeded, success may be shown
pub success_shown : (deed : Deed) (result : PartResult) (told : Statuses) → IsTrue (can_have deed result) → MayTell deed result told → IsSuccess told → MayShow deed result (success_of deed)
success_shown deed result told can may h = search rules

-- a Read that succeeds gives data, and nothing else does
pub answer_gives : (deed : Deed) (bytes : List ℕ) → IsSome (answered deed bytes) ↔ GivesData deed (success_of deed)
answer_gives deed bytes = search rules

pub no_data : (deed : Deed) (told : Statuses) (read : Option (List ℕ)) → read ≡ None → ¬ (IsSuccess told) → IsSome read ↔ GivesData deed told
no_data deed told read none failure = search rules

-- what is shown has one status, or two where the deed is a pair's
pub one_shown : (deed : Deed) (result : PartResult) (told : Statuses) → is_pair deed ≡ false → IsTrue (can_have deed result) → MayShow deed result told → IsOneStatus told
one_shown deed result told pair can may = search rules

pub two_shown : (deed : Deed) (result : PartResult) (told : Statuses) → is_pair deed ≡ true → IsTrue (can_have deed result) → MayShow deed result told → IsTwoStatuses told
two_shown deed result told pair can may = search rules

pub one_unstarted : (deed : Deed) → is_pair deed ≡ false → IsOneStatus (unstarted_of deed)
one_unstarted deed pair = search rules

pub two_unstarted : (deed : Deed) → is_pair deed ≡ true → IsTwoStatuses (unstarted_of deed)
two_unstarted deed pair = search rules

pub one_success : (deed : Deed) → is_pair deed ≡ false → IsOneStatus (success_of deed)
one_success deed pair = search rules

pub two_success : (deed : Deed) → is_pair deed ≡ true → IsTwoStatuses (success_of deed)
two_success deed pair = search rules
