use Rattle.std.proofs.Common.{◌∷◌, [], refl}
use Rattle.nvm_text.proofs.Taking.{within, then_front}
use Rattle.nvm_file.proofs.writing.done_jobs.write_payload.Goals as goal

pub returns-in_err-hand_noting-in-Some-clause-front : goal.returns-in_err-hand_noting-in-Some-clause-front
returns-in_err-hand_noting-in-Some-clause-front g c =
    rw c.in-Some.is (within c.from_residual.result _ _ _ (1 ∷ []) c.in-Some.payload refl c.in_err-hand_noting-in-Some.ensures.front)

pub returns-in_ok-hand_noting-in-Some-clause-front : goal.returns-in_ok-hand_noting-in-Some-clause-front
returns-in_ok-hand_noting-in-Some-clause-front g c =
    rw c.in-Some.is (then_front c.hand_noting-in-Some-2.result _ _ _ _ (1 ∷ []) _ c.in-Some.payload refl c.as_slice.ensures
    c.in_ok-hand_noting-in-Some.ensures.whole c.hand_noting-in-Some-2.ensures.front)
