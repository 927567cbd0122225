use Rattle.std.proofs.Common.{ℕ, List, [], ◌∷◌, ◌++◌, subst}
use Rattle.std.specs.Io.KnownBytes.{Appends}
use Rattle.byteorder.specs.Endian.{little_bytes}
use Rattle.nvm_record.specs.declared.status.Status.{Status}
use Rattle.nvm_plan.specs.declared.part.Part.{Part}
use Rattle.nvm_text.proofs.Taking.{within, then_whole, then_front, on_ok_then}
use Rattle.nvm_file.specs.WorkSpelling.{part_bytes}
use Rattle.nvm_file.proofs.writing.done_jobs.write_one_part.Goals as goal

-- all but the data, where there is some
abbrev flagged : ℕ → Part → Status → List ℕ
flagged job part status = little_bytes 4 job ++ (little_bytes 2 1 ++ (part_bytes part ++ (status.sct ∷ status.sc ∷ 1 ∷ [])))

pub returns-in-None-clause-whole : goal.returns-in-None-clause-whole
returns-in-None-clause-whole g c =
    rw c.in-None.is (on_ok_then c.hand_noting.result (λ taken. subst (Appends _ _) c.one_part_front.ensures.bytes taken) c.hand_noting.ensures.whole)

pub returns-in_err-hand_noting-in-Some-clause-front : goal.returns-in_err-hand_noting-in-Some-clause-front
returns-in_err-hand_noting-in-Some-clause-front g c =
    rw c.in-Some.is (within c.from_residual.result _ _ _ (flagged c.args.job c.args.part c.args.status) c.in-Some.payload c.one_part_front-in-Some.ensures.bytes
    c.in_err-hand_noting-in-Some.ensures.front)

pub returns-in_ok-hand_noting-in-Some-clause-whole : goal.returns-in_ok-hand_noting-in-Some-clause-whole
returns-in_ok-hand_noting-in-Some-clause-whole g c =
    rw c.in-Some.is (then_whole c.hand_noting-in-Some-2.result _ _ _ _ (flagged c.args.job c.args.part c.args.status) _ c.in-Some.payload c.one_part_front-in-Some.ensures.bytes
    c.as_slice.ensures c.in_ok-hand_noting-in-Some.ensures.whole c.hand_noting-in-Some-2.ensures.whole)

pub returns-in_ok-hand_noting-in-Some-clause-front : goal.returns-in_ok-hand_noting-in-Some-clause-front
returns-in_ok-hand_noting-in-Some-clause-front g c =
    rw c.in-Some.is (then_front c.hand_noting-in-Some-2.result _ _ _ _ (flagged c.args.job c.args.part c.args.status) _ c.in-Some.payload c.one_part_front-in-Some.ensures.bytes
    c.as_slice.ensures c.in_ok-hand_noting-in-Some.ensures.whole c.hand_noting-in-Some-2.ensures.front)
