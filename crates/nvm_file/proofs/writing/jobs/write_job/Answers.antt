use Rattle.std.proofs.Common.{◌++◌, ◌∷◌, refl}
use Rattle.byteorder.specs.Endian.{little_bytes}
use Rattle.nvm_record.specs.Entry.{spelling_of}
use Rattle.nvm_text.proofs.Taking.{within, then_whole, then_front}
use Rattle.nvm_file.proofs.writing.jobs.write_job.Goals as goal

pub returns-in-Single-clause-whole : goal.returns-in-Single-clause-whole
returns-in-Single-clause-whole g c = rw c.in-Single.is c.write_first.ensures.whole

pub returns-in-Single-clause-front : goal.returns-in-Single-clause-front
returns-in-Single-clause-front g c = rw c.in-Single.is c.write_first.ensures.front

pub returns-in_err-write_first-in-Pair-clause-front : goal.returns-in_err-write_first-in-Pair-clause-front
returns-in_err-write_first-in-Pair-clause-front g c =
    let pair = c.in-Pair in
    rw pair.is (within c.from_residual.result _ _ _ (little_bytes 2 c.args.job.now.host ++ (1 ∷ spelling_of pair.first)) (spelling_of pair.second) refl
    c.in_err-write_first-in-Pair.ensures.front)

pub returns-in_ok-write_first-in-Pair-clause-whole : goal.returns-in_ok-write_first-in-Pair-clause-whole
returns-in_ok-write_first-in-Pair-clause-whole g c =
    let pair = c.in-Pair in
    rw pair.is (then_whole c.write_command.result _ _ _ _ (little_bytes 2 c.args.job.now.host ++ (1 ∷ spelling_of pair.first)) _ (spelling_of pair.second)
    refl refl c.in_ok-write_first-in-Pair.ensures.whole c.write_command.ensures.whole)

pub returns-in_ok-write_first-in-Pair-clause-front : goal.returns-in_ok-write_first-in-Pair-clause-front
returns-in_ok-write_first-in-Pair-clause-front g c =
    let pair = c.in-Pair in
    rw pair.is (then_front c.write_command.result _ _ _ _ (little_bytes 2 c.args.job.now.host ++ (1 ∷ spelling_of pair.first)) _ (spelling_of pair.second)
    refl refl c.in_ok-write_first-in-Pair.ensures.whole c.write_command.ensures.front)
