use Rattle.std.proofs.Common.{◌++◌, refl}
use Rattle.byteorder.specs.Endian.{little_bytes}
use Rattle.nvm_text.proofs.Taking.{within, behind, first_of, on_err, on_err_then}
use Rattle.nvm_file.specs.JobSpelling.{job_bytes}
use Rattle.nvm_file.specs.TraceSpelling.{ended_bytes}
use Rattle.nvm_file.proofs.writing.traces.write_traced_job.Goals as goal

pub returns-in_err-write_job-clause-front : goal.returns-in_err-write_job-clause-front
returns-in_err-write_job-clause-front g c =
    let j = c.args.job.now in
    within c.from_residual.result _ _ _ (job_bytes j.job) (little_bytes 8 j.began ++ ended_bytes j.ended) refl
    c.in_err-write_job.ensures.front

pub returns-in_err-hand_noting-clause-front : goal.returns-in_err-hand_noting-clause-front
returns-in_err-hand_noting-clause-front g c =
    let j = c.args.job.now in
    let began = little_bytes 8 j.began in
    let ended = ended_bytes j.ended in
    on_err c.from_residual-in_err-hand_noting.result
    (behind _ _ _ _ (job_bytes j.job) (began ++ ended) refl c.in_ok-write_job.ensures.whole
    (first_of _ _ _ began ended c.eight_bytes.ensures c.in_err-hand_noting.ensures.front))

pub returns-clause-front : goal.returns-clause-front
returns-clause-front g c =
    let j = c.args.job.now in
    let began = little_bytes 8 j.began in
    let ended = ended_bytes j.ended in
    on_err_then c.write_ended.result (λ failed.
    behind _ _ _ _ (job_bytes j.job) (began ++ ended) refl c.in_ok-write_job.ensures.whole
    (behind _ _ _ _ began ended c.eight_bytes.ensures c.in_ok-hand_noting.ensures.whole failed)) c.write_ended.ensures.front
