use Rattle.std.proofs.Common.{◌≡◌, ◌+◌, ◌++◌, length, take, subst, arith}
use Rattle.std.specs.List.{flat_map}
use Rattle.std.proofs.lemmas.List.Elements.{All-more}
use Rattle.std.proofs.lemmas.Grind.{common_steps}
use Rattle.byteorder.specs.Endian.{little_bytes}
use Rattle.nvm_text.proofs.Taking.{within, loop_front, loop_next}
use Rattle.nvm_file.specs.TraceFits.{TracedJobFits}
use Rattle.nvm_file.specs.TraceSpelling.{traced_bytes}
use Rattle.nvm_file.proofs.writing.traces.write_traced_jobs.Goals as goal

pub returns-in_err-hand_noting-clause-front : goal.returns-in_err-hand_noting-clause-front
returns-in_err-hand_noting-clause-front g c =
    let jobs = c.args.jobs.now in
    within c.from_residual.result _ _ _ (little_bytes 4 (length jobs)) (flat_map traced_bytes jobs) c.count_bytes.ensures
    c.in_err-hand_noting.ensures.front

pub returns-in_err-write_traced_job-clause-front : goal.returns-in_err-write_traced_job-clause-front
returns-in_err-write_traced_job-clause-front g c =
    let jobs = c.args.jobs.now in
    let i = c.loop-job.job-index in
    let item = traced_bytes c.job-item.result in
    let next : flat_map traced_bytes (take (i + 1) jobs) ≡ flat_map traced_bytes (take i jobs) ++ item = grind (arith, common_steps) in
    loop_front c.from_residual-in_err-write_traced_job.result traced_bytes jobs i _ _ _ (little_bytes 4 (length jobs)) item next
    c.loop-job.invariant.written c.in_err-write_traced_job.ensures.front

pub loop-job-preserved : goal.loop-job-preserved
loop-job-preserved g c =
    let jobs = c.args.jobs.now in
    let i = c.loop-job.job-index in
    let item = traced_bytes c.job-item.result in
    let next : flat_map traced_bytes (take (i + 1) jobs) ≡ flat_map traced_bytes (take i jobs) ++ item = grind (arith, common_steps) in
    record {
      written = loop_next traced_bytes jobs i _ _ _ (little_bytes 4 (length jobs)) item next c.loop-job.invariant.written c.in_ok-write_traced_job.ensures.whole;
      fit = All-more TracedJobFits jobs i c.job-item.result c.loop-job-test.true c.loop-job.invariant.fit (subst TracedJobFits c.job-item.is c.in_ok-write_traced_job.ensures.fits);
    }
