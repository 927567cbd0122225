-- What stands before the jobs, as it is read, is sound but for the limit.
use Rattle.std.proofs.Common.{◌≡◌, ℕ, List, Ok, subst}
use Rattle.nvm_geometry.specs.Faults.{IsValid}
use Rattle.nvm_geometry.specs.Namespace.{Namespace}
use Rattle.nvm_audit.specs.Recordable.{HoldsLimit, most_jobs, most_workers}
use Rattle.nvm_file.specs.declared.frame.Frame.{Frame}
use Rattle.nvm_file.specs.declared.record_fault.RecordFault.TheVariants as fault
use Rattle.nvm_file.specs.Fields.{◌>>=◌, number_in}
use Rattle.nvm_file.specs.Inside.Frames.{IsSoundFrame}
use Rattle.nvm_file.specs.HeadReading.{frame_with, head_at, is_geometry, judged, limit_at, numbers_at, version_at}
use Rattle.nvm_file.proofs.Geometries.{is_valid}
use Rattle.nvm_file.proofs.Readings.{bind_ok, in_range, ok_is, took}

pub judged_valid : (ns judge : Namespace) → judged ns ≡ Ok judge → IsValid judge
unfolding judged
judged_valid ns judge e =
    let g = took (is_geometry ns) (fault.BadValue 4) ns judge e in
    subst IsValid g.1 (is_valid ns g.0)

pub head_held : (total : ℕ) (bytes : List ℕ) (x : Frame × List ℕ) → head_at total bytes ≡ Ok x → HoldsLimit x.0.version x.0.limit
    → IsSoundFrame x.0
unfolding head_at
head_held total bytes x e =
    let a = bind_ok (version_at bytes)
    (λ version. numbers_at total version.1 >>= λ numbers. judged numbers.0 >>= λ namespace. limit_at version.0 total numbers.1
    >>= λ limit. number_in total 2 1 most_workers limit.1 >>= λ workers. number_in total 4 0 most_jobs workers.1
    >>= λ jobs. Ok (frame_with total version.0 namespace limit.0 workers.0 jobs.0, jobs.1)) x e in
    let b = bind_ok (numbers_at total a.0.1)
    (λ numbers. judged numbers.0 >>= λ namespace. limit_at a.0.0 total numbers.1
    >>= λ limit. number_in total 2 1 most_workers limit.1 >>= λ workers. number_in total 4 0 most_jobs workers.1
    >>= λ jobs. Ok (frame_with total a.0.0 namespace limit.0 workers.0 jobs.0, jobs.1)) x a.2 in
    let c = bind_ok (judged b.0.0)
    (λ namespace. limit_at a.0.0 total b.0.1
    >>= λ limit. number_in total 2 1 most_workers limit.1 >>= λ workers. number_in total 4 0 most_jobs workers.1
    >>= λ jobs. Ok (frame_with total a.0.0 namespace limit.0 workers.0 jobs.0, jobs.1)) x b.2 in
    let d = bind_ok (limit_at a.0.0 total b.0.1)
    (λ limit. number_in total 2 1 most_workers limit.1 >>= λ workers. number_in total 4 0 most_jobs workers.1
    >>= λ jobs. Ok (frame_with total a.0.0 c.0 limit.0 workers.0 jobs.0, jobs.1)) x c.2 in
    let w = bind_ok (number_in total 2 1 most_workers d.0.1)
    (λ workers. number_in total 4 0 most_jobs workers.1
    >>= λ jobs. Ok (frame_with total a.0.0 c.0 d.0.0 workers.0 jobs.0, jobs.1)) x d.2 in
    let j = bind_ok (number_in total 4 0 most_jobs w.0.1)
    (λ jobs. Ok (frame_with total a.0.0 c.0 d.0.0 w.0.0 jobs.0, jobs.1)) x w.2 in
    let workers = in_range total 2 1 most_workers d.0.1 w.0 w.1 in
    let jobs = in_range total 4 0 most_jobs w.0.1 j.0 j.1 in
    subst (λ (y : Frame × List ℕ). HoldsLimit y.0.version y.0.limit → IsSoundFrame y.0)
    (ok_is (frame_with total a.0.0 c.0 d.0.0 w.0.0 j.0.0, j.0.1) x j.2)
    (λ limit. record {
      namespace = judged_valid b.0.0 c.0 c.1;
      limit = limit;
      some_worker = workers.0;
      few_workers = workers.1;
      few_jobs = jobs.1;
    })
