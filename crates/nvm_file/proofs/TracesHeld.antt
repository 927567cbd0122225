-- The trace that is read is one that a trace can hold.
use Rattle.std.proofs.Common.{◌≡◌, inl, inr, ℕ, ◌*◌, ◌+◌, ◌≤◌, ◌==◌, ltb, cond, List, length, All, Option, Some, None, Ok, Err, refl, sym, subst, arith}
use Rattle.std.specs.Prelude.{IfSome}
use Rattle.std.proofs.lemmas.Bool.{eqb-false, ltb-false}
use Rattle.std.proofs.lemmas.Option.{same_Some}
use Rattle.nvm_record.specs.declared.command.Command.{Command}
use Rattle.nvm_record.specs.declared.op.Op.{Op}
use Rattle.nvm_record.specs.declared.op.Op.TheVariants.{Write, Read, WriteUncorrectable, Compare, WriteZeroes, Dataset, Other}
use Rattle.nvm_geometry.specs.Namespace.{Namespace}
use Rattle.nvm_plan.specs.declared.job.Body.{Body}
use Rattle.nvm_plan.specs.declared.job.Body.TheVariants.{Single, Pair}
use Rattle.nvm_plan.specs.declared.job.Job.{Job}
use Rattle.nvm_plan.specs.Operation.{fused_operation, operation_of_body, single_operation}
use Rattle.nvm_audit.specs.declared.version.Version.{Version}
use Rattle.nvm_audit.specs.declared.version.Version.TheVariants.{Two}
use Rattle.nvm_audit.specs.Recordable.{HoldsBody, most_jobs}
use Rattle.nvm_trace.specs.declared.traced_job.Ending.{Ending}
use Rattle.nvm_trace.specs.declared.traced_job.TracedJob.{TracedJob}
use Rattle.nvm_trace.specs.Traceable.{IsDataOf, IsEndingOf, IsTraceable, IsTraceableJob}
use Rattle.nvm_file.specs.declared.scope.Scope.{Scope}
use Rattle.nvm_file.specs.declared.trace_file_fault.TraceFileFault.TheVariants.{BeganAtZero, EndedBefore}
use Rattle.nvm_file.specs.declared.trace_frame.TraceFrame.{TraceFrame}
use Rattle.nvm_file.specs.DoneReading.{payload_at, read_length, statuses_at}
use Rattle.nvm_file.specs.Fields.{items_at, number_at, number_in, offset}
use Rattle.nvm_file.specs.HeadReading.{judged, numbers_at}
use Rattle.nvm_file.specs.Inside.TraceFrames.{IsSoundTraceFrame}
use Rattle.nvm_file.specs.JobReading.{job_at}
use Rattle.nvm_file.specs.TracedJobReading.{began_at, ended_at, ended_by, ending_at, never, seen_at, traced_at}
use Rattle.nvm_file.specs.TraceHeadReading.{trace_frame_with, trace_head_at, trace_name_at}
use Rattle.nvm_file.specs.TraceReading.{trace_with}
use Rattle.nvm_file.proofs.CommandsHeld.{IsProperEach}
use Rattle.nvm_file.proofs.DoneHeld.{IsWholeAnswer, payload_held, statuses_held}
use Rattle.nvm_file.proofs.HeadsHeld.{judged_valid}
use Rattle.nvm_file.proofs.JobsHeld.{job_held}
use Rattle.nvm_file.proofs.Readings.{bind_ok, chosen, each_holds, in_range, kept, ok_is, ok_same}
use Rattle.nvm_file.proofs.TraceParts.{in_trace_ok}

pub head_held : (total : ℕ) (bytes : List ℕ) (x : TraceFrame × List ℕ) → trace_head_at total bytes ≡ Ok x → IsSoundTraceFrame x.0
unfolding trace_head_at
head_held total bytes x e =
    let a = bind_ok (trace_name_at bytes) _ x e in
    let b = bind_ok (numbers_at total a.0) _ x a.2 in
    let j = bind_ok (judged b.0.0) _ x b.2 in
    let c = bind_ok (number_at total 8 b.0.1) _ x j.2 in
    let s = bind_ok (number_in total 1 0 1 c.0.1) _ x c.2 in
    let r = bind_ok (number_in total 1 0 8 s.0.1) _ x s.2 in
    let f = bind_ok (number_in total 4 0 most_jobs r.0.1) _ x r.2 in
    let jobs = in_range total 4 0 most_jobs r.0.1 f.0 f.1 in
    subst (λ (y : TraceFrame × List ℕ). IsSoundTraceFrame y.0) (ok_is (trace_frame_with total j.0 c.0.0 s.0.0 r.0.0 f.0.0, f.0.1) x f.2)
    (record { namespace = judged_valid b.0.0 j.0 j.1; version = refl; few_jobs = jobs.1 })

-- Who is answered so many bytes is a Read of so many.
single_data : (ns : Namespace) (c : Command) (op : Op) (bytes : List ℕ)
    → read_length ns.block_size (single_operation ns op c) ≡ Some (length bytes)
    → (op ≡ Read) × (length bytes ≡ (c.nlb + 1) * ns.block_size)
single_data ns c Write bytes e = absurd cc
single_data ns c Read bytes e = (refl, sym (same_Some ((c.nlb + 1) * ns.block_size) (length bytes) e))
single_data ns c WriteUncorrectable bytes e = absurd cc
single_data ns c Compare bytes e = absurd cc
single_data ns c WriteZeroes bytes e = absurd cc
single_data ns c (Dataset deallocate) bytes e = absurd cc
single_data ns c (Other opcode) bytes e = absurd cc

data_of : (ns : Namespace) (body : Body) (bytes : List ℕ)
    → read_length ns.block_size (operation_of_body ns body) ≡ Some (length bytes) → IsDataOf ns body bytes
data_of ns (Single c) bytes e = single_data ns c c.op bytes e
data_of ns (Pair c d) bytes e = none c.op d.op e
  where
    none : (first second : Op) → read_length ns.block_size (fused_operation first second c d) ≡ Some (length bytes) → ⊥
    none Compare Write e = absurd cc
    none Compare Read e = absurd cc
    none Compare WriteUncorrectable e = absurd cc
    none Compare Compare e = absurd cc
    none Compare WriteZeroes e = absurd cc
    none Compare (Dataset deallocate) e = absurd cc
    none Compare (Other opcode) e = absurd cc
    none Write second e = absurd cc
    none Read second e = absurd cc
    none WriteUncorrectable second e = absurd cc
    none WriteZeroes second e = absurd cc
    none (Dataset deallocate) second e = absurd cc
    none (Other opcode) second e = absurd cc

all_data : (ns : Namespace) (body : Body) (payload : Option (List ℕ))
    → IsWholeAnswer (read_length ns.block_size (operation_of_body ns body)) payload → IfSome payload (IsDataOf ns body)
all_data ns body None whole = tt
all_data ns body (Some bytes) whole = data_of ns body bytes (whole bytes refl)

began_held : (total : ℕ) (bytes : List ℕ) (x : ℕ × List ℕ) → began_at total bytes ≡ Ok x → 1 ≤ x.0
unfolding began_at
began_held total bytes x e =
    let a = in_trace_ok (number_at total 8 bytes) _ x e in
    let g = kept (a.0.0 == 0) (BeganAtZero (offset total bytes)) a.0 x a.2 in
    let some = eqb-false a.0.0 0 g.0 in
    let low : 1 ≤ a.0.0 = omega (arith, some) in
    subst (λ (y : ℕ × List ℕ). 1 ≤ y.0) g.1 low

module _ (scope : Scope) (job : Job) (began : ℕ) where
  -- The end may be that of the job.
  abbrev IsEnd : Option Ending → Type 0
  IsEnd ended = IfSome ended (IsEndingOf scope.geometry (record { job = job; began = began; ended = ended }))

  ending_held : (time : ℕ) (bytes : List ℕ) (x : Ending × List ℕ) → began ≤ time → ending_at scope job.body time bytes ≡ Ok x
      → IsEnd (Some x.0)
  unfolding ending_at
  ending_held time bytes x late e =
      let count = read_length scope.geometry.block_size (operation_of_body scope.geometry job.body) in
      let a = bind_ok (statuses_at job.body scope.total bytes) _ x e in
      let b = bind_ok (payload_at scope.total count a.0.1) _ x a.2 in
      subst (λ (y : Ending × List ℕ). IsEnd (Some y.0))
      (ok_is (record { time = time; statuses = a.0.0; payload = b.0.0 }, b.0.1) x b.2)
      (record {
        time = late;
        statuses = statuses_held job.body scope.total bytes a.0 a.1;
        payload = all_data scope.geometry job.body b.0.0 (payload_held scope.total count a.0.1 b.0 b.1);
      })

  seen_held : (time : ℕ) (bytes : List ℕ) (x : Option Ending × List ℕ) → began ≤ time → seen_at scope job.body time bytes ≡ Ok x
      → IsEnd x.0
  unfolding seen_at
  seen_held time bytes x late e =
      let a = in_trace_ok (ending_at scope job.body time bytes) _ x e in
      subst (λ (y : Option Ending × List ℕ). IsEnd y.0) (ok_same (Some a.0.0, a.0.1) x a.2) (ending_held time bytes a.0 late a.1)

  by_time : (time : ℕ) (at bytes : List ℕ) (x : Option Ending × List ℕ) → ended_by scope job.body began time at bytes ≡ Ok x → IsEnd x.0
  by_time time at bytes x e =
      let late = cond (ltb time began) (Err (EndedBefore (offset scope.total at))) (seen_at scope job.body time bytes) in
      elim (chosen (time == never) (Ok (None, bytes)) late (Ok x) e) [
        | inl none ↦ subst (λ (y : Option Ending × List ℕ). IsEnd y.0) (ok_same (None, bytes) x none.1) tt
        | inr some ↦
            elim (chosen (ltb time began) (Err (EndedBefore (offset scope.total at))) (seen_at scope job.body time bytes) (Ok x) some.1) [
              | inl before ↦ absurd cc
              | inr after ↦ seen_held time bytes x (ltb-false time began after.0) after.1
            ]
      ]

  ended_held : (bytes : List ℕ) (x : Option Ending × List ℕ) → ended_at scope job.body began bytes ≡ Ok x → IsEnd x.0
  unfolding ended_at
  ended_held bytes x e =
      let a = in_trace_ok (number_at scope.total 8 bytes) _ x e in
      by_time a.0.0 bytes a.0.1 x a.2

module _ (proper : IsProperEach) (scope : Scope) (second : scope.version ≡ Two) where
  traced_held : (bytes : List ℕ) (x : TracedJob × List ℕ) → traced_at scope bytes ≡ Ok x → IsTraceableJob scope.geometry x.0
  unfolding traced_at
  traced_held bytes x e =
      let a = in_trace_ok (job_at scope bytes) _ x e in
      let b = bind_ok (began_at scope.total a.0.1) _ x a.2 in
      let c = bind_ok (ended_at scope a.0.0.body b.0.0 b.0.1) _ x b.2 in
      let job = job_held proper scope bytes a.0 a.1 in
      subst (λ (y : TracedJob × List ℕ). IsTraceableJob scope.geometry y.0)
      (ok_same (record { job = a.0.0; began = b.0.0; ended = c.0.0 }, c.0.1) x c.2)
      (record {
        fits = job.fits;
        known = subst (λ (v : Version). HoldsBody v a.0.0.body) second job.known;
        began = began_held scope.total a.0.1 b.0 b.1;
        ended = ended_held scope a.0.0 b.0.0 b.0.1 c.0 c.1;
      })

  pub trace_held : (head : TraceFrame) (jobs : List TracedJob) (bytes rest : List ℕ) → head.scope ≡ scope → IsSoundTraceFrame head
      → items_at (λ _. traced_at head.scope) 0 head.jobs bytes ≡ Ok (jobs, rest) → IsTraceable (trace_with head jobs)
  trace_held head jobs bytes rest same sound e =
      let each = each_holds (IsTraceableJob scope.geometry) (λ _. traced_at scope) (λ i l y h. traced_held l y h)
      0 head.jobs bytes (jobs, rest) (subst (λ (s : Scope). items_at (λ _. traced_at s) 0 head.jobs bytes ≡ Ok (jobs, rest)) same e) in
      record {
        namespace = sound.namespace;
        few = omega (arith, each.1, sound.few_jobs);
        jobs = subst (λ (s : Scope). All (IsTraceableJob s.geometry) jobs) (sym same) each.0;
      }
