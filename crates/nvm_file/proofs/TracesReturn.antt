-- A trace is read of its spelling.
use Rattle.std.proofs.Common.{◌≡◌, ℕ, ◌^◌, ◌<◌, ◌≤◌, List, [], ◌∷◌, ◌++◌, length, append-nil, append_assoc, All, Option, Some, None, Ok, refl, sym, ap, ◌∙◌, arith}
use Rattle.std.specs.Prelude.{IfSome}
use Rattle.std.specs.List.{flat_map}
use Rattle.std.proofs.lemmas.Bool.{le-ltb, ne_eqb}
use Rattle.std.proofs.lemmas.List.Elements.{recursion_from_All}
use Rattle.byteorder.specs.Endian.{little_bytes}
use Rattle.nvm_record.specs.declared.op.Op.{Op}
use Rattle.nvm_geometry.specs.Namespace.{Namespace}
use Rattle.nvm_plan.specs.declared.job.Body.{Body}
use Rattle.nvm_plan.specs.declared.job.Body.TheVariants.{Single, Pair}
use Rattle.nvm_plan.specs.Operation.{operation_of_body, single_operation}
use Rattle.nvm_plan.specs.Shape.{IsForEach}
use Rattle.nvm_audit.specs.declared.version.Version.TheVariants.{Two}
use Rattle.nvm_audit.specs.Recordable.{most_jobs}
use Rattle.nvm_trace.specs.declared.deallocated.Deallocated.{Deallocated}
use Rattle.nvm_trace.specs.declared.reads.Reads.{Reads}
use Rattle.nvm_trace.specs.declared.start.Start.{Start}
use Rattle.nvm_trace.specs.declared.traced_job.Ending.{Ending}
use Rattle.nvm_trace.specs.declared.traced_job.TracedJob.{TracedJob}
use Rattle.nvm_trace.specs.Traceable.{IsDataOf, IsEndingOf, IsTraceable, IsTraceableJob}
use Rattle.nvm_trace.specs.TraceView.{TraceView}
use Rattle.nvm_file.specs.declared.scope.Scope.{Scope}
use Rattle.nvm_file.specs.declared.trace_frame.TraceFrame.{TraceFrame}
use Rattle.nvm_file.specs.DoneReading.{payload_at, read_length}
use Rattle.nvm_file.specs.Fields.{items_at}
use Rattle.nvm_file.specs.Fits.{NumbersFit, StatusesFit}
use Rattle.nvm_file.specs.HeadSpelling.{namespace_bytes}
use Rattle.nvm_file.specs.JobSpelling.{job_bytes}
use Rattle.nvm_file.specs.TracedJobReading.{began_at, ended_at, ended_by, ending_at, never, seen_at, traced_at}
use Rattle.nvm_file.specs.TraceFits.{EndingFits, TraceFits, TracedJobFits}
use Rattle.nvm_file.specs.TraceHeadReading.{deallocated_of, reads_of, trace_head_at, trace_name, trace_name_at}
use Rattle.nvm_file.specs.TraceReading.{trace_at, trace_behind}
use Rattle.nvm_file.specs.TraceSpelling.{ended_bytes, promise_byte, start_byte, trace_bytes, trace_head_bytes, traced_bytes}
use Rattle.nvm_file.specs.WorkSpelling.{payload_bytes, statuses_bytes}
use Rattle.nvm_file.proofs.DoneReturn.{none_returns, some_returns, statuses_return}
use Rattle.nvm_file.proofs.HeadsReturn.{judged_valid, numbers_return}
use Rattle.nvm_file.proofs.JobsReturn.{job_returns}
use Rattle.nvm_file.proofs.Returning.{items_return, number_in_returns, number_returns, read_then}
use Rattle.nvm_file.proofs.TraceParts.{deallocated_back, in_trace_then, promises_return, reads_back, start_back, start_returns}

name_returns : (rest : List ℕ) → trace_name_at (trace_name ++ rest) ≡ Ok rest
unfolding trace_name_at
name_returns rest = refl

-- the head that is read of a trace's file, if these are its codes
abbrev head_by : ℕ → TraceView → Start → Reads → Deallocated → TraceFrame
head_by total t start reads deallocated =
    record {
      scope = record { total = total; version = Two; geometry = t.namespace };
      first = t.first;
      start = start;
      reads = reads;
      deallocated = deallocated;
      jobs = length t.jobs;
    }

head_of : ℕ → TraceView → TraceFrame
head_of total t = head_by total t t.start t.reads t.deallocated

head_returns : (total : ℕ) (t : TraceView) (rest : List ℕ) → IsTraceable t → NumbersFit t.namespace → t.first < 2 ^ 64
    → trace_head_at total (trace_head_bytes t ++ (little_bytes 4 (length t.jobs) ++ rest)) ≡ Ok (head_of total t, rest)
unfolding trace_head_at head_of
head_returns total t rest can fit low =
    let ns = namespace_bytes t.namespace in
    let first = little_bytes 8 t.first in
    let promises = promise_byte t.reads t.deallocated in
    let codes = start_byte t.start ∷ promises ∷ [] in
    let last = little_bytes 4 (length t.jobs) ++ rest in
    let grouped : trace_head_bytes t ++ last ≡ trace_name ++ (ns ++ (first ++ (codes ++ last))) =
    append_assoc trace_name (ns ++ (first ++ codes)) last
    ∙ ap (λ (l : List ℕ). trace_name ++ l) (append_assoc ns (first ++ codes) last
    ∙ ap (λ (l : List ℕ). ns ++ l) (append_assoc first codes last)) in
    let again = ap (λ (s : Start). Ok (head_by total t s (reads_of promises) (deallocated_of promises), rest)) (start_back t.start)
    ∙ ap (λ (r : Reads). Ok (head_by total t t.start r (deallocated_of promises), rest)) (reads_back t.reads t.deallocated)
    ∙ ap (λ (d : Deallocated). Ok (head_by total t t.start t.reads d, rest)) (deallocated_back t.reads t.deallocated) in
    ap (trace_head_at total) grouped
    ∙ read_then _ _ _ _ (name_returns (ns ++ (first ++ (codes ++ last))))
    (read_then _ _ _ _ (numbers_return total t.namespace (first ++ (codes ++ last)) fit)
    (read_then _ _ _ _ (judged_valid t.namespace can.namespace)
    (read_then _ _ _ _ (number_returns total 8 t.first (codes ++ last) low)
    (read_then _ _ _ _ (start_returns total t.start (promises ∷ last))
    (read_then _ _ _ _ (promises_return total t.reads t.deallocated last)
    (read_then _ _ _ _ (number_in_returns total 4 0 most_jobs (length t.jobs) rest (omega (arith, can.few)) (omega arith) can.few) again))))))

-- The data is as long as what is answered to the job.
long_as : (ns : Namespace) (body : Body) (bytes : List ℕ) → IsDataOf ns body bytes
    → read_length ns.block_size (operation_of_body ns body) ≡ Some (length bytes)
long_as ns (Single c) bytes its =
    ap (λ (op : Op). read_length ns.block_size (single_operation ns op c)) its.0 ∙ ap (λ (n : ℕ). Some n) (sym its.1)
long_as ns (Pair c d) bytes its = absurd its

payload_again : (total : ℕ) (ns : Namespace) (body : Body) (payload : Option (List ℕ)) (rest : List ℕ) → IfSome payload (IsDataOf ns body)
    → payload_at total (read_length ns.block_size (operation_of_body ns body)) (payload_bytes payload ++ rest) ≡ Ok (payload, rest)
payload_again total ns body None rest its = none_returns total (read_length ns.block_size (operation_of_body ns body)) rest
payload_again total ns body (Some bytes) rest its =
    some_returns total (read_length ns.block_size (operation_of_body ns body)) bytes rest (long_as ns body bytes its)

module _ (scope : Scope) where
  ending_returns : (body : Body) (e : Ending) (rest : List ℕ) → IsForEach body e.statuses → IfSome e.payload (IsDataOf scope.geometry body)
      → StatusesFit e.statuses
      → ending_at scope body e.time ((statuses_bytes e.statuses ++ payload_bytes e.payload) ++ rest) ≡ Ok (e, rest)
  unfolding ending_at
  ending_returns body e rest each its fits =
      let payload = payload_bytes e.payload ++ rest in
      ap (ending_at scope body e.time) (append_assoc (statuses_bytes e.statuses) (payload_bytes e.payload) rest)
      ∙ read_then _ _ _ _ (statuses_return body scope.total e.statuses payload each fits)
      (read_then _ _ _ _ (payload_again scope.total scope.geometry body e.payload rest its) refl)

  seen_returns : (j : TracedJob) (e : Ending) (at rest : List ℕ) → IsEndingOf scope.geometry j e → EndingFits e
      → ended_by scope j.job.body j.began e.time at ((statuses_bytes e.statuses ++ payload_bytes e.payload) ++ rest) ≡ Ok (Some e, rest)
  unfolding seen_at
  seen_returns j e at rest can fits =
      rw (ne_eqb e.time never (omega (arith, fits.time)), le-ltb e.time j.began can.time)
      (in_trace_then _ _ _ _ (ending_returns j.job.body e rest can.statuses can.payload fits.statuses) refl)

  ended_returns : (j : TracedJob) (ended : Option Ending) (rest : List ℕ) → IfSome ended (IsEndingOf scope.geometry j)
      → IfSome ended EndingFits → ended_at scope j.job.body j.began (ended_bytes ended ++ rest) ≡ Ok (ended, rest)
  unfolding ended_at
  ended_returns j None rest can fits = in_trace_then _ _ _ _ (number_returns scope.total 8 never rest (omega arith)) refl
  ended_returns j (Some e) rest can fits =
      let told = statuses_bytes e.statuses ++ payload_bytes e.payload in
      ap (ended_at scope j.job.body j.began) (append_assoc (little_bytes 8 e.time) told rest)
      ∙ in_trace_then _ _ _ _ (number_returns scope.total 8 e.time (told ++ rest) (omega (arith, fits.time)))
      (seen_returns j e (little_bytes 8 e.time ++ (told ++ rest)) rest can fits)

  began_returns : (began : ℕ) (rest : List ℕ) → 1 ≤ began → began < 2 ^ 64
      → began_at scope.total (little_bytes 8 began ++ rest) ≡ Ok (began, rest)
  unfolding began_at
  began_returns began rest some low =
      in_trace_then _ _ _ _ (number_returns scope.total 8 began rest low) (rw (ne_eqb began 0 (omega (arith, some))) refl)

  traced_returns : (j : TracedJob) (rest : List ℕ) → scope.version ≡ Two → IsTraceableJob scope.geometry j → TracedJobFits j
      → traced_at scope (traced_bytes j ++ rest) ≡ Ok (j, rest)
  unfolding traced_at
  traced_returns j rest second can fits =
      let began = little_bytes 8 j.began in
      let ended = ended_bytes j.ended in
      ap (traced_at scope) (append_assoc (job_bytes j.job) (began ++ ended) rest
      ∙ ap (λ (l : List ℕ). job_bytes j.job ++ l) (append_assoc began ended rest))
      ∙ in_trace_then _ _ _ _ (job_returns scope j.job (began ++ (ended ++ rest)) can.fits (rw second can.known) fits.job)
      (read_then _ _ _ _ (began_returns j.began (ended ++ rest) can.began fits.began)
      (read_then _ _ _ _ (ended_returns j j.ended rest can.ended fits.ended) refl))

module _ (t : TraceView) (can : IsTraceable t) (fit : TraceFits t) where
  jobs_return : (total : ℕ) (rest : List ℕ)
      → items_at (λ _. traced_at (head_of total t).scope) 0 (length t.jobs) (flat_map traced_bytes t.jobs ++ rest) ≡ Ok (t.jobs, rest)
  unfolding head_of
  jobs_return total rest =
      let scope = (head_of total t).scope in
      let P = λ (j : TracedJob). IsTraceableJob t.namespace j × TracedJobFits j in
      let each : All P t.jobs = λ k d below. (can.jobs k d below, fit.jobs k d below) in
      items_return traced_bytes P (λ _. traced_at scope) (λ i j after h. traced_returns scope j after refl h.0 h.1)
      0 t.jobs rest (recursion_from_All P t.jobs each)

  behind_returns : (total : ℕ) → trace_behind (head_of total t) (flat_map traced_bytes t.jobs) ≡ Ok t
  unfolding trace_behind head_of
  behind_returns total =
      let jobs = flat_map traced_bytes t.jobs in
      let all = ap (items_at (λ _. traced_at (head_of total t).scope) 0 (length t.jobs)) (sym (append-nil jobs)) ∙ jobs_return total [] in
      read_then _ _ _ _ all refl

  pub trace_returns : trace_at (trace_bytes t) ≡ Ok t
  unfolding trace_at
  trace_returns =
      let total = length (trace_bytes t) in
      in_trace_then _ _ _ _ (head_returns total t (flat_map traced_bytes t.jobs) can fit.namespace fit.first) (behind_returns total)
