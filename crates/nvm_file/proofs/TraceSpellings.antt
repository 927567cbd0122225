-- A trace that was read is spelled so.
use Rattle.std.proofs.Common.{◌≡◌, inl, inr, ℕ, ◌==◌, ltb, cond, List, [], ◌∷◌, ◌++◌, length, append-nil, append_assoc, take, drop, take-append-drop, Option, Some, None, Ok, Err, refl, sym, ap, subst, ◌∙◌}
use Rattle.std.specs.List.{flat_map}
use Rattle.std.specs.Str.{bytes_eq}
use Rattle.std.proofs.lemmas.Bool.{eqb-true}
use Rattle.std.proofs.lemmas.Slice.Eq.{bytes_eq-Decides}
use Rattle.byteorder.specs.Endian.{little_bytes}
use Rattle.nvm_plan.specs.declared.job.Body.{Body}
use Rattle.nvm_plan.specs.Operation.{operation_of_body}
use Rattle.nvm_audit.specs.Recordable.{most_jobs}
use Rattle.nvm_trace.specs.declared.traced_job.Ending.{Ending}
use Rattle.nvm_trace.specs.declared.traced_job.TracedJob.{TracedJob}
use Rattle.nvm_trace.specs.TraceView.{TraceView}
use Rattle.nvm_file.specs.declared.record_fault.RecordFault.TheVariants.{BadName}
use Rattle.nvm_file.specs.declared.scope.Scope.{Scope}
use Rattle.nvm_file.specs.declared.trace_file_fault.TraceFileFault.TheVariants.{BeganAtZero, EndedBefore}
use Rattle.nvm_file.specs.declared.trace_frame.TraceFrame.{TraceFrame}
use Rattle.nvm_file.specs.DoneReading.{payload_at, read_length, statuses_at}
use Rattle.nvm_file.specs.Fields.{items_at, number_at, number_in, offset}
use Rattle.nvm_file.specs.HeadReading.{judged, numbers_at}
use Rattle.nvm_file.specs.HeadSpelling.{namespace_bytes}
use Rattle.nvm_file.specs.JobReading.{job_at}
use Rattle.nvm_file.specs.TracedJobReading.{began_at, ended_at, ended_by, ending_at, never, seen_at, traced_at}
use Rattle.nvm_file.specs.TraceHeadReading.{trace_frame_with, deallocated_of, reads_of, start_of, trace_head_at, trace_name, trace_name_at}
use Rattle.nvm_file.specs.TraceReading.{trace_at, trace_behind, trace_with, whole_trace}
use Rattle.nvm_file.specs.TraceSpelling.{ended_bytes, ending_bytes, promise_byte, start_byte, trace_bytes, traced_bytes}
use Rattle.nvm_file.proofs.CommandSpellings.{job_takes}
use Rattle.nvm_file.proofs.DoneSpellings.{payload_takes, statuses_take}
use Rattle.nvm_file.proofs.FieldSpellings.{Takes, and_then, dropped, how_many, in_takes, items_take, number_takes, spelled_as}
use Rattle.nvm_file.proofs.HeadSpellings.{judged_is, not_read, numbers_take}
use Rattle.nvm_file.proofs.NumberBytes.{IsBytes}
use Rattle.nvm_file.proofs.Readings.{bind_ok, chosen, in_range as is_in, kept, ok_is, ok_same}
use Rattle.nvm_file.proofs.TraceParts.{in_trace_ok, promises_again, start_again}

name_takes : (bytes rest : List ℕ) → IsBytes bytes → trace_name_at bytes ≡ Ok rest → Takes bytes trace_name rest
unfolding trace_name_at
name_takes bytes rest are e =
    elim (chosen (bytes_eq (take 4 bytes) trace_name) (Ok (drop 4 bytes)) (Err BadName) (Ok rest) e) [
      | inl named ↦
          let same : take 4 bytes ≡ trace_name = (bytes_eq-Decides (take 4 bytes) trace_name).0 named.0 in
          subst (Takes bytes trace_name) (ok_is (drop 4 bytes) rest named.1)
          (record {
            parts = sym (take-append-drop 4 bytes) ∙ ap (λ l. l ++ drop 4 bytes) same;
            rest_are = dropped 4 bytes are;
          })
      | inr other ↦ absurd (not_read BadName rest other.1)
    ]

-- the head without the number of jobs
abbrev front_of : TraceFrame → List ℕ
front_of head =
    trace_name ++ (namespace_bytes head.scope.geometry
    ++ (little_bytes 8 head.first ++ (start_byte head.start ∷ promise_byte head.reads head.deallocated ∷ [])))

head_takes : (total : ℕ) (bytes : List ℕ) (x : TraceFrame × List ℕ) → IsBytes bytes → trace_head_at total bytes ≡ Ok x
    → Takes bytes (front_of x.0 ++ little_bytes 4 x.0.jobs) x.1
unfolding trace_head_at
head_takes total bytes x are e =
    let a = bind_ok (trace_name_at bytes) _ x e in
    let b = bind_ok (numbers_at total a.0) _ x a.2 in
    let j = bind_ok (judged b.0.0) _ x b.2 in
    let c = bind_ok (number_at total 8 b.0.1) _ x j.2 in
    let s = bind_ok (number_in total 1 0 1 c.0.1) _ x c.2 in
    let r = bind_ok (number_in total 1 0 8 s.0.1) _ x s.2 in
    let f = bind_ok (number_in total 4 0 most_jobs r.0.1) _ x r.2 in
    let name = name_takes bytes a.0 are a.1 in
    let numbers = numbers_take total a.0 b.0 name.rest_are b.1 in
    let namespace = spelled_as _ _ (namespace_bytes j.0) _ (ap namespace_bytes (judged_is b.0.0 j.0 j.1)) numbers in
    let first = number_takes total 8 b.0.1 c.0 numbers.rest_are c.1 in
    let of_start = in_takes total 1 0 1 c.0.1 s.0 first.rest_are s.1 in
    let start = spelled_as _ _ (start_byte (start_of s.0.0) ∷ []) _ (start_again s.0.0 (is_in total 1 0 1 c.0.1 s.0 s.1).1) of_start in
    let of_promises = in_takes total 1 0 8 s.0.1 r.0 start.rest_are r.1 in
    let promises = spelled_as _ _ (promise_byte (reads_of r.0.0) (deallocated_of r.0.0) ∷ []) _
    (promises_again r.0.0 (is_in total 1 0 8 s.0.1 r.0 r.1).1) of_promises in
    let jobs = in_takes total 4 0 most_jobs r.0.1 f.0 promises.rest_are f.1 in
    let window = and_then _ _ _ _ _ first (and_then _ _ _ _ _ start promises) in
    let front = and_then _ _ _ _ _ name (and_then _ _ _ _ _ namespace window) in
    subst (λ (y : TraceFrame × List ℕ). Takes bytes (front_of y.0 ++ little_bytes 4 y.0.jobs) y.1)
    (ok_is (trace_frame_with total j.0 c.0.0 s.0.0 r.0.0 f.0.0, f.0.1) x f.2) (and_then _ _ _ _ _ front jobs)

began_takes : (total : ℕ) (bytes : List ℕ) (x : ℕ × List ℕ) → IsBytes bytes → began_at total bytes ≡ Ok x
    → Takes bytes (little_bytes 8 x.0) x.1
unfolding began_at
began_takes total bytes x are e =
    let a = in_trace_ok (number_at total 8 bytes) _ x e in
    let g = kept (a.0.0 == 0) (BeganAtZero (offset total bytes)) a.0 x a.2 in
    number_takes total 8 bytes x are (a.1 ∙ ap Ok g.1)

module _ (scope : Scope) where
  ending_takes : (body : Body) (time : ℕ) (at bytes : List ℕ) (x : Ending × List ℕ) → Takes at (little_bytes 8 time) bytes
      → ending_at scope body time bytes ≡ Ok x → Takes at (ending_bytes x.0) x.1
  unfolding ending_at
  ending_takes body time at bytes x first e =
      let count = read_length scope.geometry.block_size (operation_of_body scope.geometry body) in
      let a = bind_ok (statuses_at body scope.total bytes) _ x e in
      let b = bind_ok (payload_at scope.total count a.0.1) _ x a.2 in
      let told = statuses_take body scope.total bytes a.0 first.rest_are a.1 in
      let payload = payload_takes scope.total count a.0.1 b.0 told.rest_are b.1 in
      subst (λ (y : Ending × List ℕ). Takes at (ending_bytes y.0) y.1)
      (ok_is (record { time = time; statuses = a.0.0; payload = b.0.0 }, b.0.1) x b.2)
      (and_then _ _ _ _ _ first (and_then _ _ _ _ _ told payload))

  seen_takes : (body : Body) (time : ℕ) (at bytes : List ℕ) (x : Option Ending × List ℕ) → Takes at (little_bytes 8 time) bytes
      → seen_at scope body time bytes ≡ Ok x → Takes at (ended_bytes x.0) x.1
  unfolding seen_at
  seen_takes body time at bytes x first e =
      let a = in_trace_ok (ending_at scope body time bytes) _ x e in
      subst (λ (y : Option Ending × List ℕ). Takes at (ended_bytes y.0) y.1) (ok_same (Some a.0.0, a.0.1) x a.2)
      (ending_takes body time at bytes a.0 first a.1)

  by_time : (body : Body) (began time : ℕ) (at bytes : List ℕ) (x : Option Ending × List ℕ) → Takes at (little_bytes 8 time) bytes
      → ended_by scope body began time at bytes ≡ Ok x → Takes at (ended_bytes x.0) x.1
  by_time body began time at bytes x first e =
      let late = cond (ltb time began) (Err (EndedBefore (offset scope.total at))) (seen_at scope body time bytes) in
      elim (chosen (time == never) (Ok (None, bytes)) late (Ok x) e) [
        | inl none ↦
            subst (λ (y : Option Ending × List ℕ). Takes at (ended_bytes y.0) y.1) (ok_same (None, bytes) x none.1)
            (spelled_as _ _ (little_bytes 8 never) _ (ap (little_bytes 8) (eqb-true time never none.0)) first)
        | inr some ↦
            elim (chosen (ltb time began) (Err (EndedBefore (offset scope.total at))) (seen_at scope body time bytes) (Ok x) some.1) [
              | inl before ↦ absurd cc
              | inr after ↦ seen_takes body time at bytes x first after.1
            ]
      ]

  ended_takes : (body : Body) (began : ℕ) (bytes : List ℕ) (x : Option Ending × List ℕ) → IsBytes bytes
      → ended_at scope body began bytes ≡ Ok x → Takes bytes (ended_bytes x.0) x.1
  unfolding ended_at
  ended_takes body began bytes x are e =
      let a = in_trace_ok (number_at scope.total 8 bytes) _ x e in
      by_time body began a.0.0 bytes a.0.1 x (number_takes scope.total 8 bytes a.0 are a.1) a.2

  traced_takes : (bytes : List ℕ) (x : TracedJob × List ℕ) → IsBytes bytes → traced_at scope bytes ≡ Ok x
      → Takes bytes (traced_bytes x.0) x.1
  unfolding traced_at
  traced_takes bytes x are e =
      let a = in_trace_ok (job_at scope bytes) _ x e in
      let b = bind_ok (began_at scope.total a.0.1) _ x a.2 in
      let c = bind_ok (ended_at scope a.0.0.body b.0.0 b.0.1) _ x b.2 in
      let job = job_takes scope bytes a.0 are a.1 in
      let began = began_takes scope.total a.0.1 b.0 job.rest_are b.1 in
      let ended = ended_takes a.0.0.body b.0.0 b.0.1 c.0 began.rest_are c.1 in
      subst (λ (y : TracedJob × List ℕ). Takes bytes (traced_bytes y.0) y.1)
      (ok_same (record { job = a.0.0; began = b.0.0; ended = c.0.0 }, c.0.1) x c.2)
      (and_then _ _ _ _ _ job (and_then _ _ _ _ _ began ended))

whole_is : (total : ℕ) (t : TraceView) (rest : List ℕ) (x : TraceView) → whole_trace total t rest ≡ Ok x → (rest ≡ []) × (t ≡ x)
whole_is total t [] x e = (refl, cc)
whole_is total t (b ∷ bs) x e = absurd cc

behind_takes : (head : TraceFrame) (front bytes : List ℕ) (t : TraceView) → Takes front (front_of head ++ little_bytes 4 head.jobs) bytes
    → trace_behind head bytes ≡ Ok t → front ≡ trace_bytes t
unfolding trace_behind
behind_takes head front bytes t first e =
    let item = λ (_ : ℕ). traced_at head.scope in
    let a = bind_ok (items_at item 0 head.jobs bytes) _ t e in
    let end = whole_is head.scope.total (trace_with head a.0.0) a.0.1 t a.2 in
    let many = how_many item 0 head.jobs bytes a.0 a.1 in
    let jobs = items_take traced_bytes item (λ i l y. traced_takes head.scope l y) 0 head.jobs bytes a.0 first.rest_are a.1 in
    let number = little_bytes 4 head.jobs in
    let items = flat_map traced_bytes a.0.0 in
    let all = and_then _ _ _ _ _ first jobs in
    let ended : front ≡ (front_of head ++ number) ++ items =
    all.parts ∙ ap (λ l. ((front_of head ++ number) ++ items) ++ l) end.0 ∙ append-nil ((front_of head ++ number) ++ items) in
    ended ∙ append_assoc (front_of head) number items
    ∙ ap (λ n. front_of head ++ (little_bytes 4 n ++ items)) (sym many) ∙ ap trace_bytes end.1

pub trace_takes : (bytes : List ℕ) (t : TraceView) → IsBytes bytes → trace_at bytes ≡ Ok t → bytes ≡ trace_bytes t
unfolding trace_at
trace_takes bytes t are e =
    let a = in_trace_ok (trace_head_at (length bytes) bytes) _ t e in
    behind_takes a.0.0 bytes a.0.1 t (head_takes (length bytes) bytes a.0 are a.1) a.2
