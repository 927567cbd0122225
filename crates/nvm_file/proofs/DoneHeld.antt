-- What is read of a done job is what a record can hold.
use Rattle.std.proofs.Common.{◌≡◌, ℕ, zero, suc, ◌*◌, ◌<◌, ◌≤◌, Bool, true, false, cond, eqb, List, [], ◌∷◌, length, All, Option, Some, None, Ok, inl, inr, refl, sym, ap, subst, ◌∙◌, arith}
use Rattle.std.specs.Prelude.{slice_get}
use Rattle.std.proofs.lemmas.Option.{same_Some}
use mathlib.Core.Option.{some}
use Rattle.nvm_record.specs.declared.status.Statuses.{Statuses}
use Rattle.nvm_record.specs.declared.status.Statuses.TheVariants as statuses
use Rattle.nvm_record.specs.Deeds.{is_read}
use Rattle.nvm_record.specs.Lists.{IsAt}
use Rattle.nvm_record.specs.Step.{Operation}
use Rattle.nvm_geometry.specs.Boundaries.{units_of}
use Rattle.nvm_geometry.specs.Namespace.{Namespace}
use Rattle.nvm_plan.specs.declared.job.Body.{Body}
use Rattle.nvm_plan.specs.declared.job.Body.TheVariants.{Single, Pair}
use Rattle.nvm_plan.specs.declared.job.Job.{Job}
use Rattle.nvm_plan.specs.declared.part.Part.{Part}
use Rattle.nvm_plan.specs.JobPart.{ready_operation}
use Rattle.nvm_plan.specs.Shape.{IsForEach}
use Rattle.nvm_audit.specs.Recordable.{IsLongAsRead}
use Rattle.nvm_audit.specs.RecordedJob.{RecordedJob}
use Rattle.nvm_file.specs.declared.frame.Frame.{Frame}
use Rattle.nvm_file.specs.DoneReading.{answer_at, answer_behind, answer_length, done_at, done_of, done_of_number, one_status_at, part_at, parts_at, payload_at, read_length, result_of, status_at, statuses_at, two_statuses_at}
use Rattle.nvm_file.specs.Fields.{◌>>=◌, bytes_at, items_at, number_at, number_below, number_in}
use Rattle.nvm_file.proofs.Readings.{bind_ok, chosen, each_holds, has_length, in_range, is_below, ok_is}

-- What stands at a place of a list is found there.
found_at : {A : Type 0} (xs : List A) (i : ℕ) (x : A) → slice_get xs i ≡ Some x → IsAt xs i x
found_at [] i x e = absurd cc
found_at (y ∷ ys) zero x e = ap some (same_Some y x e)
found_at (y ∷ ys) (suc i) x e = found_at ys i x e

part_held : (frame : Frame) (bytes : List ℕ) (x : Part × List ℕ) → part_at frame bytes ≡ Ok x → x.0.unit < units_of frame.geometry
unfolding part_at
part_held frame bytes x e =
    let a = bind_ok (number_below frame.total 2 (units_of frame.geometry) bytes)
    (λ unit. number_at frame.total 4 unit.1 >>= λ point. number_in frame.total 1 1 5 point.1
    >>= λ result. Ok (record { unit = unit.0; point = point.0; result = result_of result.0 }, result.1)) x e in
    let b = bind_ok (number_at frame.total 4 a.0.1)
    (λ point. number_in frame.total 1 1 5 point.1
    >>= λ result. Ok (record { unit = a.0.0; point = point.0; result = result_of result.0 }, result.1)) x a.2 in
    let c = bind_ok (number_in frame.total 1 1 5 b.0.1)
    (λ result. Ok (record { unit = a.0.0; point = b.0.0; result = result_of result.0 }, result.1)) x b.2 in
    let part : Part = record { unit = a.0.0; point = b.0.0; result = result_of c.0.0 } in
    subst (λ (y : Part × List ℕ). y.0.unit < units_of frame.geometry) (ok_is (part, c.0.1) x c.2)
    (is_below frame.total 2 (units_of frame.geometry) bytes a.0 a.1)

parts_held : (frame : Frame) (bytes : List ℕ) (x : List Part × List ℕ) → parts_at frame bytes ≡ Ok x
    → (length x.0 ≤ units_of frame.geometry) × All (λ part. part.unit < units_of frame.geometry) x.0
unfolding parts_at
parts_held frame bytes x e =
    let a = bind_ok (number_in frame.total 2 0 (units_of frame.geometry) bytes)
    (λ count. items_at (λ _. part_at frame) 0 count.0 count.1) x e in
    let count = in_range frame.total 2 0 (units_of frame.geometry) bytes a.0 a.1 in
    let each = each_holds (λ part. part.unit < units_of frame.geometry) (λ _. part_at frame)
    (λ i rest y h. part_held frame rest y h) 0 a.0.0 a.0.1 x a.2 in
    (omega (arith, each.1, count.1), each.0)

pub statuses_held : (body : Body) (total : ℕ) (bytes : List ℕ) (x : Statuses × List ℕ) → statuses_at body total bytes ≡ Ok x
    → IsForEach body x.0
unfolding one_status_at two_statuses_at
statuses_held (Single c) total bytes x e =
    let a = bind_ok (status_at total bytes) (λ only. Ok (statuses.One only.0, only.1)) x e in
    subst (λ (y : Statuses × List ℕ). IsForEach (Single c) y.0) (ok_is (statuses.One a.0.0, a.0.1) x a.2) tt
statuses_held (Pair c d) total bytes x e =
    let a = bind_ok (status_at total bytes)
    (λ first. status_at total first.1 >>= λ second. Ok (statuses.Two first.0 second.0, second.1)) x e in
    let b = bind_ok (status_at total a.0.1) (λ second. Ok (statuses.Two a.0.0 second.0, second.1)) x a.2 in
    subst (λ (y : Statuses × List ℕ). IsForEach (Pair c d) y.0) (ok_is (statuses.Two a.0.0 b.0.0, b.0.1) x b.2) tt

-- Data was read only of a job that is answered some, and all of it.
abbrev pub IsWholeAnswer : Option ℕ → Option (List ℕ) → Type 0
IsWholeAnswer count read = (bytes : List ℕ) → read ≡ Some bytes → count ≡ Some (length bytes)

behind_held : (total : ℕ) (count : Option ℕ) (flag bytes : List ℕ) (x : Option (List ℕ) × List ℕ)
    → answer_behind total count flag bytes ≡ Ok x → IsWholeAnswer count x.0
unfolding answer_at
behind_held total None flag bytes x e = absurd cc
behind_held total (Some count) flag bytes x e =
    let a = bind_ok (bytes_at total count bytes) (λ payload. Ok (Some payload.0, payload.1)) x e in
    let len = has_length total count bytes a.0 a.1 in
    subst (λ (y : Option (List ℕ) × List ℕ). IsWholeAnswer (Some count) y.0) (ok_is (Some a.0.0, a.0.1) x a.2)
    (λ read h. ap (λ (n : ℕ). Some n) (sym len ∙ ap length (same_Some a.0.0 read h)))

none_read : (count : Option ℕ) → IsWholeAnswer count None
none_read count read h = absurd cc

pub payload_held : (total : ℕ) (count : Option ℕ) (bytes : List ℕ) (x : Option (List ℕ) × List ℕ)
    → payload_at total count bytes ≡ Ok x → IsWholeAnswer count x.0
unfolding payload_at
payload_held total count bytes x e =
    let a = bind_ok (number_in total 1 0 1 bytes)
    (λ flag. cond (eqb flag.0 0) (Ok (None, flag.1)) (answer_behind total count bytes flag.1)) x e in
    elim (chosen (eqb a.0.0 0) (Ok (None, a.0.1)) (answer_behind total count bytes a.0.1) (Ok x) a.2) [
      | inl h ↦ subst (λ (y : Option (List ℕ) × List ℕ). IsWholeAnswer count y.0) (ok_is (None, a.0.1) x h.1) (none_read count)
      | inr h ↦ behind_held total count bytes a.0.1 x h.1
    ]

-- Who is answered so many bytes is a Read of so many.
read_by : (ns : Namespace) (job : Job) (o : Option Operation) (bytes : List ℕ) → ready_operation ns job ≡ o
    → read_length ns.block_size o ≡ Some (length bytes) → IsLongAsRead ns job bytes
read_by ns job None bytes ready e = absurd cc
read_by ns job (Some op) bytes ready e = by (is_read op.deed) refl e
  where
    by : (b : Bool) → is_read op.deed ≡ b → cond b (Some (op.blocks * ns.block_size)) None ≡ Some (length bytes) → IsLongAsRead ns job bytes
    by true t h = record { op = op; ready = ready; read = t; whole = sym (same_Some (op.blocks * ns.block_size) (length bytes) h) }
    by false t h = absurd cc

long_as_read : (ns : Namespace) (job : Job) (bytes : List ℕ) → answer_length ns job ≡ Some (length bytes) → IsLongAsRead ns job bytes
unfolding answer_length
long_as_read ns job bytes e = read_by ns job (ready_operation ns job) bytes refl e

-- What holds of what was done of a job, where it was read.
pub record IsHeldDone (ns : Namespace) (jobs : List Job) (d : RecordedJob) : Type 0 where
  pub job : Job
  pub its : IsAt jobs d.job job
  pub few : length d.parts ≤ units_of ns
  pub units : All (λ part. part.unit < units_of ns) d.parts
  pub statuses : IsForEach job.body d.statuses
  pub payload : (bytes : List ℕ) → d.payload ≡ Some bytes → IsLongAsRead ns job bytes

module _ (frame : Frame) (jobs : List Job) where
  done_of_held : (number : ℕ) (job : Job) (bytes : List ℕ) (x : RecordedJob × List ℕ) → IsAt jobs number job
      → done_of frame number job bytes ≡ Ok x → IsHeldDone frame.geometry jobs x.0
  unfolding done_of
  done_of_held number job bytes x its e =
      let a = bind_ok (parts_at frame bytes)
      (λ parts. statuses_at job.body frame.total parts.1
      >>= λ told. payload_at frame.total (answer_length frame.geometry job) told.1
      >>= λ payload. Ok (record { job = number; parts = parts.0; statuses = told.0; payload = payload.0 }, payload.1)) x e in
      let b = bind_ok (statuses_at job.body frame.total a.0.1)
      (λ told. payload_at frame.total (answer_length frame.geometry job) told.1
      >>= λ payload. Ok (record { job = number; parts = a.0.0; statuses = told.0; payload = payload.0 }, payload.1)) x a.2 in
      let c = bind_ok (payload_at frame.total (answer_length frame.geometry job) b.0.1)
      (λ payload. Ok (record { job = number; parts = a.0.0; statuses = b.0.0; payload = payload.0 }, payload.1)) x b.2 in
      let parts = parts_held frame bytes a.0 a.1 in
      let whole = payload_held frame.total (answer_length frame.geometry job) b.0.1 c.0 c.1 in
      let d : RecordedJob = record { job = number; parts = a.0.0; statuses = b.0.0; payload = c.0.0 } in
      subst (λ (y : RecordedJob × List ℕ). IsHeldDone frame.geometry jobs y.0) (ok_is (d, c.0.1) x c.2)
      (record {
        job = job;
        its = its;
        few = parts.0;
        units = parts.1;
        statuses = statuses_held job.body frame.total a.0.1 b.0 b.1;
        payload = λ read h. long_as_read frame.geometry job read (whole read h);
      })

  by_number : (number : ℕ) (o : Option Job) (at bytes : List ℕ) (x : RecordedJob × List ℕ) → slice_get jobs number ≡ o
      → done_of_number frame number o at bytes ≡ Ok x → IsHeldDone frame.geometry jobs x.0
  by_number number None at bytes x f e = absurd cc
  by_number number (Some job) at bytes x f e = done_of_held number job bytes x (found_at jobs number job f) e

  pub done_held : (bytes : List ℕ) (x : RecordedJob × List ℕ) → done_at frame jobs bytes ≡ Ok x → IsHeldDone frame.geometry jobs x.0
  unfolding done_at
  done_held bytes x e =
      let a = bind_ok (number_at frame.total 4 bytes)
      (λ number. done_of_number frame number.0 (slice_get jobs number.0) bytes number.1) x e in
      by_number a.0.0 (slice_get jobs a.0.0) bytes a.0.1 x refl a.2
