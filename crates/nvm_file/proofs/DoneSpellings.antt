-- What was read of a worker's jobs is spelled so.
use Rattle.std.proofs.Common.{◌≡◌, ℕ, zero, suc, ◌≤◌, ◌==◌, cond, List, [], ◌∷◌, ◌++◌, length, Option, Some, None, Ok, refl, sym, ap, subst, arith}
use Rattle.std.specs.Prelude.{slice_get}
use Rattle.std.specs.List.{flat_map}
use Rattle.byteorder.specs.Endian.{little_bytes}
use Rattle.nvm_record.specs.declared.status.Status.{Status}
use Rattle.nvm_record.specs.declared.status.Statuses.{Statuses}
use Rattle.nvm_record.specs.declared.status.Statuses.TheVariants as statuses
use Rattle.nvm_record.specs.Status.{status}
use Rattle.nvm_geometry.specs.Boundaries.{units_of}
use Rattle.nvm_plan.specs.declared.job.Body.{Body}
use Rattle.nvm_plan.specs.declared.job.Body.TheVariants.{Single, Pair}
use Rattle.nvm_plan.specs.declared.job.Job.{Job}
use Rattle.nvm_plan.specs.declared.part.Part.{Part}
use Rattle.nvm_audit.specs.Recordable.{most_jobs}
use Rattle.nvm_audit.specs.RecordedJob.{RecordedJob}
use Rattle.nvm_file.specs.declared.frame.Frame.{Frame}
use Rattle.nvm_file.specs.DoneReading.{result_of, part_at, parts_at, status_at, one_status_at, two_statuses_at, statuses_at, answer_at, answer_behind, payload_at, answer_length, done_of, done_of_number, done_at, work_at}
use Rattle.nvm_file.specs.WorkSpelling.{done_bytes, part_bytes, payload_bytes, result_byte, status_bytes, statuses_bytes, work_bytes}
use Rattle.nvm_file.specs.Fields.{bytes_at, number_at, number_in, number_below}
use Rattle.nvm_file.proofs.FieldSpellings.{Takes, and_then, spelled_as, number_takes, in_takes, below_takes, run_takes, items_take, how_many, counted_takes, small_byte}
use Rattle.nvm_file.proofs.NumberBytes.{IsBytes}
use Rattle.nvm_file.proofs.Readings.{bind_ok, ok_is, in_range as is_in}

code_again : (code : ℕ) → 1 ≤ code → code ≤ 5 → little_bytes 1 code ≡ result_byte (result_of code) ∷ []
code_again zero low high = absurd (omega (arith, low))
code_again (suc zero) low high = refl
code_again (suc (suc zero)) low high = refl
code_again (suc (suc (suc zero))) low high = refl
code_again (suc (suc (suc (suc zero)))) low high = refl
code_again (suc (suc (suc (suc (suc zero))))) low high = refl
code_again (suc (suc (suc (suc (suc (suc n)))))) low high = absurd (omega (arith, high))

part_takes : (frame : Frame) (bytes : List ℕ) (x : Part × List ℕ) → IsBytes bytes → part_at frame bytes ≡ Ok x
    → Takes bytes (part_bytes x.0) x.1
unfolding part_at
part_takes frame bytes x are e =
    let a = bind_ok (number_below frame.total 2 (units_of frame.geometry) bytes) _ x e in
    let b = bind_ok (number_at frame.total 4 a.0.1) _ x a.2 in
    let c = bind_ok (number_in frame.total 1 1 5 b.0.1) _ x b.2 in
    let unit = below_takes frame.total 2 (units_of frame.geometry) bytes a.0 are a.1 in
    let point = number_takes frame.total 4 a.0.1 b.0 unit.rest_are b.1 in
    let limits = is_in frame.total 1 1 5 b.0.1 c.0 c.1 in
    let code = in_takes frame.total 1 1 5 b.0.1 c.0 point.rest_are c.1 in
    let result = spelled_as _ _ (result_byte (result_of c.0.0) ∷ []) _ (code_again c.0.0 limits.0 limits.1) code in
    subst (λ (y : Part × List ℕ). Takes bytes (part_bytes y.0) y.1)
    (ok_is (record { unit = a.0.0; point = b.0.0; result = result_of c.0.0 }, c.0.1) x c.2)
    (and_then _ _ _ _ _ unit (and_then _ _ _ _ _ point result))

-- how many parts, and each of them
parts_take : (frame : Frame) (bytes : List ℕ) (x : List Part × List ℕ) → IsBytes bytes → parts_at frame bytes ≡ Ok x
    → Takes bytes (little_bytes 2 (length x.0) ++ flat_map part_bytes x.0) x.1
unfolding parts_at
parts_take frame bytes x are e =
    let item = λ (_ : ℕ). part_at frame in
    let a = bind_ok (number_in frame.total 2 0 (units_of frame.geometry) bytes) _ x e in
    let count = in_takes frame.total 2 0 (units_of frame.geometry) bytes a.0 are a.1 in
    let many = how_many item 0 a.0.0 a.0.1 x a.2 in
    let parts = items_take part_bytes item (λ i l y. part_takes frame l y) 0 a.0.0 a.0.1 x count.rest_are a.2 in
    and_then _ _ _ _ _ (spelled_as _ _ (little_bytes 2 (length x.0)) _ (ap (little_bytes 2) (sym many)) count) parts

-- a byte is spelled by itself
byte_takes : (total : ℕ) (bytes : List ℕ) (x : ℕ × List ℕ) → IsBytes bytes → number_at total 1 bytes ≡ Ok x → Takes bytes (x.0 ∷ []) x.1
byte_takes total bytes x are e =
    let t = number_takes total 1 bytes x are e in
    spelled_as _ _ (x.0 ∷ []) _ (ap (λ b. b ∷ []) (small_byte total bytes x are e)) t

status_takes : (total : ℕ) (bytes : List ℕ) (x : Status × List ℕ) → IsBytes bytes → status_at total bytes ≡ Ok x
    → Takes bytes (status_bytes x.0) x.1
unfolding status_at
status_takes total bytes x are e =
    let a = bind_ok (number_at total 1 bytes) _ x e in
    let b = bind_ok (number_at total 1 a.0.1) _ x a.2 in
    let sct = byte_takes total bytes a.0 are a.1 in
    let sc = byte_takes total a.0.1 b.0 sct.rest_are b.1 in
    subst (λ (y : Status × List ℕ). Takes bytes (status_bytes y.0) y.1) (ok_is (status a.0.0 b.0.0, b.0.1) x b.2)
    (and_then _ _ _ _ _ sct sc)

one_takes : (total : ℕ) (bytes : List ℕ) (x : Statuses × List ℕ) → IsBytes bytes → one_status_at total bytes ≡ Ok x
    → Takes bytes (statuses_bytes x.0) x.1
unfolding one_status_at
one_takes total bytes x are e =
    let a = bind_ok (status_at total bytes) _ x e in
    subst (λ (y : Statuses × List ℕ). Takes bytes (statuses_bytes y.0) y.1) (ok_is (statuses.One a.0.0, a.0.1) x a.2)
    (status_takes total bytes a.0 are a.1)

two_take : (total : ℕ) (bytes : List ℕ) (x : Statuses × List ℕ) → IsBytes bytes → two_statuses_at total bytes ≡ Ok x
    → Takes bytes (statuses_bytes x.0) x.1
unfolding two_statuses_at
two_take total bytes x are e =
    let a = bind_ok (status_at total bytes) _ x e in
    let b = bind_ok (status_at total a.0.1) _ x a.2 in
    let first = status_takes total bytes a.0 are a.1 in
    let second = status_takes total a.0.1 b.0 first.rest_are b.1 in
    subst (λ (y : Statuses × List ℕ). Takes bytes (statuses_bytes y.0) y.1) (ok_is (statuses.Two a.0.0 b.0.0, b.0.1) x b.2)
    (and_then _ _ _ _ _ first second)

pub statuses_take : (body : Body) (total : ℕ) (bytes : List ℕ) (x : Statuses × List ℕ) → IsBytes bytes → statuses_at body total bytes ≡ Ok x
    → Takes bytes (statuses_bytes x.0) x.1
statuses_take (Single c) total bytes x are e = one_takes total bytes x are e
statuses_take (Pair c d) total bytes x are e = two_take total bytes x are e

answer_takes : (total count : ℕ) (flag bytes : List ℕ) (x : Option (List ℕ) × List ℕ) → IsBytes bytes → answer_at total count bytes ≡ Ok x
    → Takes flag (1 ∷ []) bytes → Takes flag (payload_bytes x.0) x.1
unfolding answer_at
answer_takes total count flag bytes x are e first =
    let a = bind_ok (bytes_at total count bytes) _ x e in
    let run = run_takes total count bytes a.0 are a.1 in
    subst (λ (y : Option (List ℕ) × List ℕ). Takes flag (payload_bytes y.0) y.1) (ok_is (Some a.0.0, a.0.1) x a.2)
    (and_then flag (1 ∷ []) bytes a.0.0 a.0.1 first run)

behind_flag : (total : ℕ) (count : Option ℕ) (flag bytes : List ℕ) (x : Option (List ℕ) × List ℕ) → IsBytes bytes
    → answer_behind total count flag bytes ≡ Ok x → Takes flag (1 ∷ []) bytes → Takes flag (payload_bytes x.0) x.1
behind_flag total None flag bytes x are e first = absurd cc
behind_flag total (Some count) flag bytes x are e first = answer_takes total count flag bytes x are e first

by_flag : (flag total : ℕ) (count : Option ℕ) (bytes after : List ℕ) (x : Option (List ℕ) × List ℕ) → flag ≤ 1
    → Takes bytes (little_bytes 1 flag) after
    → cond (flag == 0) (Ok (None, after)) (answer_behind total count bytes after) ≡ Ok x → Takes bytes (payload_bytes x.0) x.1
by_flag zero total count bytes after x high first e =
    subst (λ (y : Option (List ℕ) × List ℕ). Takes bytes (payload_bytes y.0) y.1) (ok_is (None, after) x e) first
by_flag (suc zero) total count bytes after x high first e = behind_flag total count bytes after x first.rest_are e first
by_flag (suc (suc n)) total count bytes after x high first e = absurd (omega (arith, high))

pub payload_takes : (total : ℕ) (count : Option ℕ) (bytes : List ℕ) (x : Option (List ℕ) × List ℕ) → IsBytes bytes
    → payload_at total count bytes ≡ Ok x → Takes bytes (payload_bytes x.0) x.1
unfolding payload_at
payload_takes total count bytes x are e =
    let a = bind_ok (number_in total 1 0 1 bytes) _ x e in
    let flag = in_takes total 1 0 1 bytes a.0 are a.1 in
    by_flag a.0.0 total count bytes a.0.1 x (is_in total 1 0 1 bytes a.0 a.1).1 flag a.2

-- what stands behind the number of the job
abbrev Behind : List ℕ → RecordedJob × List ℕ → Type 0
Behind bytes x =
    Takes bytes ((little_bytes 2 (length x.0.parts) ++ flat_map part_bytes x.0.parts)
    ++ (statuses_bytes x.0.statuses ++ payload_bytes x.0.payload)) x.1

done_behind : (frame : Frame) (number : ℕ) (job : Job) (bytes : List ℕ) (x : RecordedJob × List ℕ) → IsBytes bytes
    → done_of frame number job bytes ≡ Ok x → Behind bytes x × (x.0.job ≡ number)
unfolding done_of
done_behind frame number job bytes x are e =
    let a = bind_ok (parts_at frame bytes) _ x e in
    let b = bind_ok (statuses_at job.body frame.total a.0.1) _ x a.2 in
    let c = bind_ok (payload_at frame.total (answer_length frame.geometry job) b.0.1) _ x b.2 in
    let parts = parts_take frame bytes a.0 are a.1 in
    let told = statuses_take job.body frame.total a.0.1 b.0 parts.rest_are b.1 in
    let payload = payload_takes frame.total (answer_length frame.geometry job) b.0.1 c.0 told.rest_are c.1 in
    subst (λ (y : RecordedJob × List ℕ). Behind bytes y × (y.0.job ≡ number))
    (ok_is (record { job = number; parts = a.0.0; statuses = b.0.0; payload = c.0.0 }, c.0.1) x c.2)
    (and_then _ _ _ _ _ parts (and_then _ _ _ _ _ told payload), refl)

of_number : (frame : Frame) (number : ℕ) (job : Option Job) (at bytes : List ℕ) (x : RecordedJob × List ℕ) → IsBytes bytes
    → done_of_number frame number job at bytes ≡ Ok x → Behind bytes x × (x.0.job ≡ number)
of_number frame number None at bytes x are e = absurd cc
of_number frame number (Some job) at bytes x are e = done_behind frame number job bytes x are e

done_takes : (frame : Frame) (jobs : List Job) (bytes : List ℕ) (x : RecordedJob × List ℕ) → IsBytes bytes → done_at frame jobs bytes ≡ Ok x
    → Takes bytes (done_bytes x.0) x.1
unfolding done_at
done_takes frame jobs bytes x are e =
    let a = bind_ok (number_at frame.total 4 bytes) _ x e in
    let number = number_takes frame.total 4 bytes a.0 are a.1 in
    let behind = of_number frame a.0.0 (slice_get jobs a.0.0) bytes a.0.1 x number.rest_are a.2 in
    let its = spelled_as _ _ (little_bytes 4 x.0.job) _ (ap (little_bytes 4) (sym behind.1)) number in
    and_then _ _ _ _ _ its behind.0

pub work_takes : (frame : Frame) (jobs : List Job) (bytes : List ℕ) (x : List RecordedJob × List ℕ) → IsBytes bytes
    → work_at frame jobs bytes ≡ Ok x → Takes bytes (work_bytes x.0) x.1
unfolding work_at
work_takes frame jobs bytes x are e =
    let a = bind_ok (number_in frame.total 4 0 most_jobs bytes) _ x e in
    let count = in_takes frame.total 4 0 most_jobs bytes a.0 are a.1 in
    counted_takes done_bytes (λ _. done_at frame jobs) (λ i l y. done_takes frame jobs l y) bytes a.0 x count a.2
