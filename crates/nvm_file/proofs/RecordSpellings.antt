-- A record that was read is spelled so.
use Rattle.std.proofs.Common.{◌≡◌, ℕ, List, [], ◌∷◌, ◌++◌, length, append-nil, append_assoc, Ok, refl, sym, ap, ◌∙◌}
use Rattle.std.specs.List.{flat_map}
use Rattle.byteorder.specs.Endian.{little_bytes}
use Rattle.nvm_geometry.specs.Boundaries.{units_of}
use Rattle.nvm_plan.specs.declared.job.Job.{Job}
use Rattle.nvm_store.specs.HistoryEntry.{HistoryEntry}
use Rattle.nvm_audit.specs.RecordedJob.{RecordedJob}
use Rattle.nvm_audit.specs.RecordView.{RecordView}
use Rattle.nvm_file.specs.declared.frame.Frame.{Frame}
use Rattle.nvm_file.specs.DoneReading.{work_at}
use Rattle.nvm_file.specs.EntryReading.{history_at}
use Rattle.nvm_file.specs.EntrySpelling.{history_bytes}
use Rattle.nvm_file.specs.HeadReading.{head_at}
use Rattle.nvm_file.specs.JobReading.{job_at}
use Rattle.nvm_file.specs.JobSpelling.{job_bytes}
use Rattle.nvm_file.specs.Reading.{jobs_at, scope_of, units_at, workers_at, record_with, whole, body_of, record_at}
use Rattle.nvm_file.specs.Spelling.{record_bytes}
use Rattle.nvm_file.specs.WorkSpelling.{work_bytes}
use Rattle.nvm_file.proofs.CommandSpellings.{job_takes}
use Rattle.nvm_file.proofs.DoneSpellings.{work_takes}
use Rattle.nvm_file.proofs.EntrySpellings.{history_takes}
use Rattle.nvm_file.proofs.FieldSpellings.{Takes, and_then, how_many, items_take}
use Rattle.nvm_file.proofs.HeadSpellings.{front_of, head_takes}
use Rattle.nvm_file.proofs.NumberBytes.{IsBytes}
use Rattle.nvm_file.proofs.Readings.{bind_ok}

jobs_take : (frame : Frame) (bytes : List ℕ) (x : List Job × List ℕ) → IsBytes bytes → jobs_at frame bytes ≡ Ok x
    → Takes bytes (flat_map job_bytes x.0) x.1 × (length x.0 ≡ frame.jobs)
unfolding jobs_at
jobs_take frame bytes x are e =
    let item = λ (_ : ℕ). job_at (scope_of frame) in
    (items_take job_bytes item (λ i l y. job_takes (scope_of frame) l y) 0 frame.jobs bytes x are e, how_many item 0 frame.jobs bytes x e)

units_take : (frame : Frame) (bytes : List ℕ) (x : List (List HistoryEntry) × List ℕ) → IsBytes bytes → units_at frame bytes ≡ Ok x
    → Takes bytes (flat_map history_bytes x.0) x.1
unfolding units_at
units_take frame bytes x are e =
    items_take history_bytes (history_at frame) (history_takes frame) 0 (units_of frame.geometry) bytes x are e

workers_take : (frame : Frame) (jobs : List Job) (bytes : List ℕ) (x : List (List RecordedJob) × List ℕ) → IsBytes bytes
    → workers_at frame jobs bytes ≡ Ok x → Takes bytes (flat_map work_bytes x.0) x.1
unfolding workers_at
workers_take frame jobs bytes x are e =
    items_take work_bytes (λ _. work_at frame jobs) (λ i l y. work_takes frame jobs l y) 0 frame.workers bytes x are e

whole_is : (total : ℕ) (r : RecordView) (rest : List ℕ) (x : RecordView) → whole total r rest ≡ Ok x → (rest ≡ []) × (r ≡ x)
whole_is total r [] x e = (refl, cc)
whole_is total r (b ∷ bs) x e = absurd cc

-- the number of jobs, and the jobs, stand together
regroup : (front number jobs after : List ℕ) → (front ++ number) ++ (jobs ++ after) ≡ front ++ ((number ++ jobs) ++ after)
regroup front number jobs after =
    append_assoc front number (jobs ++ after) ∙ ap (λ l. front ++ l) (sym (append_assoc number jobs after))

body_takes : (frame : Frame) (front bytes : List ℕ) (r : RecordView) → Takes front (front_of frame ++ little_bytes 4 frame.jobs) bytes
    → body_of frame bytes ≡ Ok r → front ≡ record_bytes r
unfolding body_of
body_takes frame front bytes r head e =
    let a = bind_ok (jobs_at frame bytes) _ r e in
    let b = bind_ok (units_at frame a.0.1) _ r a.2 in
    let c = bind_ok (workers_at frame a.0.0 b.0.1) _ r b.2 in
    let end = whole_is frame.total (record_with frame a.0.0 b.0.0 c.0.0) c.0.1 r c.2 in
    let jobs = jobs_take frame bytes a.0 head.rest_are a.1 in
    let units = units_take frame a.0.1 b.0 jobs.0.rest_are b.1 in
    let done = workers_take frame a.0.0 b.0.1 c.0 units.rest_are c.1 in
    let number = little_bytes 4 frame.jobs in
    let all = and_then _ _ _ _ _ head (and_then _ _ _ _ _ jobs.0 (and_then _ _ _ _ _ units done)) in
    let spelled = (front_of frame ++ number) ++ (flat_map job_bytes a.0.0 ++ (flat_map history_bytes b.0.0 ++ flat_map work_bytes c.0.0)) in
    let after = flat_map history_bytes b.0.0 ++ flat_map work_bytes c.0.0 in
    let ended : front ≡ spelled = all.parts ∙ ap (λ l. spelled ++ l) end.0 ∙ append-nil spelled in
    let counted_so = ap (λ n. front_of frame ++ ((little_bytes 4 n ++ flat_map job_bytes a.0.0) ++ after)) (sym jobs.1) in
    ended ∙ regroup (front_of frame) number (flat_map job_bytes a.0.0) after ∙ counted_so ∙ ap record_bytes end.1

pub record_takes : (bytes : List ℕ) (r : RecordView) → IsBytes bytes → record_at bytes ≡ Ok r → bytes ≡ record_bytes r
unfolding record_at
record_takes bytes r are e =
    let a = bind_ok (head_at (length bytes) bytes) _ r e in
    body_takes a.0.0 bytes a.0.1 r (head_takes (length bytes) bytes a.0 are a.1) a.2
