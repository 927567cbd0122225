-- What a worker did is read of its spelling.
use Rattle.std.proofs.Common.{◌≡◌, ℕ, ◌^◌, ◌<◌, ◌≤◌, List, ◌∷◌, ◌++◌, length, All, Option, Some, None, Ok, refl, sym, ap, ◌∙◌, append_assoc, arith}
use Rattle.std.specs.Prelude.{slice_get}
use Rattle.std.specs.List.{AllByRecursion, flat_map}
use Rattle.std.proofs.lemmas.List.Elements.{recursion_from_All}
use Rattle.byteorder.specs.Endian.{little_bytes}
use Rattle.nvm_record.specs.declared.status.Status.{Status}
use Rattle.nvm_record.specs.declared.status.Statuses.{Statuses}
use Rattle.nvm_record.specs.declared.status.Statuses.TheVariants as statuses
use Rattle.nvm_record.specs.Lists.{IsAt}
use Rattle.nvm_geometry.specs.Boundaries.{units_of}
use Rattle.nvm_plan.specs.declared.job.Body.{Body}
use Rattle.nvm_plan.specs.declared.job.Body.TheVariants.{Single, Pair}
use Rattle.nvm_plan.specs.declared.job.Job.{Job}
use Rattle.nvm_plan.specs.declared.part.Part.{Part}
use Rattle.nvm_plan.specs.declared.part.PartResult.{PartResult}
use Rattle.nvm_plan.specs.declared.part.PartResult.TheVariants.{Done, Failed, Looked, NoMemory, Full}
use Rattle.nvm_plan.specs.JobPart.{ready_operation}
use Rattle.nvm_plan.specs.Shape.{IsForEach}
use Rattle.nvm_audit.specs.Recordable.{IsLongAsRead, most_jobs}
use Rattle.nvm_audit.specs.RecordedJob.{RecordedJob}
use Rattle.nvm_file.specs.declared.frame.Frame.{Frame}
use Rattle.nvm_file.specs.DoneReading.{result_of, part_at, parts_at, status_at, one_status_at, two_statuses_at, statuses_at, answer_at, answer_behind, payload_at, read_length, answer_length, done_of, done_of_number, done_at, work_at}
use Rattle.nvm_file.specs.Fields.{number_in}
use Rattle.nvm_file.specs.Fits.{StatusFits, StatusesFit}
use Rattle.nvm_file.specs.WorkSpelling.{done_bytes, part_bytes, payload_bytes, result_byte, status_bytes, statuses_bytes, work_bytes}
use Rattle.nvm_file.proofs.Places.{got_at}
use Rattle.nvm_file.proofs.Returning.{byte_returns, bytes_return, items_return, number_below_returns, number_in_returns, number_returns, read_then}

result_back : (end : PartResult) → result_of (result_byte end) ≡ end
result_back Done = refl
result_back Failed = refl
result_back Looked = refl
result_back NoMemory = refl
result_back Full = refl

code_returns : (total : ℕ) (end : PartResult) (rest : List ℕ)
    → number_in total 1 1 5 (result_byte end ∷ rest) ≡ Ok (result_byte end, rest)
code_returns total Done rest = number_in_returns total 1 1 5 1 rest (omega arith) (omega arith) (omega arith)
code_returns total Failed rest = number_in_returns total 1 1 5 2 rest (omega arith) (omega arith) (omega arith)
code_returns total Looked rest = number_in_returns total 1 1 5 3 rest (omega arith) (omega arith) (omega arith)
code_returns total NoMemory rest = number_in_returns total 1 1 5 4 rest (omega arith) (omega arith) (omega arith)
code_returns total Full rest = number_in_returns total 1 1 5 5 rest (omega arith) (omega arith) (omega arith)

-- A part is of one of the units, and its point fits its field.
abbrev pub IsKnownPart : Frame → Part → Type 0
IsKnownPart frame part = (part.unit < units_of frame.geometry) × (part.point < 2 ^ 32)

part_returns : (frame : Frame) (part : Part) (rest : List ℕ) → units_of frame.geometry ≤ 4096 → IsKnownPart frame part
    → part_at frame (part_bytes part ++ rest) ≡ Ok (part, rest)
unfolding part_at
part_returns frame part rest few known =
    let code = result_byte part.result ∷ rest in
    let same : record { unit = part.unit; point = part.point; result = result_of (result_byte part.result) } ≡ part =
    ap (λ (end : PartResult). record { unit = part.unit; point = part.point; result = end }) (result_back part.result) in
    read_then _ _ _ _ (number_below_returns frame.total 2 (units_of frame.geometry) part.unit (little_bytes 4 part.point ++ code)
    (omega (arith, known.0, few)) known.0)
    (read_then _ _ _ _ (number_returns frame.total 4 part.point code known.1)
    (read_then _ _ _ _ (code_returns frame.total part.result rest) (ap (λ (p : Part). Ok (p, rest)) same)))

parts_return : (frame : Frame) (parts : List Part) (rest : List ℕ) → units_of frame.geometry ≤ 4096
    → length parts ≤ units_of frame.geometry → AllByRecursion (IsKnownPart frame) parts
    → parts_at frame (little_bytes 2 (length parts) ++ (flat_map part_bytes parts ++ rest)) ≡ Ok (parts, rest)
unfolding parts_at
parts_return frame parts rest low few known =
    read_then _ _ _ _ (number_in_returns frame.total 2 0 (units_of frame.geometry) (length parts) (flat_map part_bytes parts ++ rest)
    (omega (arith, few, low)) (omega arith) few)
    (items_return part_bytes (IsKnownPart frame) (λ _. part_at frame) (λ i part after here. part_returns frame part after low here)
    0 parts rest known)

status_returns : (total : ℕ) (status : Status) (rest : List ℕ) → StatusFits status
    → status_at total (status_bytes status ++ rest) ≡ Ok (status, rest)
unfolding status_at
status_returns total status rest fits =
    read_then _ _ _ _ (byte_returns total status.sct (status.sc ∷ rest) fits.0)
    (read_then _ _ _ _ (byte_returns total status.sc rest fits.1) refl)

one_returns : (total : ℕ) (s : Status) (rest : List ℕ) → StatusFits s
    → one_status_at total (status_bytes s ++ rest) ≡ Ok (statuses.One s, rest)
unfolding one_status_at
one_returns total s rest fits = read_then _ _ _ _ (status_returns total s rest fits) refl

two_return : (total : ℕ) (s t : Status) (rest : List ℕ) → StatusFits s → StatusFits t
    → two_statuses_at total (status_bytes s ++ (status_bytes t ++ rest)) ≡ Ok (statuses.Two s t, rest)
unfolding two_statuses_at
two_return total s t rest first second =
    read_then _ _ _ _ (status_returns total s (status_bytes t ++ rest) first)
    (read_then _ _ _ _ (status_returns total t rest second) refl)

pub statuses_return : (body : Body) (total : ℕ) (told : Statuses) (rest : List ℕ) → IsForEach body told → StatusesFit told
    → statuses_at body total (statuses_bytes told ++ rest) ≡ Ok (told, rest)
statuses_return (Single c) total (statuses.One s) rest each fits = one_returns total s rest fits
statuses_return (Single c) total (statuses.Two s t) rest each fits = absurd each
statuses_return (Pair c d) total (statuses.One s) rest each fits = absurd each
statuses_return (Pair c d) total (statuses.Two s t) rest each fits = two_return total s t rest fits.0 fits.1

pub none_returns : (total : ℕ) (count : Option ℕ) (rest : List ℕ) → payload_at total count (payload_bytes None ++ rest) ≡ Ok (None, rest)
unfolding payload_at
none_returns total count rest =
    read_then _ _ _ _ (number_in_returns total 1 0 1 0 rest (omega arith) (omega arith) (omega arith)) refl

pub some_returns : (total : ℕ) (count : Option ℕ) (payload rest : List ℕ) → count ≡ Some (length payload)
    → payload_at total count (payload_bytes (Some payload) ++ rest) ≡ Ok (Some payload, rest)
unfolding payload_at answer_at
some_returns total count payload rest long =
    let answered : answer_behind total count (1 ∷ (payload ++ rest)) (payload ++ rest) ≡ Ok (Some payload, rest) =
    ap (λ (n : Option ℕ). answer_behind total n (1 ∷ (payload ++ rest)) (payload ++ rest)) long
    ∙ read_then _ _ _ _ (bytes_return total (length payload) payload rest refl) refl in
    read_then _ _ _ _ (number_in_returns total 1 0 1 1 (payload ++ rest) (omega arith) (omega arith) (omega arith)) answered

payload_returns : (frame : Frame) (job : Job) (payload : Option (List ℕ)) (rest : List ℕ)
    → ((bytes : List ℕ) → payload ≡ Some bytes → IsLongAsRead frame.geometry job bytes)
    → payload_at frame.total (answer_length frame.geometry job) (payload_bytes payload ++ rest) ≡ Ok (payload, rest)
unfolding answer_length
payload_returns frame job None rest long = none_returns frame.total (answer_length frame.geometry job) rest
payload_returns frame job (Some payload) rest long =
    let read = long payload refl in
    let count : read_length frame.geometry.block_size (ready_operation frame.geometry job) ≡ Some (length payload) =
    ap (read_length frame.geometry.block_size) read.ready
    ∙ rw (read.read) (ap (λ (n : ℕ). Some n) (sym read.whole)) in
    some_returns frame.total (answer_length frame.geometry job) payload rest count

-- What was done of the job may stand in a file.
pub record MayBeDone (frame : Frame) (jobs : List Job) (done : RecordedJob) : Type 0 where
  pub job : Job
  pub its : IsAt jobs done.job job
  pub below : done.job < 2 ^ 32
  pub few : length done.parts ≤ units_of frame.geometry
  pub parts : AllByRecursion (IsKnownPart frame) done.parts
  pub each : IsForEach job.body done.statuses
  pub statuses : StatusesFit done.statuses
  pub payload : (bytes : List ℕ) → done.payload ≡ Some bytes → IsLongAsRead frame.geometry job bytes

behind_number : (frame : Frame) (jobs : List Job) (done : RecordedJob) (rest : List ℕ) → units_of frame.geometry ≤ 4096
    → (may : MayBeDone frame jobs done)
    → done_of frame done.job may.job (little_bytes 2 (length done.parts) ++ (flat_map part_bytes done.parts
    ++ (statuses_bytes done.statuses ++ (payload_bytes done.payload ++ rest)))) ≡ Ok (done, rest)
unfolding done_of
behind_number frame jobs done rest few may =
    let payload = payload_bytes done.payload ++ rest in
    read_then _ _ _ _ (parts_return frame done.parts (statuses_bytes done.statuses ++ payload) few may.few may.parts)
    (read_then _ _ _ _ (statuses_return may.job.body frame.total done.statuses payload may.each may.statuses)
    (read_then _ _ _ _ (payload_returns frame may.job done.payload rest may.payload) refl))

done_returns : (frame : Frame) (jobs : List Job) (done : RecordedJob) (rest : List ℕ) → units_of frame.geometry ≤ 4096
    → MayBeDone frame jobs done → done_at frame jobs (done_bytes done ++ rest) ≡ Ok (done, rest)
unfolding done_at
done_returns frame jobs done rest few may =
    let parts = flat_map part_bytes done.parts in
    let told = statuses_bytes done.statuses in
    let payload = payload_bytes done.payload in
    let count = little_bytes 2 (length done.parts) in
    let behind = count ++ (parts ++ (told ++ (payload ++ rest))) in
    let grouped : done_bytes done ++ rest ≡ little_bytes 4 done.job ++ behind =
    ap (λ (l : List ℕ). little_bytes 4 done.job ++ (count ++ l))
    (append_assoc parts (told ++ payload) rest ∙ ap (λ (l : List ℕ). parts ++ l) (append_assoc told payload rest)) in
    let found : done_of_number frame done.job (slice_get jobs done.job) (little_bytes 4 done.job ++ behind) behind ≡ Ok (done, rest) =
    ap (λ (job : Option Job). done_of_number frame done.job job (little_bytes 4 done.job ++ behind) behind) (got_at jobs done.job may.job may.its)
    ∙ behind_number frame jobs done rest few may in
    ap (done_at frame jobs) grouped
    ∙ read_then _ _ _ _ (number_returns frame.total 4 done.job behind may.below) found

pub work_returns : (frame : Frame) (jobs : List Job) (work : List RecordedJob) (rest : List ℕ) → units_of frame.geometry ≤ 4096
    → length work ≤ most_jobs → All (MayBeDone frame jobs) work
    → work_at frame jobs (work_bytes work ++ rest) ≡ Ok (work, rest)
unfolding work_at
work_returns frame jobs work rest low few may =
    read_then _ _ _ _ (number_in_returns frame.total 4 0 most_jobs (length work) (flat_map done_bytes work ++ rest)
    (omega (arith, few)) (omega arith) few)
    (items_return done_bytes (MayBeDone frame jobs) (λ _. done_at frame jobs)
    (λ i done after here. done_returns frame jobs done after low here) 0 work rest (recursion_from_All _ work may))
