-- What a job that is done at once leaves.
use Rattle.std.proofs.Common.{◌≡◌, ◌⊎◌, inl, inr, ◌∙◌, ℕ, ◌+◌, ◌<◌, ◌≤◌, List, [], ◌∷◌, ◌++◌, length, take, drop, Option, None, Some, unwrap_or, append-nil, refl, sym, ap, subst, arith}
use Rattle.std.proofs.Math.Seq.{drop-append_seam, take-append_seam}
use Rattle.std.proofs.lemmas.List.{length-drop, length-take-le, take-append-drop, take_all}
use Rattle.nvm_record.specs.Step.{Operation}
use Rattle.nvm_record.specs.declared.status.Statuses.{Statuses}
use Rattle.nvm_geometry.specs.Boundaries.{unit_number}
use Rattle.nvm_geometry.specs.Large.{region_of}
use Rattle.nvm_geometry.specs.Namespace.{Namespace}
use Rattle.nvm_plan.specs.Fits.{FitsNamespace, IsWholeBody}
use Rattle.nvm_plan.specs.OnlyPart.{body_lent}
use Rattle.nvm_plan.specs.Completions.{body_completions, data_in}
use Rattle.nvm_plan.specs.declared.body_fields.BodyFields.{BodyFields}
use Rattle.nvm_plan.specs.declared.completions.Completions.{Completions}
use Rattle.nvm_plan.specs.declared.completions.Completions.TheVariants.{One, Two}
use Rattle.nvm_plan.specs.declared.job.Body.{Body}
use Rattle.nvm_plan.specs.declared.job.Body.TheVariants.{Pair, Single}
use Rattle.nvm_plan.specs.declared.job.Job.{Job}
use Rattle.nvm_unit.specs.declared.views.PassView.{PassView}
use Rattle.nvm_space.specs.AtOnce.{IsOnlyPartAt, IsWaiting}
use Rattle.nvm_space.specs.UnderWay.{MayHaveWaited}
use Rattle.nvm_space.specs.declared.job_done.JobDone.{JobDone}
use Rattle.nvm_c.specs.Logs.{HasDrawn, LogState, kept_by, with_kept}
use Rattle.nvm_c.specs.Told.{AreTold, FitEntries, all_posted, overwritten, read_by, told_length}
use Rattle.nvm_c.specs.declared.log.Log.{Log}

-- Nothing is recorded after a number was drawn where nothing was before, and nothing is kept there.
pub none_drawn : (log : Option Log) (after : Option LogState) (next next' number : ℕ) → log ≡ None → HasDrawn next next' (kept_by log) after number → after ≡ None
none_drawn log after next next' number unrecorded drawn =
    let here : HasDrawn next next' None after number = subst (λ (l : Option Log). HasDrawn next next' (kept_by l) after number) unrecorded drawn in
    here.0

pub none_kept : (log : Option LogState) (number : ℕ) (job : Job) (told : JobDone) → log ≡ None → log ≡ with_kept log number job told
none_kept log number job told unrecorded = subst (λ (l : Option LogState). l ≡ with_kept l number job told) (sym unrecorded) refl

-- a job of a whole body by one of the 64 hosts
pub body_fits : (ns : Namespace) (host : ℕ) (body : Body) (port : ℕ) → host ≡ port + 1 → port < 64 → IsWholeBody ns.block_size body
    → FitsNamespace ns (let job : Job = record { host = host; body = body } in job)
body_fits ns host body port is few whole = record { host = omega (arith, is); host_end = omega (arith, is, few); body = whole }

-- Data that is lent is what it is lent of.
pub lent_as : (fields : BodyFields) {payload compared lent also : List ℕ} → lent ≡ payload → also ≡ compared → body_lent fields payload compared ≡ body_lent fields lent also
lent_as fields {payload} {compared} {lent} {also} is is_too =
    ap (λ (bytes : List ℕ). body_lent fields bytes compared) (sym is) ∙ ap (body_lent fields lent) (sym is_too)

-- the job of data that is lent, or kept
pub job_lent : (host : ℕ) (fields : BodyFields) {payload compared lent also : List ℕ} → lent ≡ payload → also ≡ compared
    → (let j : Job = record { host = host; body = body_lent fields payload compared } in j) ≡ (let j : Job = record { host = host; body = body_lent fields lent also } in j)
job_lent host fields is is_too = ap (λ (body : Body). (let j : Job = record { host = host; body = body } in j)) (lent_as fields is is_too)

-- Two pieces behind each other are cut where the first one ends.
pub piece_front : (front back : List ℕ) (called : ℕ) → length front ≡ called → front ≡ take called (front ++ back)
piece_front front back called is = sym (take-append_seam front back) ∙ ap (λ (n : ℕ). take n (front ++ back)) is

pub piece_back : (front back : List ℕ) (called : ℕ) → length front ≡ called → back ≡ drop called (front ++ back)
piece_back front back called is = sym (drop-append_seam front back) ∙ ap (λ (n : ℕ). drop n (front ++ back)) is

-- The entries don't show what was read.
pub fit_alike : (host : ℕ) (body : Body) (statuses : Statuses) (read : Option (List ℕ)) → FitEntries (body_completions host body statuses read) → FitEntries (body_completions host body statuses None)
fit_alike host (Single c) statuses read fit = fit
fit_alike host (Pair c d) statuses read fit = fit

pub posted_alike : (host : ℕ) (body : Body) (statuses : Statuses) (read : Option (List ℕ))
    → all_posted (body_completions host body statuses None) ≡ all_posted (body_completions host body statuses read)
posted_alike host (Single c) statuses read = refl
posted_alike host (Pair c d) statuses read = refl

pub no_items : (l : List ℕ) → length l ≡ 0 → l ≡ []
no_items [] none = refl
no_items (x ∷ l) none = absurd (omega (arith, none))

none_behind : (l : List ℕ) (n : ℕ) → length l ≤ n → drop n l ≡ []
none_behind l n le = no_items (drop n l) (omega (arith, length-drop n l, le))

over_none : (buffer : List ℕ) → buffer ≡ overwritten [] buffer
over_none buffer = sym (ap (λ (l : List ℕ). l ++ drop 0 buffer) (take_all (length buffer) [] (omega arith)))

over_all : (bytes buffer : List ℕ) → length bytes ≡ length buffer → bytes ≡ overwritten bytes buffer
over_all bytes buffer same =
    sym (ap (λ (l : List ℕ). l ++ drop (length bytes) buffer) (take_all (length buffer) bytes (omega (arith, same)))
    ∙ ap (λ (l : List ℕ). bytes ++ l) (none_behind buffer (length bytes) (omega (arith, same))) ∙ append-nil bytes)

-- Data that was read took the room's place.
read_over : (read : Option (List ℕ)) (buffer new : List ℕ) → new ≡ unwrap_or read buffer → length new ≡ length buffer → new ≡ overwritten (unwrap_or read []) buffer
read_over None buffer new is same = is ∙ over_none buffer
read_over (Some bytes) buffer new is same = is ∙ over_all bytes buffer (sym (ap length is) ∙ same)

read_told : (told : Completions) → read_by told ≡ unwrap_or (data_in told) []
read_told (One c) = refl
read_told (Two c d) = refl

-- The buffer after a job that was done at once: there is no room in it, or nothing else.
pub buffer_told : (told : Completions) (front room new : List ℕ) → (room ≡ []) ⊎ (front ≡ []) → new ≡ unwrap_or (data_in told) room → length new ≡ length room
    → front ++ new ≡ overwritten (read_by told) (front ++ room)
buffer_told told front room new (inl none) is same =
    let empty : new ≡ [] = no_items new (same ∙ ap length none) in
    let unread : read_by told ≡ [] = read_told told ∙ sym (is ∙ ap (unwrap_or (data_in told)) none) ∙ empty in
    ap (λ (l : List ℕ). front ++ l) (empty ∙ sym none) ∙ over_none (front ++ room) ∙ ap (λ (l : List ℕ). overwritten l (front ++ room)) (sym unread)
buffer_told told front room new (inr none) is same =
    ap (λ (l : List ℕ). l ++ new) none ∙ read_over (data_in told) room new is same ∙ ap (λ (l : List ℕ). overwritten l room) (sym (read_told told))
    ∙ ap (λ (l : List ℕ). overwritten (read_by told) (l ++ room)) (sym none)

-- What is told of a job changes nothing before the buffer, if something is there: then it is a pair, which reads nothing.
pub told_behind : (told : Completions) (sent : List ℕ) {old new posted posted' : List ℕ} → (sent ≡ []) ⊎ (told_length told ≡ 32) → AreTold told old new posted posted'
    → AreTold told (sent ++ old) (sent ++ new) posted posted'
told_behind told sent {old} {new} {posted} {posted'} (inl none) are = subst (λ (l : List ℕ). AreTold told (l ++ old) (l ++ new) posted posted') (sym none) are
told_behind (One c) sent (inr two) are = absurd (omega (arith, two))
told_behind (Two c d) sent {old} (inr two) are =
    record { entries = are.entries; read = ap (λ (l : List ℕ). sent ++ l) (are.read ∙ sym (over_none old)) ∙ over_none (sent ++ old) }

front_over : (read : Option (List ℕ)) (buffer front new : List ℕ) (room : ℕ) → front ≡ take room buffer → room ≤ length buffer
    → new ≡ unwrap_or read front → length new ≡ length front → new ++ drop room buffer ≡ overwritten (unwrap_or read []) buffer
front_over None buffer front new room front_is le is same =
    ap (λ (l : List ℕ). l ++ drop room buffer) (is ∙ front_is) ∙ take-append-drop room buffer ∙ over_none buffer
front_over (Some bytes) buffer front new room front_is le is same =
    let long : length bytes ≡ room = sym (ap length is) ∙ same ∙ ap length front_is ∙ length-take-le room buffer le in
    ap (λ (l : List ℕ). l ++ drop room buffer) is ∙ ap (λ (n : ℕ). bytes ++ drop n buffer) (sym long)
    ∙ ap (λ (l : List ℕ). l ++ drop (length bytes) buffer) (sym (take_all (length buffer) bytes (omega (arith, long, le))))

-- The buffer whose front a job that was done at once had.
pub front_told : (told : Completions) (buffer front new : List ℕ) (room : ℕ) → front ≡ take room buffer → room ≤ length buffer
    → new ≡ unwrap_or (data_in told) front → length new ≡ length front → new ++ drop room buffer ≡ overwritten (read_by told) buffer
front_told told buffer front new room front_is le is same =
    rw (read_told told) (front_over (data_in told) buffer front new room front_is le is same)

-- A job has one only unit.
pub waits_for_it : (ns : Namespace) (job : Job) (region : ℕ) (part : Operation) (start now : List PassView) → IsOnlyPartAt ns job region part → (waiting : IsWaiting ns job start now)
    → MayHaveWaited region start now
waits_for_it ns job region part start now only waiting =
    let both : unit_number ns waiting.part.first ∷ [] ≡ unit_number ns part.first ∷ [] = sym waiting.only.only.units ∙ only.only.units in
    let same : unit_number ns waiting.part.first ≡ unit_number ns part.first = cc both in
    let here : waiting.region ≡ region = waiting.only.here ∙ (ap (λ (unit : ℕ). region_of ns unit) same ∙ sym only.here) in
    subst (λ (r : ℕ). MayHaveWaited r start now) here waiting.waited
