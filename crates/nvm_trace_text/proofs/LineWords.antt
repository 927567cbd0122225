-- The line of a job as words, and how it is cut.
use Rattle.std.proofs.Common.{◌≡◌, ℕ, List, [], ◌∷◌, ◌++◌, codes, decimal, Option, Some, None, refl, sym, ap, ◌∙◌, append_assoc, append-nil}
use Rattle.std.specs.List.{AllByRecursion}
use Rattle.nvm_record.specs.declared.status.Statuses.{Statuses}
use Rattle.nvm_record.specs.declared.status.Statuses.TheVariants.{One, Two}
use Rattle.nvm_plan.specs.declared.job.Body.{Body}
use Rattle.nvm_plan.specs.declared.job.Body.TheVariants.{Single, Pair}
use Rattle.nvm_text.specs.Lines.{status_text, statuses_text, payload_text, runs_text}
use Rattle.nvm_text.specs.Runs.{runs}
use Rattle.nvm_list.specs.Listing.{behind_spaces}
use Rattle.nvm_list.specs.Words.{words_in}
use Rattle.nvm_list.proofs.Cutting.{blank_dropped}
use Rattle.nvm_list.proofs.PlainText.{IsPlainWord, words_again}
use Rattle.nvm_list.proofs.SpacedWords.{spaced_append}
use Rattle.nvm_trace.specs.declared.traced_job.Ending.{Ending}
use Rattle.nvm_trace.specs.declared.traced_job.TracedJob.{TracedJob}
use Rattle.nvm_trace_text.specs.Listing.{end_text, body_text, reply_text, job_line}
use Rattle.nvm_trace_text.proofs.SentWords.{sent_words}

abbrev pub body_words : Body → List (List ℕ)
body_words (Single c) = sent_words c
body_words (Pair c d) = sent_words c ++ codes "+" ∷ sent_words d

abbrev pub statuses_words : Statuses → List (List ℕ)
statuses_words (One s) = status_text s ∷ []
statuses_words (Two s t) = status_text s ∷ status_text t ∷ []

abbrev pub payload_words : Option (List ℕ) → List (List ℕ)
payload_words None = []
payload_words (Some bytes) = runs_text (runs bytes) ∷ []

-- what stands behind `=`
abbrev pub told_words : Ending → List (List ℕ)
told_words e = statuses_words e.statuses ++ payload_words e.payload

abbrev pub reply_words : Option Ending → List (List ℕ)
reply_words None = []
reply_words (Some e) = codes "=" ∷ told_words e

-- what stands behind the time at which the job began, before `=`
abbrev pub front_words : TracedJob → List (List ℕ) → List (List ℕ)
front_words j ws = end_text j.ended ∷ decimal j.job.host ∷ ws

abbrev pub line_words : TracedJob → List (List ℕ)
line_words j = front_words j (body_words j.job.body ++ reply_words j.ended)

-- ---- words behind spaces

body_spaced : (b : Body) → behind_spaces (body_words b) ≡ codes " " ++ body_text b
body_spaced (Single c) = refl
body_spaced (Pair c d) = spaced_append (sent_words c) (codes "+" ∷ sent_words d)

statuses_spaced : (s : Statuses) → behind_spaces (statuses_words s) ≡ codes " " ++ statuses_text s
statuses_spaced (One s) = ap (λ (x : List ℕ). codes " " ++ x) (append-nil (status_text s))
statuses_spaced (Two s t) = ap (λ (x : List ℕ). codes " " ++ (status_text s ++ (codes " " ++ x))) (append-nil (status_text t))

payload_spaced : (p : Option (List ℕ)) → behind_spaces (payload_words p) ≡ payload_text p
payload_spaced None = refl
payload_spaced (Some bytes) = ap (λ (x : List ℕ). codes " " ++ x) (append-nil (runs_text (runs bytes)))

pub told_spaced : (e : Ending) → behind_spaces (told_words e) ≡ codes " " ++ (statuses_text e.statuses ++ payload_text e.payload)
told_spaced e =
    spaced_append (statuses_words e.statuses) (payload_words e.payload)
    ∙ ap (λ (x : List ℕ). x ++ behind_spaces (payload_words e.payload)) (statuses_spaced e.statuses)
    ∙ ap (λ (x : List ℕ). codes " " ++ (statuses_text e.statuses ++ x)) (payload_spaced e.payload)

reply_spaced : (e : Option Ending) → behind_spaces (reply_words e) ≡ reply_text e
reply_spaced None = refl
reply_spaced (Some e) = ap (λ (x : List ℕ). codes " =" ++ x) (told_spaced e)

tail_spaced : (b : Body) (e : Option Ending) (n : List ℕ) → behind_spaces (body_words b ++ reply_words e) ++ n ≡ codes " " ++ (body_text b ++ (reply_text e ++ n))
tail_spaced b e n =
    ap (λ (x : List ℕ). x ++ n) (
    spaced_append (body_words b) (reply_words e)
    ∙ ap (λ (x : List ℕ). x ++ behind_spaces (reply_words e)) (body_spaced b)
    ∙ ap (λ (x : List ℕ). (codes " " ++ body_text b) ++ x) (reply_spaced e)
    )
    ∙ append_assoc (codes " " ++ body_text b) (reply_text e) n

-- the line of a job is the time at which it began and its other words
pub line_spaced : (j : TracedJob) → job_line j ≡ decimal j.began ++ (behind_spaces (line_words j) ++ codes "\n")
line_spaced j =
    let end = end_text j.ended in
    let host = decimal j.job.host in
    let tail = behind_spaces (body_words j.job.body ++ reply_words j.ended) in
    let n = codes "\n" in
    ap (λ (x : List ℕ). decimal j.began ++ (codes " " ++ x)) (sym (
    append_assoc end (codes " " ++ (host ++ tail)) n
    ∙ ap (λ (x : List ℕ). end ++ (codes " " ++ x)) (append_assoc host tail n ∙ ap (λ (x : List ℕ). host ++ x) (tail_spaced j.job.body j.ended n))
    ))

pub spaced_words : (ws : List (List ℕ)) → AllByRecursion IsPlainWord ws → words_in (behind_spaces ws) ≡ ws
spaced_words [] h = refl
spaced_words (w ∷ ws) h = blank_dropped 32 (w ++ behind_spaces ws) refl ∙ words_again w ws h.0 h.1

-- words behind others
pub split_words : (word : List ℕ) (xs ys : List (List ℕ)) → word ++ behind_spaces (xs ++ ys) ≡ (word ++ behind_spaces xs) ++ behind_spaces ys
split_words word xs ys =
    ap (λ (x : List ℕ). word ++ x) (spaced_append xs ys) ∙ sym (append_assoc word (behind_spaces xs) (behind_spaces ys))
