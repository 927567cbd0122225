-- The text of a trace says this trace.
use Rattle.std.proofs.Common.{◌≡◌, ℕ, ◌+◌, ◌<◌, ◌≤◌, false, List, [], ◌∷◌, ◌++◌, length, codes, decimal, All, Option, Some, Result, Ok, refl, sym, ap, ◌∙◌, append_assoc, append-nil, subst, arith}
use Rattle.std.specs.List.{AllByRecursion}
use Rattle.std.proofs.lemmas.List.{length-append}
use Rattle.std.proofs.lemmas.List.Elements.{All-from_recursion, recursion_from_All}
use Rattle.nvm_geometry.specs.Namespace.{Namespace}
use Rattle.nvm_record.specs.BlockSize.{IsBlockSize}
use Rattle.nvm_text.specs.Runs.{RunsAreLongest}
use Rattle.nvm_list.specs.Listing.{behind_spaces}
use Rattle.nvm_list.specs.Words.{is, words_in, text_lines}
use Rattle.nvm_list.proofs.PlainText.{IsPlainWord, all_before, both, line_words_again, lines_again, none_is}
use Rattle.nvm_list.proofs.RangeLaws.{RangesFit}
use Rattle.nvm_trace.specs.Traceable.{IsTraceable, IsTraceableJob}
use Rattle.nvm_trace.specs.TraceView.{TraceView}
use Rattle.nvm_trace.specs.declared.traced_job.TracedJob.{TracedJob}
use Rattle.nvm_trace_text.specs.Expecting.{◌>>=◌}
use Rattle.nvm_trace_text.specs.Head.{trace_under}
use Rattle.nvm_trace_text.specs.Listing.{job_line, job_lines, text_of}
use Rattle.nvm_trace_text.specs.Spelled.{JobFits, HasNumbersInRange, EndsBeforeLast, AllEndBeforeLast}
use Rattle.nvm_trace_text.specs.Texts.{uncommented, job_if_any, on_line, with_job, GoesOn, SayBehind, UnderHead, Say, IsTextOf}
use Rattle.nvm_trace_text.specs.declared.expected.TraceExpected.{TraceExpected}
use Rattle.nvm_trace_text.proofs.HeadAgain.{head_words, head_spaced, trace_plain, head_plain, head_of, head_again, valid_faultless}
use Rattle.nvm_trace_text.proofs.LineAgain.{IsJobAgain, job_again}
use Rattle.nvm_trace_text.proofs.LineWords.{line_words, line_spaced}

-- what holds of each job that is written
record IsWritten (ns : Namespace) (j : TracedJob) : Type 0 where
  can : IsTraceableJob ns j
  again : IsJobAgain ns.block_size j

abbrev line_of : TracedJob → List ℕ
line_of j = decimal j.began ++ behind_spaces (line_words j)

spaced_no_comment : (ws : List (List ℕ)) → AllByRecursion IsPlainWord ws → AllByRecursion (λ b. is 35 b ≡ false) (behind_spaces ws)
spaced_no_comment [] h = tt
spaced_no_comment (w ∷ ws) h = (refl, both (λ b. is 35 b ≡ false) w (behind_spaces ws) (none_is 35 w (omega arith) h.0.plain) (spaced_no_comment ws h.1))

no_comment : (w : List ℕ) (ws : List (List ℕ)) → IsPlainWord w → AllByRecursion IsPlainWord ws → All (λ b. is 35 b ≡ false) (w ++ behind_spaces ws)
no_comment w ws h hs =
    All-from_recursion (λ b. is 35 b ≡ false) (w ++ behind_spaces ws) (both (λ b. is 35 b ≡ false) w (behind_spaces ws) (none_is 35 w (omega arith) h.plain) (spaced_no_comment ws hs))

on_line_again : (size : ℕ) (j : TracedJob) → IsJobAgain size j → on_line size (line_of j) ≡ Ok (Some j)
on_line_again size j h =
    let same : uncommented (line_of j) ≡ line_of j = all_before (is 35) (line_of j) (no_comment (decimal j.began) (line_words j) h.word h.plain) in
    ap (λ (x : List ℕ). job_if_any size x (words_in (uncommented (line_of j)))) same
    ∙ ap (λ (ws : List (List ℕ)). job_if_any size (line_of j) ws) (line_words_again (decimal j.began) (line_words j) h.word h.plain)
    ∙ ap (λ (r : Result TracedJob TraceExpected). r >>= λ x. Ok (Some x)) h.read

-- the jobs that are left, one after the other
say_again : (t : TraceView) (js : List TracedJob) → length t.jobs + length js ≤ 4194304 → AllByRecursion (IsWritten t.namespace) js → SayBehind t (text_lines (job_lines js)) (record t { jobs = t.jobs ++ js })
say_again t [] few h = ap (λ (js : List TracedJob). record t { jobs = js }) (append-nil t.jobs)
say_again t (j ∷ js) few h =
    let size = t.namespace.block_size in
    let whole = record t { jobs = t.jobs ++ j ∷ js } in
    let lines : text_lines (job_line j ++ job_lines js) ≡ line_of j ∷ text_lines (job_lines js) =
    ap (λ (x : List ℕ). text_lines (x ++ job_lines js)) (line_spaced j) ∙ lines_again (decimal j.began) (line_words j) (job_lines js) h.0.again.word h.0.again.plain in
    let long : length (t.jobs ++ j ∷ []) ≡ length t.jobs + 1 = length-append t.jobs (j ∷ []) in
    let room : length t.jobs < 4194304 = omega (arith, few) in
    let next : SayBehind (with_job t j) (text_lines (job_lines js)) (record t { jobs = (t.jobs ++ j ∷ []) ++ js }) = say_again (with_job t j) js (omega (arith, few, long)) h.1 in
    let more : SayBehind (with_job t j) (text_lines (job_lines js)) whole =
    subst (λ (ks : List TracedJob). SayBehind (with_job t j) (text_lines (job_lines js)) (record t { jobs = ks })) (append_assoc t.jobs (j ∷ []) js) next in
    let here : GoesOn t (Ok (Some j)) (λ u. SayBehind u (text_lines (job_lines js)) whole) = (record { room = room; job = h.0.can }, more) in
    subst (λ (ls : List (List ℕ)). SayBehind t ls whole) (sym lines)
    (subst (λ (r : Result (Option TracedJob) TraceExpected). GoesOn t r (λ u. SayBehind u (text_lines (job_lines js)) whole)) (sym (on_line_again size j h.0.again)) here)

all_written : (ns : Namespace) (js : List TracedJob) → RunsAreLongest → RangesFit → IsBlockSize ns.block_size
    → AllByRecursion (IsTraceableJob ns) js → AllByRecursion JobFits js → AllByRecursion EndsBeforeLast js → AllByRecursion (IsWritten ns) js
all_written ns [] longest fit valid h k l = tt
all_written ns (j ∷ js) longest fit valid h k l =
    (record { can = h.0; again = job_again ns j longest fit valid h.0 k.0 l.0 }, all_written ns js longest fit valid h.1 k.1 l.1)

pub text_again : (t : TraceView) → RunsAreLongest → RangesFit → IsTraceable t → HasNumbersInRange t → AllEndBeforeLast t → IsTextOf (text_of t) t
text_again t longest fit h k l =
    let head = codes "trace" ++ behind_spaces (head_words t) in
    let plain : AllByRecursion IsPlainWord (head_words t) = head_plain t k.namespace k.first in
    let few : length t.jobs ≤ 4194304 = h.few in
    let lines : text_lines (text_of t) ≡ head ∷ text_lines (job_lines t.jobs) =
    ap (λ (x : List ℕ). text_lines (x ++ job_lines t.jobs)) (head_spaced t) ∙ lines_again (codes "trace") (head_words t) (job_lines t.jobs) trace_plain plain in
    let words : words_in (uncommented head) ≡ codes "trace" ∷ head_words t = line_words_again (codes "trace") (head_words t) trace_plain plain in
    let written : AllByRecursion (IsWritten t.namespace) t.jobs =
    all_written t.namespace t.jobs longest fit h.namespace.block_size (recursion_from_All (IsTraceableJob t.namespace) t.jobs h.jobs) (recursion_from_All JobFits t.jobs k.jobs) (recursion_from_All EndsBeforeLast t.jobs l) in
    let jobs : SayBehind (trace_under (head_of t)) (text_lines (job_lines t.jobs)) t = say_again (trace_under (head_of t)) t.jobs (omega (arith, few)) written in
    let under : UnderHead (codes "trace" ∷ head_words t) (Say (text_lines (job_lines t.jobs)) t) (λ empty. SayBehind empty (text_lines (job_lines t.jobs)) t) =
    (head_of t, record { read = head_again t k.namespace h.namespace k.first; numbers = valid_faultless t.namespace h.namespace }, jobs) in
    subst (λ (ls : List (List ℕ)). Say ls t) (sym lines)
    (subst (λ (ws : List (List ℕ)). UnderHead ws (Say (text_lines (job_lines t.jobs)) t) (λ empty. SayBehind empty (text_lines (job_lines t.jobs)) t)) (sym words) under)
