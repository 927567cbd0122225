-- No text says that a job ended at the highest time of 64 bits.
use Rattle.std.proofs.Common.{◌≡◌, ◌<◌, ◌≤◌, ℕ, nat_le, true, false, Bool, if◌then◌else◌, List, [], ◌∷◌, codes, bytes_eq, IfSome, IfOk, Option, Some, None, Result, Ok, Err, refl, sym, subst, arith}
use Rattle.std.proofs.lemmas.Bool.{and_parts, leb-true}
use Rattle.std.proofs.lemmas.List.Elements.{All-nil, All-push}
use Rattle.nvm_plan.specs.declared.job.Body.{Body}
use Rattle.nvm_list.specs.Numbers.{is_number, value_after, number}
use Rattle.nvm_list.specs.Words.{first, others, words_in}
use Rattle.nvm_trace.specs.TraceView.{TraceView}
use Rattle.nvm_trace.specs.declared.traced_job.Ending.{Ending}
use Rattle.nvm_trace.specs.declared.traced_job.TracedJob.{TracedJob}
use Rattle.nvm_trace_text.specs.Expecting.{◌>>=◌}
use Rattle.nvm_trace_text.specs.Head.{trace_under}
use Rattle.nvm_trace_text.specs.Lines.{from_least, field, end_time, identified, body_with, reply, ending, job_of, job}
use Rattle.nvm_trace_text.specs.Marks.{before_mark, behind_mark}
use Rattle.nvm_trace_text.specs.Spelled.{EndsBeforeLast, AllEndBeforeLast}
use Rattle.nvm_trace_text.specs.Texts.{uncommented, job_if_any, on_line, with_job, GoesOn, SayBehind, UnderHead, Say}
use Rattle.nvm_list.specs.Words.{text_lines}
use Rattle.nvm_trace_text.specs.declared.expected.TraceExpected.{TraceExpected}
use Rattle.nvm_trace_text.specs.declared.expected.TraceExpected.TheVariants as expecting

-- what is read, if anything is, has this
abbrev pub Reads : {A : Type 0} → (A → Type 0) → Result A TraceExpected → Type 0
Reads P r = IfOk r P

then_reads : {A B : Type 0} (P : A → Type 0) (Q : B → Type 0) (r : Result A TraceExpected) (f : A → Result B TraceExpected) → IfOk r P → ((x : A) → P x → IfOk (f x) Q) → IfOk (r >>= f) Q
then_reads P Q (Ok x) f h k = k x h
then_reads P Q (Err e) f h k = tt

any_read : {A : Type 0} (r : Result A TraceExpected) → IfOk r (λ _. Unit {0})
any_read (Ok x) = tt
any_read (Err e) = tt

-- ---- a number isn't above its limit

number_by : (b : Bool) (n most : ℕ) → (b ≡ true → n ≤ most) → IfSome (if b then Some n else None) (λ m. m ≤ most)
number_by true n most h = h refl
number_by false n most h = tt

number_within : (most : ℕ) (word : List ℕ) → IfSome (number most word) (λ m. m ≤ most)
number_within most word =
    number_by (is_number most word) (value_after 0 word) most (λ e. leb-true (value_after 0 word) most (and_parts _ (nat_le (value_after 0 word) most) e).1)

least_by : (b : Bool) (n most : ℕ) (expected : TraceExpected) → n ≤ most → IfOk (if b then Ok n else Err expected) (λ m. m ≤ most)
least_by true n most expected h = h
least_by false n most expected h = tt

least_within : (least most : ℕ) (expected : TraceExpected) (o : Option ℕ) → IfSome o (λ m. m ≤ most) → IfOk (from_least least expected o) (λ m. m ≤ most)
least_within least most expected None h = tt
least_within least most expected (Some n) h = least_by (nat_le least n) n most expected h

field_within : (least most : ℕ) (expected : TraceExpected) (words : List (List ℕ)) → IfOk (field least most expected words) (λ x. x.0 ≤ most)
field_within least most expected words =
    then_reads (λ m. m ≤ most) (λ x. x.0 ≤ most) (from_least least expected (number most (first words))) (λ n. Ok (n, others words))
    (least_within least most expected (number most (first words)) (number_within most (first words))) (λ n h. h)

-- ---- the time at which a job ended

abbrev IsTime : Option ℕ → Type 0
IsTime o = IfSome o (λ t. t < 18446744073709551615)

abbrev ended_at : Option ℕ → List (List ℕ) → Result (Option ℕ × List (List ℕ)) TraceExpected
ended_at time ws = Ok (time, ws)

end_by : (b : Bool) (ws : List (List ℕ)) (r : Result (ℕ × List (List ℕ)) TraceExpected) → IfOk r (λ x. x.0 ≤ 18446744073709551614)
    → IfOk (if b then ended_at None ws else (r >>= λ t. ended_at (Some t.0) t.1)) (λ x. IsTime x.0)
end_by true ws r h = tt
end_by false ws r h = then_reads (λ x. x.0 ≤ 18446744073709551614) (λ x. IsTime x.0) r (λ t. ended_at (Some t.0) t.1) h (λ t le. let low : t.0 ≤ 18446744073709551614 = le in omega (arith, low))

end_within : (words : List (List ℕ)) → IfOk (end_time words) (λ x. IsTime x.0)
end_within words =
    end_by (bytes_eq (first words) (codes "-")) (others words) (field 0 18446744073709551614 expecting.Ended words) (field_within 0 18446744073709551614 expecting.Ended words)

abbrev EndsInTime : Option Ending → Type 0
EndsInTime o = IfSome o (λ e. e.time < 18446744073709551615)

ending_within : (size : ℕ) (b : Body) (time : Option ℕ) (told : Option (List ℕ)) → IsTime time → IfOk (ending size b time told) EndsInTime
ending_within size b None None h = tt
ending_within size b None (Some told) h = tt
ending_within size b (Some time) None h = tt
ending_within size b (Some time) (Some told) h =
    then_reads (λ _. Unit {0}) EndsInTime (reply size b (words_in told)) (λ r. Ok (Some (record { time = time; statuses = r.0; payload = r.1 }))) (any_read (reply size b (words_in told))) (λ r _. h)

job_within : (size : ℕ) (words : List (List ℕ)) (second told : Option (List ℕ)) → IfOk (job_of size words second told) EndsBeforeLast
unfolding job_of
job_within size words second told =
    then_reads (λ _. Unit {0}) EndsBeforeLast (field 1 18446744073709551615 expecting.Began words) _ (any_read (field 1 18446744073709551615 expecting.Began words)) (λ began _.
    then_reads (λ x. IsTime x.0) EndsBeforeLast (end_time began.1) _ (end_within began.1) (λ ended time.
    then_reads (λ _. Unit {0}) EndsBeforeLast (field 1 64 expecting.Host ended.1) _ (any_read (field 1 64 expecting.Host ended.1)) (λ host _.
    then_reads (λ _. Unit {0}) EndsBeforeLast (identified size host.1) _ (any_read (identified size host.1)) (λ c _.
    then_reads (λ _. Unit {0}) EndsBeforeLast (body_with size c second) _ (any_read (body_with size c second)) (λ b _.
    then_reads EndsInTime EndsBeforeLast (ending size b ended.0 told) (λ e. Ok (record { job = record { host = host.0; body = b }; began = began.0; ended = e })) (ending_within size b ended.0 told time) (λ e h. h))))))

line_by : (size : ℕ) (line : List ℕ) (words : List (List ℕ)) → IfOk (job_if_any size line words) (λ o. IfSome o EndsBeforeLast)
line_by size line [] = tt
line_by size line (word ∷ words) =
    then_reads EndsBeforeLast (λ o. IfSome o EndsBeforeLast) (job size line) (λ j. Ok (Some j))
    (job_within size (words_in (before_mark 43 (before_mark 61 line))) (behind_mark 43 (before_mark 61 line)) (behind_mark 61 line)) (λ j h. h)

-- ---- the whole text

goes_on : (t whole : TraceView) (r : Result (Option TracedJob) TraceExpected) (next : TraceView → Type 0) → AllEndBeforeLast t → IfOk r (λ o. IfSome o EndsBeforeLast) → GoesOn t r next
    → ((u : TraceView) → AllEndBeforeLast u → next u → AllEndBeforeLast whole) → AllEndBeforeLast whole
goes_on t whole (Err e) next h k said more = absurd said
goes_on t whole (Ok None) next h k said more = more t h said
goes_on t whole (Ok (Some j)) next h k said more = more (with_job t j) (All-push EndsBeforeLast t.jobs j h k) said.1

behind_end : (texts : List (List ℕ)) (t whole : TraceView) → AllEndBeforeLast t → SayBehind t texts whole → AllEndBeforeLast whole
behind_end [] t whole h said = subst AllEndBeforeLast (sym said) h
behind_end (text ∷ texts) t whole h said =
    goes_on t whole (on_line t.namespace.block_size text) (λ more. SayBehind more texts whole) h
    (line_by t.namespace.block_size (uncommented text) (words_in (uncommented text))) said (λ u k next. behind_end texts u whole k next)

under_end : (words : List (List ℕ)) (later : Type 0) (texts : List (List ℕ)) (whole : TraceView) → (later → AllEndBeforeLast whole) → UnderHead words later (λ empty. SayBehind empty texts whole) → AllEndBeforeLast whole
under_end [] later texts whole more said = more said
under_end (word ∷ words) later texts whole more said = behind_end texts (trace_under said.0) whole (All-nil EndsBeforeLast) said.2

said_end : (texts : List (List ℕ)) (whole : TraceView) → Say texts whole → AllEndBeforeLast whole
said_end [] whole said = absurd said
said_end (text ∷ texts) whole said = under_end (words_in (uncommented text)) (Say texts whole) texts whole (said_end texts whole) said

pub text_ends : (text : List ℕ) (t : TraceView) → Say (text_lines text) t → AllEndBeforeLast t
text_ends text t said = said_end (text_lines text) t said
