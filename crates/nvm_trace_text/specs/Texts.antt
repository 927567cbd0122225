-- When a text says a trace, and which fault it has where it says none. Each line with words says a job, but for the first, which is the
-- head.
use Rattle.std.specs.Prelude.{◌≡◌, ◌⊎◌, ℕ, ◌+◌, List, [], ◌∷◌, ◌++◌, Option, Some, None, Result, Ok, Err}
use Rattle.std.specs.List.{before_first}
use Rattle.nvm_geometry.specs.Faults.{HasNoFault, IsFirstGeometryFault}
use Rattle.nvm_geometry.specs.declared.geometry_fault.GeometryFault.{GeometryFault}
use Rattle.nvm_list.specs.Words.{is, text_lines, words_in}
use Rattle.nvm_trace.specs.Taking.{CanTake, Applies}
use Rattle.nvm_trace.specs.TraceView.{TraceView}
use Rattle.nvm_trace.specs.declared.trace_fault.TraceFault.{TraceFault}
use Rattle.nvm_trace.specs.declared.traced_job.TracedJob.{TracedJob}
use Rattle.nvm_trace_text.specs.Expecting.{◌>>=◌}
use Rattle.nvm_trace_text.specs.Head.{head, namespace_in, trace_under}
use Rattle.nvm_trace_text.specs.Lines.{job}
use Rattle.nvm_trace_text.specs.declared.expected.TraceExpected.{TraceExpected}
use Rattle.nvm_trace_text.specs.declared.expected.TraceExpected.TheVariants.{Geometry, Unfit}
use Rattle.nvm_trace_text.specs.declared.fault.TextFault.{TextFault}
use Rattle.nvm_trace_text.specs.declared.fault.TextFault.TheVariants.{Line, NoHead}
use Rattle.nvm_trace_text.specs.declared.head.Head.{Head}

-- a line before its comment
abbrev pub uncommented : List ℕ → List ℕ
uncommented text = before_first (is 35) text

-- the job of a line that has these words, if it has any
abbrev pub job_if_any : ℕ → List ℕ → List (List ℕ) → Result (Option TracedJob) TraceExpected
job_if_any size line [] = Ok None
job_if_any size line (word ∷ words) = job size line >>= λ j. Ok (Some j)

abbrev pub on_line : ℕ → List ℕ → Result (Option TracedJob) TraceExpected
on_line size text = job_if_any size (uncommented text) (words_in (uncommented text))

-- the trace with one job more
abbrev pub with_job : TraceView → TracedJob → TraceView
with_job t j = record t { jobs = t.jobs ++ j ∷ [] }

-- What is read of a line goes into the trace, and so it goes on.
abbrev pub GoesOn : TraceView → Result (Option TracedJob) TraceExpected → (TraceView → Type 0) → Type 0
GoesOn t (Err expected) next = ⊥
GoesOn t (Ok None) next = next t
GoesOn t (Ok (Some j)) next = CanTake t j × next (with_job t j)

-- Behind the trace so far, the lines say the whole one.
abbrev pub SayBehind : TraceView → List (List ℕ) → TraceView → Type 0
SayBehind t [] whole = whole ≡ t
SayBehind t (text ∷ texts) whole = GoesOn t (on_line t.namespace.block_size text) (λ more. SayBehind more texts whole)

-- What is read of this line is this fault.
abbrev pub IsLineFault : {A : Type 0} → ℕ → Result A TraceExpected → TextFault → Type 0
IsLineFault line (Err expected) fault = fault ≡ Line line expected
IsLineFault line (Ok x) fault = ⊥

-- The fault is in this line, whose number is given, or behind it.
abbrev pub FailsAt : TraceView → ℕ → Result (Option TracedJob) TraceExpected → TextFault → (TraceView → Type 0) → Type 0
FailsAt t line (Err expected) fault behind = fault ≡ Line line expected
FailsAt t line (Ok None) fault behind = behind t
FailsAt t line (Ok (Some j)) fault behind =
    ((f : TraceFault) × Applies t j f × (fault ≡ Line line (Unfit f))) ⊎ (CanTake t j × behind (with_job t j))

-- Behind the trace so far, it is the first fault of the lines, of which the first has this number.
abbrev pub FailBehind : TraceView → ℕ → List (List ℕ) → TextFault → Type 0
FailBehind t line [] fault = ⊥
FailBehind t line (text ∷ texts) fault =
    FailsAt t line (on_line t.namespace.block_size text) fault (λ more. FailBehind more (line + 1) texts fault)

-- The words are a head of a namespace's numbers.
pub record IsHead (words : List (List ℕ)) (h : Head) : Type 0 where
  pub read : head words ≡ Ok h
  pub numbers : HasNoFault (namespace_in h.numbers)

abbrev pub UnderHead : List (List ℕ) → Type 0 → (TraceView → Type 0) → Type 0
UnderHead [] later behind = later
UnderHead (word ∷ words) later behind = (h : Head) × IsHead (word ∷ words) h × behind (trace_under h)

-- The lines say the trace.
abbrev pub Say : List (List ℕ) → TraceView → Type 0
Say [] t = ⊥
Say (text ∷ texts) t = UnderHead (words_in (uncommented text)) (Say texts t) (λ empty. SayBehind empty texts t)

-- It is the empty trace of a head that the words are.
abbrev pub IsTraceUnder : List (List ℕ) → TraceView → Type 0
IsTraceUnder words t = (h : Head) × IsHead words h × (t ≡ trace_under h)

-- It is the fault of the head in line `line`.
abbrev pub IsHeadFault : ℕ → List (List ℕ) → TextFault → Type 0
IsHeadFault line words fault =
    ((e : TraceExpected) × (head words ≡ Err e) × (fault ≡ Line line e))
    ⊎ ((h : Head) × (f : GeometryFault) × (head words ≡ Ok h) × IsFirstGeometryFault (namespace_in h.numbers) f × (fault ≡ Line line (Geometry f)))

abbrev pub FailsAtHead : ℕ → List (List ℕ) → TextFault → Type 0 → (TraceView → Type 0) → Type 0
FailsAtHead line [] fault later behind = later
FailsAtHead line (word ∷ words) fault later behind =
    IsHeadFault line (word ∷ words) fault ⊎ ((h : Head) × IsHead (word ∷ words) h × behind (trace_under h))

-- It is the first fault of the lines, of which the first has this number.
abbrev pub Fail : ℕ → List (List ℕ) → TextFault → Type 0
Fail line [] fault = fault ≡ NoHead
Fail line (text ∷ texts) fault =
    FailsAtHead line (words_in (uncommented text)) fault (Fail (line + 1) texts fault) (λ empty. FailBehind empty (line + 1) texts fault)

-- The text says this trace.
abbrev pub IsTextOf : List ℕ → TraceView → Type 0
IsTextOf text t = Say (text_lines text) t

-- The text says none, and this is its first fault.
abbrev pub IsTextFault : List ℕ → TextFault → Type 0
IsTextFault text fault = Fail 1 (text_lines text) fault
