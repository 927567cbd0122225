-- What lines say is one trace, and then they have no fault.
use Rattle.std.proofs.Common.{◌≡◌, ℕ, ◌+◌, List, [], ◌∷◌, Option, Some, None, Result, Ok, Err, refl, sym, ◌∙◌, subst, arith, inl, inr}
use Rattle.std.specs.Option.{IfSome, IsSomeAnd}
use Rattle.std.specs.Result.{IfOk}
use Rattle.nvm_geometry.specs.Faults.{IsFirstOf, NoneApplies, faults}
use Rattle.nvm_geometry.specs.Namespace.{Namespace}
use Rattle.nvm_geometry.specs.declared.geometry_fault.GeometryFault.{GeometryFault}
use Rattle.nvm_list.specs.Words.{words_in}
use Rattle.nvm_trace.specs.Taking.{CanTake, Applies}
use Rattle.nvm_trace.specs.Traceable.{IsDataOf, IsEndingOf}
use Rattle.nvm_trace.specs.TraceView.{TraceView}
use Rattle.nvm_trace.specs.declared.trace_fault.TraceFault.{TraceFault}
use Rattle.nvm_trace.specs.declared.trace_fault.TraceFault.TheVariants.{Full, JobUnfit, BeganAtZero, EndedBefore, StatusesWrong, DataWrong}
use Rattle.nvm_trace.specs.declared.traced_job.TracedJob.{TracedJob}
use Rattle.nvm_trace_text.specs.Head.{head, namespace_in, trace_under}
use Rattle.nvm_trace_text.specs.Texts.{uncommented, on_line, with_job, GoesOn, SayBehind, FailsAt, FailBehind, IsHead, UnderHead, Say, IsHeadFault, FailsAtHead, Fail}
use Rattle.nvm_trace_text.specs.declared.expected.TraceExpected.{TraceExpected}
use Rattle.nvm_trace_text.specs.declared.fault.TextFault.{TextFault}
use Rattle.nvm_trace_text.specs.declared.head.Head.{Head}

-- ---- what can be taken has no fault

none_applies : (fs : List GeometryFault) (ns : Namespace) (f : GeometryFault) → NoneApplies fs ns → IsFirstOf fs ns f → ⊥
none_applies [] ns f h k = k
none_applies (g ∷ gs) ns f h k = elim k [ inl here ↦ h.0 here.0 | inr later ↦ none_applies gs ns f h.1 later.1 ]

some_both : {A : Type 0} (o : Option A) (P Q : A → Type 0) → IfSome o P → IsSomeAnd o Q → ((x : A) → P x → Q x → ⊥) → ⊥
some_both None P Q h k never = k
some_both (Some x) P Q h k never = never x h k

not_both : (t : TraceView) (j : TracedJob) (f : TraceFault) → CanTake t j → Applies t j f → ⊥
not_both t j Full can k = let room = can.room in absurd (omega (arith, room, k))
not_both t j JobUnfit can k = k (can.job.fits, can.job.known)
not_both t j BeganAtZero can k = let began = can.job.began in absurd (omega (arith, began, k))
not_both t j EndedBefore can k = some_both j.ended (IsEndingOf t.namespace j) _ can.job.ended k (λ e h late. let time = h.time in absurd (omega (arith, time, late)))
not_both t j StatusesWrong can k = some_both j.ended (IsEndingOf t.namespace j) _ can.job.ended k (λ e h wrong. wrong h.statuses)
not_both t j DataWrong can k =
    some_both j.ended (IsEndingOf t.namespace j) _ can.job.ended k (λ e h wrong. some_both e.payload (IsDataOf t.namespace j.job.body) _ h.payload wrong (λ bytes is no. no is))

-- ---- lines of jobs

goes_on_once : (t : TraceView) (r : Result (Option TracedJob) TraceExpected) (P Q : TraceView → Type 0) (u v : TraceView)
    → ((more : TraceView) → P more → Q more → u ≡ v) → GoesOn t r P → GoesOn t r Q → u ≡ v
goes_on_once t (Err e) P Q u v same h k = absurd h
goes_on_once t (Ok None) P Q u v same h k = same t h k
goes_on_once t (Ok (Some j)) P Q u v same h k = same (with_job t j) h.1 k.1

one_behind : (t : TraceView) (texts : List (List ℕ)) (u v : TraceView) → SayBehind t texts u → SayBehind t texts v → u ≡ v
one_behind t [] u v h k = h ∙ sym k
one_behind t (text ∷ texts) u v h k =
    goes_on_once t (on_line t.namespace.block_size text) (λ more. SayBehind more texts u) (λ more. SayBehind more texts v) u v (λ more. one_behind more texts u v) h k

goes_on_without : (t : TraceView) (line : ℕ) (r : Result (Option TracedJob) TraceExpected) (f : TextFault) (P Q : TraceView → Type 0)
    → ((more : TraceView) → P more → Q more → ⊥) → GoesOn t r P → FailsAt t line r f Q → ⊥
goes_on_without t line (Err e) f P Q never h k = h
goes_on_without t line (Ok None) f P Q never h k = never t h k
goes_on_without t line (Ok (Some j)) f P Q never h k = elim k [ inl here ↦ not_both t j here.0 h.0 here.1 | inr later ↦ never (with_job t j) h.1 later.1 ]

none_behind : (t : TraceView) (line : ℕ) (texts : List (List ℕ)) (u : TraceView) (f : TextFault) → SayBehind t texts u → FailBehind t line texts f → ⊥
none_behind t line [] u f h k = k
none_behind t line (text ∷ texts) u f h k =
    goes_on_without t line (on_line t.namespace.block_size text) f (λ more. SayBehind more texts u) (λ more. FailBehind more (line + 1) texts f)
    (λ more. none_behind more (line + 1) texts u f) h k

-- ---- the head

one_head : (words : List (List ℕ)) (g h : Head) → head words ≡ Ok g → head words ≡ Ok h → g ≡ h
one_head words g h p q = subst (λ (r : Result Head TraceExpected). IfOk r (λ x. x ≡ h)) (sym q ∙ p) refl

no_head : (words : List (List ℕ)) (h : Head) (e : TraceExpected) → head words ≡ Ok h → head words ≡ Err e → ⊥
no_head words h e p q = subst (λ (r : Result Head TraceExpected). IfOk r (λ _. ⊥)) (sym q ∙ p) tt

right_head : (line : ℕ) (words : List (List ℕ)) (h : Head) (f : TextFault) → IsHead words h → IsHeadFault line words f → ⊥
right_head line words h f is wrong = elim wrong [
  | inl unread ↦ no_head words h unread.0 is.read unread.1
  | inr bad ↦ none_applies faults (namespace_in h.numbers) bad.1 is.numbers
      (subst (λ (g : Head). IsFirstOf faults (namespace_in g.numbers) bad.1) (one_head words bad.0 h bad.2 is.read) bad.3)
]

under_once : (words : List (List ℕ)) (L M : Type 0) (P Q : TraceView → Type 0) (u v : TraceView) → (L → M → u ≡ v) → ((t : TraceView) → P t → Q t → u ≡ v)
    → UnderHead words L P → UnderHead words M Q → u ≡ v
under_once [] L M P Q u v later same h k = later h k
under_once (word ∷ words) L M P Q u v later same h k =
    same (trace_under k.0) (subst (λ (g : Head). P (trace_under g)) (one_head (word ∷ words) h.0 k.0 h.1.read k.1.read) h.2) k.2

under_without : (line : ℕ) (words : List (List ℕ)) (f : TextFault) (L M : Type 0) (P Q : TraceView → Type 0) → (L → M → ⊥) → ((t : TraceView) → P t → Q t → ⊥)
    → UnderHead words L P → FailsAtHead line words f M Q → ⊥
under_without line [] f L M P Q later never h k = later h k
under_without line (word ∷ words) f L M P Q later never h k = elim k [
  | inl wrong ↦ right_head line (word ∷ words) h.0 f h.1 wrong
  | inr right ↦ never (trace_under right.0) (subst (λ (g : Head). P (trace_under g)) (one_head (word ∷ words) h.0 right.0 h.1.read right.1.read) h.2) right.2
]

pub one_said : (texts : List (List ℕ)) (u v : TraceView) → Say texts u → Say texts v → u ≡ v
one_said [] u v h k = absurd h
one_said (text ∷ texts) u v h k =
    under_once (words_in (uncommented text)) (Say texts u) (Say texts v) (λ empty. SayBehind empty texts u) (λ empty. SayBehind empty texts v) u v (one_said texts u v)
    (λ empty. one_behind empty texts u v) h k

pub none_fails : (line : ℕ) (texts : List (List ℕ)) (u : TraceView) (f : TextFault) → Say texts u → Fail line texts f → ⊥
none_fails line [] u f h k = h
none_fails line (text ∷ texts) u f h k =
    under_without line (words_in (uncommented text)) f (Say texts u) (Fail (line + 1) texts f) (λ empty. SayBehind empty texts u) (λ empty. FailBehind empty (line + 1) texts f)
    (none_fails (line + 1) texts u f) (λ empty. none_behind empty (line + 1) texts u f) h k
