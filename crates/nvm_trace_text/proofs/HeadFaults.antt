-- A head that is wrong is the first fault of its line and those behind it.
use Rattle.std.proofs.Common.{◌≡◌, ℕ, ◌+◌, false, List, [], ◌∷◌, sym, subst, inl}
use Rattle.nvm_trace.specs.TraceView.{TraceView}
use Rattle.nvm_list.specs.Words.{words_in}
use Rattle.nvm_trace_text.specs.Head.{is_end}
use Rattle.nvm_trace_text.specs.Texts.{uncommented, FailBehind, IsHeadFault, FailsAtHead, Fail}
use Rattle.nvm_trace_text.specs.declared.fault.TextFault.{TextFault}

refused_words : (line : ℕ) (words : List (List ℕ)) (fault : TextFault) (later : Type 0) (behind : TraceView → Type 0) → is_end words ≡ false → IsHeadFault line words fault → FailsAtHead line words fault later behind
refused_words line [] fault later behind some h = absurd cc
refused_words line (word ∷ words) fault later behind some h = inl h

pub head_fails : (line : ℕ) (text : List ℕ) (texts parts : List (List ℕ)) (fault : TextFault) → parts ≡ text ∷ texts → is_end (words_in (uncommented text)) ≡ false
    → IsHeadFault line (words_in (uncommented text)) fault → Fail line parts fault
head_fails line text texts parts fault cut some h =
    subst (λ (ps : List (List ℕ)). Fail line ps fault) (sym cut)
    (refused_words line (words_in (uncommented text)) fault (Fail (line + 1) texts fault) (λ empty. FailBehind empty (line + 1) texts fault) some h)
