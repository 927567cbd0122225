use Rattle.std.proofs.Common.{◌⊎◌, ℕ, List, string_bytes, sym, subst}
use Rattle.std.proofs.lemmas.Result.{IfErr-weaker}
use Rattle.nvm_commands.specs.Audited.{IsUnwitnessed}
use Rattle.nvm_commands.specs.Explained.{IsUntold}
use Rattle.nvm_commands.specs.Fault.{IsFaultOfRecordAt}
use Rattle.nvm_commands.specs.Files.{IsReadFault}
use Rattle.nvm_commands.specs.declared.explaining_words.ExplainWords.{ExplainWords}
use Rattle.nvm_commands.proofs.explaining.explained.Goals as goal

pub returns-in-Record : goal.returns-in-Record
returns-in-Record g c =
    IfErr-weaker c.record_explained.result _ _
    (λ failure is.
    subst (λ (words : ExplainWords). IsUntold words failure.fault) (sym c.in-Record.is)
    (subst (λ (path : List ℕ). IsReadFault path failure.fault ⊎ IsFaultOfRecordAt path failure.fault) c.as_str.ensures.value is))
    c.record_explained.ensures.fault

pub returns-in-Trace : goal.returns-in-Trace
returns-in-Trace g c =
    IfErr-weaker c.trace_explained.result _ _
    (λ failure is.
    subst (λ (words : ExplainWords). IsUntold words failure.fault) (sym c.in-Trace.is)
    (subst (λ (path : List ℕ). IsUnwitnessed path (string_bytes c.in-Trace.evidence) failure.fault) c.as_str-in-Trace.ensures.value
    (subst (λ (path : List ℕ). IsUnwitnessed c.as_str-in-Trace.result.now path failure.fault) c.as_str-in-Trace-2.ensures.value is)))
    c.trace_explained.ensures
