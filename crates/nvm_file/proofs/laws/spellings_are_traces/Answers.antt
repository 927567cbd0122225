use Rattle.std.proofs.Common.{sym, subst, List, ℕ}
use Rattle.std.proofs.lemmas.List.Elements.{recursion_from_All}
use Rattle.nvm_file.specs.TraceFile.{IsTraceFile}
use Rattle.nvm_file.proofs.TraceSpellings.{trace_takes}
use Rattle.nvm_file.proofs.TracesReturn.{trace_returns}
use Rattle.nvm_file.proofs.laws.spellings_are_traces.Goals as goal

pub returns-clause-read : goal.returns-clause-read
returns-clause-read c t can fit = trace_returns t can fit

pub returns-clause-alone : goal.returns-clause-alone
returns-clause-alone c bytes t are can fit = (
  (λ file. trace_takes bytes t (recursion_from_All _ bytes are) file),
  (λ same. subst (λ (l : List ℕ). IsTraceFile l t) (sym same) (trace_returns t can fit)),
)
