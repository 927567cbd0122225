use Rattle.std.proofs.lemmas.List.Elements.{recursion_from_All}
use Rattle.nvm_file.proofs.TraceSpellings.{trace_takes}
use Rattle.nvm_file.proofs.laws.trace_files_are_spellings.Goals as goal

pub returns : goal.returns
returns c bytes t are file = trace_takes bytes t (recursion_from_All _ bytes are) file
