use Rattle.std.proofs.lemmas.List.Elements.{recursion_from_All}
use Rattle.nvm_file.proofs.RecordSpellings.{record_takes}
use Rattle.nvm_file.proofs.laws.files_are_spellings.Goals as goal

pub returns : goal.returns
returns c bytes r are file = record_takes bytes r (recursion_from_All _ bytes are) file
