use Rattle.std.proofs.Common.{sym, subst, List, ℕ}
use Rattle.std.proofs.lemmas.List.Elements.{recursion_from_All}
use Rattle.nvm_file.specs.RecordFile.{IsRecordFile}
use Rattle.nvm_file.proofs.RecordSpellings.{record_takes}
use Rattle.nvm_file.proofs.RecordsReturn.{record_returns}
use Rattle.nvm_file.proofs.laws.spellings_are_files.Goals as goal

pub returns-clause-read : goal.returns-clause-read
returns-clause-read c r can fit = record_returns c.each_unit_has_one_place.ensures.place c.each_unit_has_one_place.ensures.one r can fit

pub returns-clause-alone : goal.returns-clause-alone
returns-clause-alone c bytes r are can fit = (
  (λ file. record_takes bytes r (recursion_from_All _ bytes are) file),
  (λ same. subst (λ (l : List ℕ). IsRecordFile l r) (sym same)
      (record_returns c.each_unit_has_one_place.ensures.place c.each_unit_has_one_place.ensures.one r can fit)),
)
