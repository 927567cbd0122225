use Rattle.nvm_file.proofs.SecondVerdict.{same_fault, same_verdict}
use Rattle.nvm_file.proofs.SecondVersion.{first_lawful, second_can, second_lawful}
use Rattle.nvm_file.proofs.laws.upgraded_records_are_judged_alike.Goals as goal

pub returns : goal.returns
returns c =
    record {
      lawful = λ r. (first_lawful r, second_lawful r);
      verdict = same_verdict;
      fault = same_fault;
      held = second_can;
    }
