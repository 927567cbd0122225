use Rattle.std.proofs.Common.{ℕ, List, ◌++◌, ap, ◌∙◌}
use Rattle.nvm_engine.specs.VerdictLine.{answer_line}
use Rattle.nvm_c.specs.Audited.{code_of}
use Rattle.nvm_c.proofs.auditing.ruling.Goals as goal

pub returns-in-Ok : goal.returns-in-Ok
returns-in-Ok c =
    let answer = c.in_ok-judged.judged in
    let ensured = c.in_ok-judged.ensures in
    record {
      answer = answer;
      judged = ensured.judged;
      code_is = c.code_of.ensures;
      line_is = c.in-Ok.ensures.whole ∙ ap (λ (xs : List ℕ). xs ++ answer_line answer) c.new-line.ensures.items;
      accepted = λ lawful. let told = ensured.accepted lawful in c.code_of.ensures ∙ ap code_of told.1;
      named = λ first h. let told = ensured.named first h in (c.code_of.ensures ∙ ap code_of told, told);
    }
