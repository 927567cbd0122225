use Rattle.std.proofs.Common.{◌≡◌, List, [], Result, ◌∙◌, sym, subst}
use Rattle.std.proofs.lemmas.Result.{IfOk-weaker}
use Rattle.nvm_record.specs.declared.command.Command.{Command}
use Rattle.nvm_list.specs.Words.{text_lines}
use Rattle.nvm_list.specs.declared.fault.ListFault.{ListFault}
use Rattle.nvm_listing.specs.WrongLines as spec
use Rattle.nvm_listing.specs.declared.wrong_list.WrongLine.{WrongLine}
use Rattle.nvm_listing.proofs.WrongBehind.{Agree, agree_from}
use Rattle.nvm_listing.proofs.wrong_list.wrong_lines.Goals as goal

pub returns-clause-none : goal.returns-clause-none
returns-clause-none c = λ cs read.
    let agree = agree_from c.args.size 1 1 (text_lines c.args.text.now) in
    let none : spec.wrong_lines c.args.size c.args.text.now ≡ [] =
    subst (λ (found : Result (List Command) ListFault). Agree found (spec.wrong_lines c.args.size c.args.text.now)) read agree in
    IfOk-weaker c.wrong_from.result _ _ (λ wrong lines. lines ∙ none) c.wrong_from.ensures

pub returns-clause-first : goal.returns-clause-first
returns-clause-first c = λ fault read.
    let agree = agree_from c.args.size 1 1 (text_lines c.args.text.now) in
    let begin : spec.BeginWith fault (spec.wrong_lines c.args.size c.args.text.now) =
    subst (λ (found : Result (List Command) ListFault). Agree found (spec.wrong_lines c.args.size c.args.text.now)) read agree in
    IfOk-weaker c.wrong_from.result _ _
    (λ wrong lines. subst (λ (all : List WrongLine). spec.BeginWith fault all) (sym lines) begin) c.wrong_from.ensures
