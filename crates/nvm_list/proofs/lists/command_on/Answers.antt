use Rattle.std.proofs.Common.{◌≡◌, ◌+◌, ap, ◌∙◌, sym, arith, length}
use Rattle.nvm_list.specs.Words.{words_in}
use Rattle.nvm_list.specs.Lists.{on_line}
use Rattle.nvm_list.proofs.lists.command_on.Goals as goal

pub returns-then-is_empty-clause-command : goal.returns-then-is_empty-clause-command
returns-then-is_empty-clause-command c =
    let none : length c.first_word.result.0.now ≡ 0 = grind arith in
    ap (on_line c.args.size c.args.line (c.args.before + 1)) (ap words_in (sym c.without_comment-words.ensures) ∙ c.first_word.ensures.none none)
