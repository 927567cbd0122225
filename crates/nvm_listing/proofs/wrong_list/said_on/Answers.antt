use Rattle.std.proofs.Common.{◌≡◌, ◌+◌, ap, ◌∙◌, sym, arith, length}
use Rattle.nvm_list.specs.Words.{words_in}
use Rattle.nvm_listing.specs.WrongLines.{said_on}
use Rattle.nvm_listing.proofs.wrong_list.said_on.Goals as goal

pub returns-then-is_empty : goal.returns-then-is_empty
returns-then-is_empty c =
    let none : length c.first_word.result.0.now ≡ 0 = grind arith in
    sym (ap (said_on c.args.size (c.args.before + 1)) (ap words_in (sym c.without_comment-words.ensures) ∙ c.first_word.ensures.none none))
