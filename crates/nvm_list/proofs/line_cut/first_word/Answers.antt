use Rattle.std.proofs.Common.{◌∙◌, ap}
use Rattle.nvm_list.specs.Words.{words_in, first, others}
use Rattle.nvm_list.proofs.Cutting.{word_of, some_word, no_word}
use Rattle.nvm_list.proofs.line_cut.first_word.Goals as goal

pub returns-clause-word : goal.returns-clause-word
returns-clause-word c =
    let text = c.without_blanks-text in
    let at = word_of text.result.now c.word_length.result text.ensures.word c.word_length.ensures.place c.word_length.ensures.within in
    c.split_at.ensures.front ∙ at.word ∙ ap first text.ensures.words

pub returns-clause-others : goal.returns-clause-others
returns-clause-others c =
    let text = c.without_blanks-text in
    let at = word_of text.result.now c.word_length.result text.ensures.word c.word_length.ensures.place c.word_length.ensures.within in
    ap words_in c.split_at.ensures.back ∙ at.behind ∙ ap others text.ensures.words

pub returns-clause-some : goal.returns-clause-some
returns-clause-some c =
    let text = c.without_blanks-text in
    let at = word_of text.result.now c.word_length.result text.ensures.word c.word_length.ensures.place c.word_length.ensures.within in
    λ some. some_word c.split_at.result.0.now c.args.bytes.now c.split_at.result.1.now (c.split_at.ensures.front ∙ at.word ∙ ap first text.ensures.words) (ap words_in c.split_at.ensures.back ∙ at.behind ∙ ap others text.ensures.words) some

pub returns-clause-none : goal.returns-clause-none
returns-clause-none c =
    let text = c.without_blanks-text in
    let at = word_of text.result.now c.word_length.result text.ensures.word c.word_length.ensures.place c.word_length.ensures.within in
    λ none. no_word c.split_at.result.0.now c.args.bytes.now (c.split_at.ensures.front ∙ at.word ∙ ap first text.ensures.words) none
