use Rattle.std.proofs.Common.{◌<◌, length, arith}
use Rattle.std.proofs.lemmas.Result.{err_from_is_err_and}
use Rattle.nvm_list.specs.Words.{words_in}
use Rattle.nvm_list.specs.Options.{options}
use Rattle.nvm_list.proofs.OptionReading.{goes_on, stops, ends}
use Rattle.nvm_list.proofs.option_words.read_options.Goals as goal

pub returns-then-is_empty : goal.returns-then-is_empty
returns-then-is_empty c =
    ends c.args.ranges c.loop-word.options (words_in c.loop-word.rest.now) (options c.args.ranges (words_in c.args.words.now)) (c.first_word.ensures.none (grind arith)) c.loop-word.invariant

pub returns-in_err-options : goal.returns-in_err-options
returns-in_err-options c =
    let some : 0 < length c.first_word.result.0.now = grind arith in
    let p = err_from_is_err_and c.from_residual.result c.from_residual.ensures.1 in
    rw (p.1, p.2) (stops c.args.ranges c.loop-word.options c.in_err-options.field-0.0 c.first_word.result.0.now (words_in c.first_word.result.1.now) (words_in c.loop-word.rest.now) (options c.args.ranges (words_in c.args.words.now)) (c.first_word.ensures.some some) c.in_err-options.ensures c.loop-word.invariant)

pub loop-word-preserved : goal.loop-word-preserved
loop-word-preserved c =
    let some : 0 < length c.first_word.result.0.now = grind arith in
    goes_on c.args.ranges c.loop-word.options c.in_ok-options.options c.first_word.result.0.now (words_in c.first_word.result.1.now) (words_in c.loop-word.rest.now) (options c.args.ranges (words_in c.args.words.now)) (c.first_word.ensures.some some) c.in_ok-options.ensures c.loop-word.invariant
