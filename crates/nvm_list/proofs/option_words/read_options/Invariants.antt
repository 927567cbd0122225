use Rattle.std.proofs.Common.{◌≡◌, length}
use Rattle.nvm_list.specs.Words.{words_in}
use Rattle.nvm_list.specs.Options.{options, options_after}
use Rattle.nvm_list.proofs.option_words.read_options.Given as goal

abbrev pub invariant-loop-word : goal.invariant-loop-word
invariant-loop-word l = options_after l.ranges l.options (words_in l.rest) ≡ options l.ranges (words_in l.words)

abbrev pub decreases-loop-word : goal.decreases-loop-word
decreases-loop-word l = length l.rest
