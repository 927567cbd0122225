use Rattle.std.proofs.Common.{◌+◌, ◌∙◌, ap, sym, drop, get_or}
use Rattle.std.proofs.lemmas.List.{drop_more}
use Rattle.std.specs.Str.{all_ascii_digits}
use Rattle.nvm_list.specs.Numbers.{value_after}
use Rattle.nvm_list.proofs.NumberReading.{refused}
use Rattle.nvm_list.proofs.number_word.number.Goals as goal

pub returns-in_err-value : goal.returns-in_err-value
returns-in_err-value c =
    let word = c.args.word.now in
    let i = c.loop-byte.byte-index in
    let e = drop_more word i 0 c.loop-byte-test.true in
    rw c.from_residual.ensures (sym (refused c.args.most c.loop-byte.value (get_or word i 0) (drop (i + 1) word) word (sym c.in_err-value.ensures) (ap (value_after c.loop-byte.value) (sym e) ∙ c.loop-byte.invariant.value) (ap all_ascii_digits (sym e) ∙ c.loop-byte.invariant.digits)))
