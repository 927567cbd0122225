use Rattle.std.proofs.Common.{◌≡◌, ◌≤◌, ◌+◌, ◌*◌, ◌∙◌, ℕ, ap, sym, drop, get_or, subst}
use Rattle.std.proofs.lemmas.List.{drop_more}
use Rattle.nvm_commands.specs.Numbers.{digit_value, value_after}
use Rattle.nvm_commands.proofs.NumberReading.{grows, none_above}
use Rattle.nvm_commands.proofs.front.number_word.value_of.Goals as goal

pub returns-in_err-value : goal.returns-in_err-value
returns-in_err-value c =
    let radix = c.args.radix in
    let digits = c.args.digits.now in
    let i = c.loop-byte.byte-index in
    let byte = get_or digits i 0 in
    let rest = drop (i + 1) digits in
    let m : ℕ = c.loop-byte.value * radix + digit_value byte in
    let whole : value_after radix m rest ≡ value_after radix 0 digits =
    ap (value_after radix c.loop-byte.value) (sym (drop_more digits i 0 c.loop-byte-test.true)) ∙ c.loop-byte.invariant.value in
    let above : m ≤ value_after radix 0 digits = subst (λ (n : ℕ). m ≤ n) whole (grows radix m rest c.requires) in
    rw c.from_residual.ensures (sym (none_above m (value_after radix 0 digits) (sym c.in_err-value.ensures) above))
