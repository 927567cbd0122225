use Rattle.std.proofs.Common.{◌+◌, ◌*◌, ◌<◌, ◌≤◌, arith}
use Rattle.nvm_engine.proofs.NumberDigits.{one_digit, two_digits, three_digits, four_digits}
use Rattle.nvm_engine.proofs.under_line.leading_zeroes.Goals as goal

pub returns-then-number-lt16-clause-others : goal.returns-then-number-lt16-clause-others
returns-then-number-lt16-clause-others c =
    let low : c.args.sct * 256 + c.args.sc < 16 = omega (arith, c.from.ensures, c.from-2.ensures, c.if-number-lt16.true) in
    one_digit c.args.sct c.args.sc c.ranges.sct.fits c.ranges.sc.fits low

pub returns-then-number-lt256-clause-others : goal.returns-then-number-lt256-clause-others
returns-then-number-lt256-clause-others c =
    let high : 16 ≤ c.args.sct * 256 + c.args.sc = omega (arith, c.from.ensures, c.from-2.ensures, c.if-number-lt16.false) in
    let low : c.args.sct * 256 + c.args.sc < 256 = omega (arith, c.from.ensures, c.from-2.ensures, c.if-number-lt256.true) in
    two_digits c.args.sct c.args.sc c.ranges.sct.fits c.ranges.sc.fits high low

pub returns-then-number-lt4096-clause-others : goal.returns-then-number-lt4096-clause-others
returns-then-number-lt4096-clause-others c =
    let high : 256 ≤ c.args.sct * 256 + c.args.sc = omega (arith, c.from.ensures, c.from-2.ensures, c.if-number-lt256.false) in
    let low : c.args.sct * 256 + c.args.sc < 4096 = omega (arith, c.from.ensures, c.from-2.ensures, c.if-number-lt4096.true) in
    three_digits c.args.sct c.args.sc c.ranges.sct.fits c.ranges.sc.fits high low

pub returns-else-number-lt4096-clause-others : goal.returns-else-number-lt4096-clause-others
returns-else-number-lt4096-clause-others c =
    let high : 4096 ≤ c.args.sct * 256 + c.args.sc = omega (arith, c.from.ensures, c.from-2.ensures, c.if-number-lt4096.false) in
    four_digits c.args.sct c.args.sc c.ranges.sct.fits c.ranges.sc.fits high
