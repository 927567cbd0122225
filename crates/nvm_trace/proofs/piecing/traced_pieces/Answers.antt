use Rattle.std.proofs.Common.{◌∙◌, length, ap, arith}
use Rattle.std.proofs.lemmas.List.{length-map}
use Rattle.nvm_trace.specs.Pieces.{piece, pieces}
use Rattle.nvm_trace.proofs.Topped.{take_whole}
use Rattle.nvm_trace.proofs.piecing.traced_pieces.Goals as goal

pub returns-then-len-lt18446744073709551615 : goal.returns-then-len-lt18446744073709551615
returns-then-len-lt18446744073709551615 c =
    let held = length-map c.in_ok-owners.owners.items (λ o. piece o.whole.now o.cut) in
    let same = ap length c.in_ok-owners.ensures in
    c.in_ok-owners.ensures
    ∙ take_whole 18446744073709551615 (pieces c.args.judging c.args.trace.now)
    (omega (arith, held, same, c.len.ensures, c.if-len-lt18446744073709551615.true))
