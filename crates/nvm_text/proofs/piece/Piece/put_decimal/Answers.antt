use Rattle.std.proofs.Common.{◌+◌, ◌≤◌, ◌++◌, ◌∙◌, ap, arith, decimal, drop, length, length-append, length-drop, rules, subst, sym}
use Rattle.std.proofs.lemmas.Fmt.{length-decimal-le}
use Rattle.nvm_text.proofs.piece.Piece.put_decimal.Goals as goal

pub write_digits-self-inside-requires : goal.write_digits-self-inside-requires
write_digits-self-inside-requires c =
    let short : length (decimal c.args.number) ≤ 20 = search (rules, length-decimal-le 20) in
    let standing = c.self.inside in
    let room : length (drop standing.start standing.bytes) + 20 ≤ 80 = subst (λ l. length l + 20 ≤ 80) (sym c.self.view_is) c.requires in
    (omega (arith, short, room, c.self.told, c.self.invariant, length-drop standing.start standing.bytes), search rules)

pub returns-clause-room : goal.returns-clause-room
returns-clause-room c =
    let short : length (decimal c.args.number) ≤ 20 = search (rules, length-decimal-le 20) in
    let standing = c.self.inside in
    let old = c.args.self.now in
    let text = c.write_digits-self-inside.ensures.written ∙ ap (λ l. decimal c.args.number ++ l) c.self.view_is in
    let room : length (decimal c.args.number ++ old) ≤ length old + 20 = omega (arith, short, length-append (decimal c.args.number) old) in
    subst (λ l. length l ≤ length old + 20) (sym text) room
