use Rattle.std.proofs.Common.{◌+◌, ◌≤◌, length, arith, ◌∙◌}
use Rattle.nvm_record.specs.PayloadRef.{lent_bytes}
use Rattle.nvm_record.proofs.PartsOfParts.{part_of_lent}
use Rattle.nvm_record.proofs.payload_ref.PayloadRef.part.Goals as goal

pub lend_part-requires-clause-within : goal.lend_part-requires-clause-within
unfolding lent_bytes
lend_part-requires-clause-within c =
    let within : c.args.self.from + length c.args.self.bytes.now ≤ length c.in-Some.payload.now = c.args.self.within c.in-Some.payload c.in-Some.is in
    omega (arith, within, c.requires.within)

pub returns-in-Some : goal.returns-in-Some
unfolding lent_bytes
returns-in-Some c =
    let lent = c.args.self in
    let payload = c.in-Some.payload in
    c.lend_part.ensures ∙ part_of_lent payload.now lent.bytes.now lent.from c.args.from c.args.to (lent.within payload c.in-Some.is)
    (lent.part payload c.in-Some.is) c.requires.ordered c.requires.within
