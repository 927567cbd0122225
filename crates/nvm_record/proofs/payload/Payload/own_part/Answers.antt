use Rattle.nvm_record.specs.SharedBytes.{shared_bytes}
use Rattle.nvm_record.proofs.PartsOfParts.{part_of_part}
use Rattle.nvm_record.proofs.payload.Payload.own_part.Goals as goal

pub returns : goal.returns
returns c =
    rw (c.in_ok-whole.ensures, ← c.self.view_is)
    (part_of_part (shared_bytes c.self.inside.whole) c.self.inside.from c.self.inside.to c.args.from c.args.to c.self.invariant.0 c.self.invariant.1 c.requires.ordered (rw c.self.view_is c.requires.within))
