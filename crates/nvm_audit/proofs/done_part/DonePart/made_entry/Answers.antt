use Rattle.std.proofs.Common.{◌<◌, ◌≤◌, length, ap, rules}
use Rattle.nvm_audit.specs.RecordedPart.{RecordedPart}
use Rattle.nvm_audit.proofs.Claiming.{made_there, none_made}
use Rattle.nvm_audit.proofs.done_part.DonePart.made_entry.Goals as goal

pub returns-then-point-len : goal.returns-then-point-len
returns-then-point-len c =
    let low : c.args.self.now.part.point < length c.args.history.now.items = search rules in
    made_there c.args.history.now.items c.args.self.now c.self.inside.part.point c.index.result.now c.made.result
    (ap (λ (p : RecordedPart). p.part.point) c.self.view_is) low c.index.ensures c.made.ensures

pub returns-else-point-len : goal.returns-else-point-len
returns-else-point-len c =
    let high : length c.args.history.now.items ≤ c.args.self.now.part.point = search rules in
    (search rules, λ h. absurd (none_made c.args.history.now.items c.args.self.now high h))
