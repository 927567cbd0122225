use Rattle.std.proofs.Common.{◌≡◌, ◌∷◌, [], ◌++◌, ◌<◌, length, take, sym, ap, rules, arith}
use Rattle.std.proofs.lemmas.List.{length-take-le}
use Rattle.nvm_audit.specs.RecordedPart.{RecordedPart}
use Rattle.nvm_audit.proofs.Chained.{none_by_point}
use Rattle.nvm_audit.proofs.Places.{taken}
use Rattle.nvm_audit.proofs.by_point.by_point.Goals as goal

pub loop-k-init : goal.loop-k-init
loop-k-init c =
    let none : c.in_ok-before.before.items ≡ [] = search rules in
    none_by_point c.args.entries c.in_ok-last.last.items c.in_ok-before.before.items (c.in_ok-last.ensures.items_if_clones_equal (λ y e. e)) none

pub loop-k-preserved : goal.loop-k-preserved
loop-k-preserved c =
    let low : c.loop-k.k < length c.args.parts.now.items = search rules in
    let long : length (take c.loop-k.k c.args.parts.now.items) ≡ c.loop-k.k = length-take-le c.loop-k.k c.args.parts.now.items (omega arith) in
    let pushed : c.push.new.self.items ≡ c.loop-k.before.items ++ c.put_last-earlier.result ∷ [] = c.in_ok-push.ensures.items in
    let grown = c.put_last-earlier.ensures c.args.entries (take c.loop-k.k c.args.parts.now.items) c.index-part.result.now
    c.loop-k.before.items c.loop-k.invariant (sym (ap (λ (p : RecordedPart). p.part.point) c.part.view_is)) long in
    let more = taken c.args.parts.now.items c.loop-k.k c.index-part.result.now low c.index-part.ensures in
    rw (more, pushed) grown
