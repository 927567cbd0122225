use Rattle.std.proofs.Common.{◌≡◌, ℕ, ◌++◌, ◌∷◌, [], map, set, get_or, sym, ap, subst}
use Rattle.nvm_audit.specs.Inside.Grouped.{AreGrouped}
use Rattle.nvm_audit.specs.RecordedPart.{RecordedPart}
use Rattle.nvm_audit.proofs.Groups.{put_more}
use Rattle.nvm_audit.proofs.grouping.put.Goals as goal

pub returns-clause-grouped : goal.returns-clause-grouped
returns-clause-grouped c = λ units parts old.
    let groups = c.args.groups.now.items in
    let p = c.args.part in
    let unit : c.part.inside.part.unit ≡ p.part.unit = ap (λ (q : RecordedPart). q.part.unit) c.part.view_is in
    subst (λ (n : ℕ). AreGrouped units (parts ++ p ∷ []) (map (λ group. group.items) (set groups n c.push.new.self))) (sym unit)
    (put_more (λ group. group.items) units parts p groups c.index_mut.result.now c.push.new.self c.index_mut.result.now c.requires
    (subst (λ (n : ℕ). c.index_mut.result.now ≡ get_or groups n c.index_mut.result.now) unit c.index_mut.ensures.value)
    c.in_ok-push.ensures.items old)
