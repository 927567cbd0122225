use Rattle.std.proofs.Common.{◌≡◌, ◌∷◌, [], ◌++◌, ◌+◌, ◌<◌, ◌≤◌, ℕ, length, get_or, set, sym, ap, subst, ◌∙◌, rules}
use Rattle.nvm_audit.specs.Inside.Audited.{AreByPoint}
use Rattle.nvm_audit.proofs.Chained.{put_here, put_past}
use Rattle.nvm_audit.proofs.by_point.put_last.Goals as goal

pub returns-then-point-len : goal.returns-then-point-len
returns-then-point-len c = λ entries parts p before old at long.
    let high : length c.args.last.now.items ≤ c.args.point = search rules in
    put_past parts p entries c.args.last.now.items before old (subst (λ (n : ℕ). length c.args.last.now.items ≤ n) (sym at) high)

pub returns : goal.returns
returns c = λ entries parts p before old at long.
    let low : c.args.point < length c.args.last.now.items = search rules in
    let was = c.index-before.result.now in
    let read : was ≡ get_or c.args.last.now.items c.args.point was = c.index-before.ensures in
    let grown = put_here parts p entries c.args.last.now.items before old c.args.count was long
    (subst (λ (n : ℕ). n < length c.args.last.now.items) (sym at) low)
    (read ∙ ap (λ (n : ℕ). get_or c.args.last.now.items n was) (sym at)) in
    subst (λ (n : ℕ). AreByPoint entries (parts ++ p ∷ []) (set c.args.last.now.items n (c.args.count + 1)) (before ++ was ∷ [])) at grown
