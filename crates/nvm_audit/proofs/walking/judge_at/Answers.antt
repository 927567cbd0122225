use Rattle.std.proofs.Common.{◌≡◌, ◌+◌, ◌-◌, ℕ, sym, subst, arith}
use Rattle.nvm_store.specs.Contents.{Holds}
use Rattle.nvm_store.specs.Point.{point}
use Rattle.nvm_audit.specs.Inside.Audited.{view_of_shown}
use Rattle.nvm_audit.proofs.Findings.{judging_begins, judging_goes_on, last_of_point, one_before}
use Rattle.nvm_audit.proofs.walking.judge_at.Goals as goal

pub loop-at-init : goal.loop-at-init
loop-at-init c =
    let u = view_of_shown c.args.u.now in
    judging_begins u c.args.n c.index-at.result.now c.args.findings.now.items c.requires.each c.requires.judged
    (last_of_point u c.args.by_point.now.last.items c.args.by_point.now.before.items c.requires.by_point c.args.n
    c.index-at.result.now c.requires.within c.index-at.ensures)

pub loop-at-smaller : goal.loop-at-smaller
loop-at-smaller c =
    let u = view_of_shown c.args.u.now in
    let within = (one_before u c.args.n c.loop-at.at (c.loop-at.at - 1) c.index-at-in-loop-at.result.now c.loop-at.findings.items
    c.args.by_point.now.last.items c.args.by_point.now.before.items c.requires.by_point c.requires.within c.loop-at.invariant (omega arith)
    c.index-at-in-loop-at.ensures).within in
    omega (arith, within)

pub loop-at-preserved : goal.loop-at-preserved
loop-at-preserved c =
    let u = view_of_shown c.args.u.now in
    let k = c.loop-at.at - 1 in
    let one : c.loop-at.at ≡ k + 1 = omega arith in
    judging_goes_on u c.args.n c.loop-at.at k c.index-at-in-loop-at.result.now c.loop-at.findings.items c.finding.result one
    c.loop-at.invariant
    (λ p at.
    let here = c.loop-at.invariant.there k p one at in
    let within = c.requires.within in
    c.finding.ensures p at (omega (arith, here, within))
    (subst (λ (n : ℕ). Holds c.args.blocks.now (point u.namespace.block_size u.history n)) (sym here) c.requires.held))
    (one_before u c.args.n c.loop-at.at k c.index-at-in-loop-at.result.now c.loop-at.findings.items
    c.args.by_point.now.last.items c.args.by_point.now.before.items c.requires.by_point c.requires.within c.loop-at.invariant one
    c.index-at-in-loop-at.ensures)
