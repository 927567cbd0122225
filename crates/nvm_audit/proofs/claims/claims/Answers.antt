use Rattle.std.proofs.Common.{◌≡◌, ◌<◌, ℕ, List, length, replicate, false, rules, sym, ap, subst, ◌∙◌}
use Rattle.nvm_audit.specs.Inside.Claims.{AreClaims}
use Rattle.nvm_audit.specs.RecordedPart.{RecordedPart}
use Rattle.nvm_audit.proofs.Claiming.{no_claims}
use Rattle.nvm_audit.proofs.Places.{taken}
use Rattle.nvm_audit.proofs.claims.claims.Goals as goal

pub loop-k-init : goal.loop-k-init
loop-k-init c =
    let long : c.len.result ≡ length c.args.history.now.items = search rules in
    no_claims c.args.history.now.items c.in_ok-claimed.claimed.items
    (c.in_ok-claimed.ensures.items_if_clones_equal (λ y e. e) ∙ ap (λ (n : ℕ). replicate n false) long)

pub loop-k-preserved : goal.loop-k-preserved
loop-k-preserved c =
    let low : c.loop-k.k < length c.args.parts.now.items = search rules in
    subst (λ (ps : List RecordedPart). AreClaims c.args.history.now.items ps c.claim.new.claimed.items)
    (sym (taken c.args.parts.now.items c.loop-k.k c.index.result.now low c.index.ensures))
    (c.claim.ensures _ c.loop-k.invariant)
