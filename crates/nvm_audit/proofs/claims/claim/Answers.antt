use Rattle.std.proofs.Common.{◌≡◌, ◌∷◌, [], ◌++◌, ℕ, set, true, refl, sym, ap, subst, arith}
use mathlib.Core.Bool.{true≢false}
use Rattle.nvm_audit.specs.Inside.Claims.{AreClaims}
use Rattle.nvm_audit.specs.RecordedPart.{RecordedPart}
use Rattle.nvm_audit.proofs.Claiming.{claims_one, claims_none}
use Rattle.nvm_audit.proofs.Standing.{below}
use Rattle.nvm_audit.proofs.claims.claim.Goals as goal

pub index_mut-requires : goal.index_mut-requires
index_mut-requires c =
    let made = c.if-made_entry.ensures.0 refl in
    let low = below c.args.history.now.items c.args.part.now.part.point made.0 made.1 in
    let same : c.part.inside.part.point ≡ c.args.part.now.part.point = ap (λ (p : RecordedPart). p.part.point) c.part.view_is in
    let whole = c.requires in
    omega (arith, low, same, whole)

pub returns-then-made_entry : goal.returns-then-made_entry
returns-then-made_entry c = λ parts old.
    let same : c.part.inside.part.point ≡ c.args.part.now.part.point = ap (λ (p : RecordedPart). p.part.point) c.part.view_is in
    subst (λ (n : ℕ). AreClaims c.args.history.now.items (parts ++ c.args.part.now ∷ []) (set c.args.claimed.now.items n true))
    (sym same)
    (claims_one c.args.history.now.items parts c.args.part.now c.args.claimed.now.items old (c.if-made_entry.ensures.0 refl))

pub returns-else-made_entry : goal.returns-else-made_entry
returns-else-made_entry c = λ parts old.
    claims_none c.args.history.now.items parts c.args.part.now c.args.claimed.now.items old
    (λ h. true≢false (sym (c.if-made_entry.ensures.1 h)))
