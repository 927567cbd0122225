use Rattle.std.proofs.Common.{refl}
use Rattle.nvm_standard.specs.PointView.{seen_table}
use Rattle.nvm_standard.proofs.Deriving.{all_derived}
use Rattle.nvm_standard.proofs.Sound.{contradicted}
use Rattle.nvm_standard.proofs.contradicting.contradicts.Goals as goal

pub returns-then-is_absurd-clause-derived : goal.returns-then-is_absurd-clause-derived
returns-then-is_absurd-clause-derived c =
    all_derived (seen_table c.args.points.now) c.args.contradiction.now.facts.items c.in_ok-known.known
    c.args.contradiction.now.conclusion c.in_ok-known.ensures (c.if-is_absurd.ensures refl)

pub returns-then-is_absurd-clause-contradicted : goal.returns-then-is_absurd-clause-contradicted
returns-then-is_absurd-clause-contradicted c =
    contradicted (seen_table c.args.points.now) c.args.contradiction.now.facts.items c.args.contradiction.now.conclusion
    (returns-then-is_absurd-clause-derived c)
