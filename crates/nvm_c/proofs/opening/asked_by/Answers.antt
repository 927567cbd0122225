use Rattle.std.proofs.Common.{inl, refl}
use Rattle.std.proofs.lemmas.Bool.{ne_eqb}
use Rattle.nvm_c.proofs.opening.asked_by.Goals as goal

pub returns-in_default-new-clause-refused : goal.returns-in_default-new-clause-refused
returns-in_default-new-clause-refused c =
    inl (refl, rw (ne_eqb c.args.limit 0 c.if-limit-eq0.false) (c.in_default-new.field-0, c.in_default-new.ensures.refused))
