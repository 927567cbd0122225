use Rattle.std.proofs.Common.{◌≡◌, refl, sym, subst, ◌∙◌, Some}
use Rattle.nvm_store.specs.Contents.{Contents, Holds}
use Rattle.nvm_store.specs.Look.{look_operation_of}
use Rattle.nvm_unit.proofs.Recalling.{wants_data}
use Rattle.nvm_unit.proofs.attempt.looked.Goals as goal

pub returns-in-Ok : goal.returns-in-Ok
returns-in-Ok c =
    (c.if-count-entries.false ∙ c.entries.ensures, c.in-Ok.ensures.point, _, c.in-Some.ensures, λ m holds. (c.in-Ok.ensures.answer m holds).1)

pub returns-in-Err : goal.returns-in-Err
returns-in-Err c = (
  c.if-count-entries.false ∙ c.entries.ensures,
  refl,
  λ u is m holds.
      let both : Some u ≡ Some c.in-Some.version.now = sym is ∙ c.in-Some.ensures in
      let same : u ≡ c.in-Some.version.now = cc in
      wants_data c.in-Err.field-0 c.args.count (look_operation_of c.args.look) m (c.in-Err.ensures.answer m (subst (λ (x : Contents). Holds x m) same holds)),
)
