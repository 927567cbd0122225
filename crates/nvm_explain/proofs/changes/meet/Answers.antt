use Rattle.std.proofs.Common.{inl, inr, sym, ◌∙◌}
use Rattle.std.proofs.lemmas.Bool.{cases_Bool}
use Rattle.nvm_explain.proofs.Changed.{cut_gone, cut_there, none_left, some_left}
use Rattle.nvm_explain.proofs.changes.meet.Goals as goal

pub returns : goal.returns
returns c =
    elim (cases_Bool c.is_some.result) [
      | inl some ↦
          some ∙ sym (cut_there c.args.first c.args.blocks c.args.range (some_left c.cut.result _ _ c.cut.ensures (sym c.is_some.ensures ∙ some)))
      | inr none ↦
          none ∙ sym (cut_gone c.args.first c.args.blocks c.args.range (none_left c.cut.result _ _ c.cut.ensures (sym c.is_some.ensures ∙ none)))
    ]
