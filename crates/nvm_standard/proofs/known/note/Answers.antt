use Rattle.std.proofs.Common.{inl, inr}
use Rattle.std.proofs.lemmas.Result.{on_ok_weaker}
use Rattle.nvm_standard.specs.Standing.{order}
use Rattle.nvm_standard.proofs.known.note.Goals as goal

pub returns-clause-noted : goal.returns-clause-noted
returns-clause-noted c =
    on_ok_weaker c.put_each_before_all.result
    (λ all x y has. elim (all (order x y) has) [
      | inl old ↦ inl old
      | inr both ↦ inr (c.in_ok-earliers.ensures x both.0, c.in_ok-laters.ensures y both.1)
    ]) c.put_each_before_all.ensures
