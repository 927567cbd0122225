use Rattle.std.proofs.Common.{◌≡◌, ℕ, ◌<◌, inl, inr, Some, length, map, slice_get, sym, subst, arith}
use Rattle.std.proofs.lemmas.List.{length-map}
use Rattle.std.proofs.lemmas.Option.{slice_get_within}
use Rattle.nvm_standard.specs.PointView.{seen, seen_table}
use Rattle.nvm_standard.specs.Inside.Right.{KeepsTiedOne}
use Rattle.nvm_standard.specs.OrderView.{seen_order}
use Rattle.nvm_standard.specs.Presence.{IsPresent}
use Rattle.nvm_standard.proofs.Standing.{earlier_or_last}
use Rattle.nvm_standard.proofs.Tied.{tied_all}
use Rattle.nvm_standard.proofs.checking.check_points.Goals as goal

pub loop-number-preserved : goal.loop-number-preserved
loop-number-preserved c =
    let t = seen_table c.args.points.now in
    let o = seen_order c.args.order.now in
    let k = c.loop-number.number in
    record {
      present = λ n q less its.
          elim (earlier_or_last n k less) [
            | inl h ↦ c.loop-number.invariant.present n q h its
            | inr e ↦
                subst (λ (m : ℕ). IsPresent o m q) (sym e)
                (c.in_ok-check_point.ensures.present q (subst (λ (m : ℕ). slice_get t.points m ≡ Some q) e its))
          ];
      tied = λ n less.
          elim (earlier_or_last n k less) [
            | inl h ↦ c.loop-number.invariant.tied n h
            | inr e ↦ subst (KeepsTiedOne t o) (sym e) c.in_ok-check_point.ensures.tied
          ];
    }

pub returns-clause-present : goal.returns-clause-present
returns-clause-present c = λ n q its.
    let points = c.args.points.now.points.items in
    let inside : n < length (map seen points) = slice_get_within (map seen points) n q its in
    c.loop-number.invariant.present n q (omega (arith, inside, length-map points seen, c.loop-number-test.false)) its

pub returns-clause-tied : goal.returns-clause-tied
returns-clause-tied c =
    let t = seen_table c.args.points.now in
    let points = c.args.points.now.points.items in
    tied_all t (seen_order c.args.order.now)
    (λ n inside. c.loop-number.invariant.tied n (omega (arith, inside, length-map points seen, c.loop-number-test.false)))
