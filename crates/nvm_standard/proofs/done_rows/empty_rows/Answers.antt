use Rattle.std.proofs.Common.{◌≡◌, ℕ, ◌∷◌, [], List, Some, length, map, slice_get, ap, sym, subst, ◌∙◌, arith}
use Rattle.std.proofs.lemmas.List.{length-map, map-append}
use Rattle.std.proofs.Math.ListN.{length-append}
use Rattle.nvm_standard.specs.PointView.{PointView, seen}
use Rattle.nvm_standard.specs.Inside.Done.{IsRowOf}
use Rattle.nvm_standard.proofs.RowsMore.{rows_push}
use Rattle.nvm_standard.proofs.Standing.{read_seen, some_same}
use Rattle.nvm_standard.proofs.done_rows.empty_rows.Goals as goal

pub loop-number-preserved : goal.loop-number-preserved
loop-number-preserved c =
    let rows = c.loop-number.rows.items in
    let new = c.in_ok-empty_row.field-0 in
    let points = c.args.points.now.points.items in
    let many = c.loop-number.invariant.many in
    let at = read_seen seen points c.loop-number.number c.index.result.now (omega arith) c.index.ensures in
    let long = length-map rows (λ row. row.items) in
    let e : length (map (λ row. row.items) rows) ≡ c.loop-number.number = long ∙ many in
    let items = ap (map (λ row. row.items)) c.in_ok-push.ensures.items ∙ map-append (λ row. row.items) rows (new ∷ []) in
    record {
      many = ap length c.in_ok-push.ensures.items ∙ omega (arith, length-append rows (new ∷ []), many);
      each = λ o n q row its here.
          rows_push o (map seen points) (map (λ row. row.items) rows) new.items
          (λ q0 at0.
          let at0' : slice_get (map seen points) c.loop-number.number ≡ Some q0 = subst (λ (m : ℕ). slice_get (map seen points) m ≡ Some q0) e at0 in
          let same : seen c.index.result.now ≡ q0 = some_same (seen c.index.result.now) q0 (sym at ∙ at0') in
          subst (λ (r : PointView). IsRowOf o 0 (length (map (λ row. row.items) rows)) r new.items) same
          (c.in_ok-empty_row.ensures o (length (map (λ row. row.items) rows))))
          (c.loop-number.invariant.each o) n q row its
          (subst (λ (xs : List (List ℕ)). slice_get xs n ≡ Some row) items here);
    }
