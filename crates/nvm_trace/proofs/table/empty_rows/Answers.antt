use Rattle.std.proofs.Common.{◌≡◌, ◌++◌, ◌∷◌, [], ◌+◌, ◌*◌, ◌<◌, ℕ, List, length, map, take, get_or, replicate, sym, ap, ◌∙◌, arith}
use Rattle.std.proofs.lemmas.List.{length-map, get_or-map, map-append}
use Rattle.nvm_store.specs.HistoryEntry.{HistoryEntry}
use Rattle.nvm_trace.specs.Inside.Table.{empty_row}
use Rattle.nvm_trace.proofs.Gathered.{taken}
use Rattle.nvm_trace.proofs.table.empty_rows.Goals as goal

pub loop-unit-preserved : goal.loop-unit-preserved
loop-unit-preserved c =
    let units = c.args.units.now.items in
    let all : List (List HistoryEntry) = map (λ history. history.items) units in
    let unit = c.loop-unit.unit in
    let history = c.index.result.now in
    let low : unit < length units = omega (arith, c.loop-unit-test.true, c.len-unit-end.ensures) in
    let long = length-map units (λ history. history.items) in
    let read : history.items ≡ get_or all unit history.items =
    ap (λ h. h.items) c.index.ensures ∙ sym (get_or-map (λ history. history.items) units unit history history.items low) in
    let row : c.in_ok-empty_row.field-0.items ≡ empty_row history.items =
    c.in_ok-empty_row.ensures ∙ ap (λ (n : ℕ). replicate (2 * n + 1) 0) (omega (arith, c.len-in-loop-unit.ensures)) in
    ap (λ rows. map (λ row. row.items) rows) c.in_ok-push.ensures.items
    ∙ map-append (λ row. row.items) c.loop-unit.rows.items (c.in_ok-empty_row.field-0 ∷ [])
    ∙ ap (λ (rows : List (List ℕ)). rows ++ c.in_ok-empty_row.field-0.items ∷ []) c.loop-unit.invariant
    ∙ ap (λ (r : List ℕ). map empty_row (take unit all) ++ r ∷ []) row
    ∙ sym (map-append empty_row (take unit all) (history.items ∷ []))
    ∙ ap (λ (hs : List (List HistoryEntry)). map empty_row hs) (sym (taken all unit history.items (omega (arith, low, long)) read))
