use Rattle.std.proofs.Common.{◌≡◌, ◌++◌, ◌∷◌, [], List, ℕ, map, set, get_or, max, length, sym, ap, subst, ◌∙◌, arith, length-set}
use Rattle.std.proofs.lemmas.List.{map-set, length-map}
use Rattle.nvm_trace.specs.Order.{level_of}
use Rattle.nvm_trace.specs.Inside.Latest.{HasRoom, HasEachLevel}
use Rattle.nvm_trace.proofs.Latest.{row_of, row_read, room_after, noted}
use Rattle.nvm_trace.proofs.timing.note.Goals as goal

pub returns-clause-room : goal.returns-clause-room
returns-clause-room c = λ s room.
    let all = c.args.rows.now.items in
    let rows = map (λ row. row.items) all in
    let unit = c.args.step.now.unit in
    let low = c.requires.0 in
    let read = row_read (λ row. row.items) all unit c.index_mut.result.now (omega (arith, low, length-map all (λ row. row.items))) c.index_mut.ensures.value in
    subst (λ (gs : List (List ℕ)). HasRoom gs s) (sym (map-set (λ row. row.items) all unit c.note_at.new.row))
    (room_after rows unit c.note_at.new.row.items low
    (ap length c.note_at.ensures ∙ length-set c.index_mut.result.now.items c.level.result (max (get_or c.index_mut.result.now.items c.level.result 0) c.args.step.now.began) ∙ ap length read) s room)

pub returns-clause-noted : goal.returns-clause-noted
returns-clause-noted c = λ steps old.
    let all = c.args.rows.now.items in
    let rows = map (λ row. row.items) all in
    let step = c.args.step.now in
    let unit = step.unit in
    let low = c.requires.0 in
    let read = row_read (λ row. row.items) all unit c.index_mut.result.now (omega (arith, low, length-map all (λ row. row.items))) c.index_mut.ensures.value in
    let new : c.note_at.new.row.items ≡ set (row_of rows unit) (level_of step) (max (get_or (row_of rows unit) (level_of step) 0) step.began) =
    c.note_at.ensures ∙ ap (λ (n : ℕ). set c.index_mut.result.now.items n (max (get_or c.index_mut.result.now.items n 0) step.began)) c.level.ensures
    ∙ ap (λ (row : List ℕ). set row (level_of step) (max (get_or row (level_of step) 0) step.began)) read in
    subst (λ (gs : List (List ℕ)). HasEachLevel (steps ++ step ∷ []) gs)
    (ap (λ (row : List ℕ). set rows unit row) (sym new) ∙ sym (map-set (λ row. row.items) all unit c.note_at.new.row))
    (noted steps rows step c.requires old)
