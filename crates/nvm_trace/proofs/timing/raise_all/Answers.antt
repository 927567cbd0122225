use Rattle.std.proofs.Common.{◌≡◌, ◌+◌, ◌<◌, List, ℕ, map, take, length, get_or, sym, ap, subst, ◌∙◌, arith}
use Rattle.std.proofs.lemmas.List.{map-set, length-map}
use Rattle.nvm_trace.specs.Inside.Latest.{greatest, AreRaisedTo}
use Rattle.nvm_trace.proofs.Latest.{row_read, raised_begin, raised_row, all_raised, room_raised}
use Rattle.nvm_trace.proofs.timing.raise_all.Goals as goal

pub loop-unit-init : goal.loop-unit-init
loop-unit-init c = raised_begin (map (λ row. row.items) c.args.rows.now.items)

pub loop-unit-preserved : goal.loop-unit-preserved
loop-unit-preserved c =
    let old = map (λ row. row.items) c.args.rows.now.items in
    let all = c.loop-unit.rows.items in
    let rows = map (λ row. row.items) all in
    let unit = c.loop-unit.unit in
    let same = length-map all (λ row. row.items) in
    let first = length-map c.args.rows.now.items (λ row. row.items) in
    let long = c.loop-unit.invariant.long in
    let low : unit < length all = omega (arith, long, same, first, c.loop-unit-test.true, c.len-unit-end.ensures) in
    let read = row_read (λ row. row.items) all unit c.index_mut.result.now low c.index_mut.ensures.value in
    let new = c.raise.new.row.items in
    subst (λ (gs : List (List ℕ)). AreRaisedTo old gs (unit + 1)) (sym (map-set (λ row. row.items) all unit c.raise.new.row))
    (raised_row old rows unit new c.loop-unit.invariant (omega (arith, low, same)) (c.raise.ensures.long ∙ ap length read)
    (subst (λ (r : List ℕ). (k : ℕ) → k < length r → get_or new k 0 ≡ greatest (take (k + 1) r)) read c.raise.ensures.greatest))

pub returns-clause-room : goal.returns-clause-room
returns-clause-room c =
    room_raised (map (λ row. row.items) c.args.rows.now.items) (map (λ row. row.items) c.loop-unit.rows.items) c.loop-unit.unit c.loop-unit.invariant

pub returns-clause-raised : goal.returns-clause-raised
returns-clause-raised c = λ steps each.
    let first = length-map c.args.rows.now.items (λ row. row.items) in
    all_raised steps (map (λ row. row.items) c.args.rows.now.items) (map (λ row. row.items) c.loop-unit.rows.items) c.loop-unit.unit c.loop-unit.invariant
    (omega (arith, first, c.loop-unit-test.false, c.len-unit-end.ensures)) each
