use Rattle.std.proofs.Common.{◌+◌, ◌<◌, length, map, sym, subst, arith}
use Rattle.std.proofs.lemmas.List.{length-map, map-set}
use Rattle.std.proofs.lemmas.Option.{slice_get_within}
use Rattle.nvm_standard.specs.PointView.{seen, seen_table}
use Rattle.nvm_standard.specs.Inside.Done.{AreRows}
use Rattle.nvm_standard.specs.OrderView.{seen_order, seen_placed}
use Rattle.nvm_standard.proofs.RowsMore.{free_of_present, rows_more, rows_same}
use Rattle.nvm_standard.proofs.Standing.{not_both, read_seen}
use Rattle.nvm_standard.proofs.done_rows.note_at.Goals as goal

pub returns-then-is_repeated-clause-noted : goal.returns-then-is_repeated-clause-noted
returns-then-is_repeated-clause-noted c = λ _.
    rows_same (seen_table c.args.points.now) (seen_order c.args.order.now) c.args.position (seen_placed c.stands_at.result.0.now)
    (seen c.stands_at.result.1.now) (map (λ row. row.items) c.args.rows.now.items) c.stands_at.ensures.stands
    (c.is_repeated.ensures.0 c.if-is_repeated.true) c.requires.rows

pub index_mut-requires : goal.index_mut-requires
index_mut-requires c =
    let t = seen_table c.args.points.now in
    let p = seen_placed c.stands_at.result.0.now in
    let inside : p.point < length t.points = slice_get_within t.points p.point (seen c.stands_at.result.1.now) c.stands_at.ensures.stands.its in
    let many = c.requires.rows.many in
    let long = length-map c.args.rows.now.items (λ row. row.items) in
    omega (arith, inside, many, long, c.args.rows.now.ok)

pub note-requires : goal.note-requires
note-requires c =
    let p = seen_placed c.stands_at.result.0.now in
    let q = seen c.stands_at.result.1.now in
    let rows = c.args.rows.now.items in
    let row = c.index_mut.result.now in
    let many = c.requires.rows.many in
    let t = seen_table c.args.points.now in
    let inside : p.point < length t.points = slice_get_within t.points p.point q c.stands_at.ensures.stands.its in
    let long = length-map rows (λ row. row.items) in
    let at = read_seen (λ row. row.items) rows p.point row (omega (arith, inside, many, long)) c.index_mut.ensures.value in
    let is = c.requires.rows.each p.point q row.items c.stands_at.ensures.stands.its at in
    let all = is.all (λ e. not_both c.is_repeated.result (c.is_repeated.ensures.1 e) c.if-is_repeated.false) in
    let from = c.stands_at.ensures.fits.from in
    let to = c.stands_at.ensures.fits.to in
    omega (arith, all, from, to)

pub returns-clause-noted : goal.returns-clause-noted
returns-clause-noted c = λ done.
    let t = seen_table c.args.points.now in
    let o = seen_order c.args.order.now in
    let p = seen_placed c.stands_at.result.0.now in
    let q = seen c.stands_at.result.1.now in
    let rows = c.args.rows.now.items in
    let row = c.index_mut.result.now in
    let many = c.requires.rows.many in
    let inside : p.point < length t.points = slice_get_within t.points p.point q c.stands_at.ensures.stands.its in
    let long = length-map rows (λ row. row.items) in
    let at = read_seen (λ row. row.items) rows p.point row (omega (arith, inside, many, long)) c.index_mut.ensures.value in
    subst (AreRows t o (c.args.position + 1)) (sym (map-set (λ row. row.items) rows p.point c.note.new.row))
    (rows_more t o c.args.position p q (map (λ row. row.items) rows) row.items c.note.new.row.items c.stands_at.ensures.stands c.stands_at.ensures.fits
    c.requires.rows at c.note.ensures.many c.note.ensures.below c.note.ensures.above (c.note.ensures.free done) (c.note.ensures.noted done))

pub returns-clause-enough : goal.returns-clause-enough
returns-clause-enough c = λ present.
    let t = seen_table c.args.points.now in
    let o = seen_order c.args.order.now in
    let p = seen_placed c.stands_at.result.0.now in
    let q = seen c.stands_at.result.1.now in
    let rows = c.args.rows.now.items in
    let row = c.index_mut.result.now in
    let many = c.requires.rows.many in
    let inside : p.point < length t.points = slice_get_within t.points p.point q c.stands_at.ensures.stands.its in
    let long = length-map rows (λ row. row.items) in
    let at = read_seen (λ row. row.items) rows p.point row (omega (arith, inside, many, long)) c.index_mut.ensures.value in
    c.note.ensures.enough
    (free_of_present t o c.args.position p q row.items c.stands_at.ensures.stands c.stands_at.ensures.fits
    (λ e. not_both c.is_repeated.result (c.is_repeated.ensures.1 e) c.if-is_repeated.false)
    (c.requires.rows.each p.point q row.items c.stands_at.ensures.stands.its at) present)
