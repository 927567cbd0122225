use Rattle.std.proofs.Common.{◌<◌, length, arith}
use Rattle.std.proofs.lemmas.List.{length-map}
use Rattle.std.proofs.lemmas.Option.{slice_get_within}
use Rattle.nvm_standard.specs.PointView.{seen, seen_table}
use Rattle.nvm_standard.specs.OrderView.{seen_order, seen_placed}
use Rattle.nvm_standard.proofs.Standing.{read_seen, placed_right, fits_its}
use Rattle.nvm_standard.proofs.positions.stands_at.Goals as goal

pub index-requires : goal.index-requires
index-requires c =
    let t = seen_table c.args.points.now in
    let o = seen_order c.args.order.now in
    let p = seen_placed c.index-placed.result.now in
    let at = read_seen seen_placed c.args.order.now.placed.items c.args.position c.index-placed.result.now c.requires.there c.index-placed.ensures in
    let right = placed_right t o c.args.position p c.requires.fits at in
    let inside : p.point < length t.points = slice_get_within t.points p.point right.point right.its in
    let same = length-map c.args.points.now.points.items seen in
    omega (arith, inside, same, c.args.points.now.points.ok)

pub returns-clause-stands : goal.returns-clause-stands
returns-clause-stands c =
    record {
      placed = read_seen seen_placed c.args.order.now.placed.items c.args.position c.index-placed.result.now c.requires.there c.index-placed.ensures;
      its =
          let t = seen_table c.args.points.now in
          let o = seen_order c.args.order.now in
          let p = seen_placed c.index-placed.result.now in
          let at = read_seen seen_placed c.args.order.now.placed.items c.args.position c.index-placed.result.now c.requires.there c.index-placed.ensures in
          let right = placed_right t o c.args.position p c.requires.fits at in
          let inside : p.point < length t.points = slice_get_within t.points p.point right.point right.its in
          let same = length-map c.args.points.now.points.items seen in
          let here : p.point < length c.args.points.now.points.items = omega (arith, inside, same) in
          read_seen seen c.args.points.now.points.items p.point c.index.result.now here c.index.ensures;
    }

pub returns-clause-fits : goal.returns-clause-fits
returns-clause-fits c =
    let t = seen_table c.args.points.now in
    let o = seen_order c.args.order.now in
    let p = seen_placed c.index-placed.result.now in
    let at = read_seen seen_placed c.args.order.now.placed.items c.args.position c.index-placed.result.now c.requires.there c.index-placed.ensures in
    let right = placed_right t o c.args.position p c.requires.fits at in
    let inside : p.point < length t.points = slice_get_within t.points p.point right.point right.its in
    let same = length-map c.args.points.now.points.items seen in
    let here : p.point < length c.args.points.now.points.items = omega (arith, inside, same) in
    fits_its t p (seen c.index.result.now) right (read_seen seen c.args.points.now.points.items p.point c.index.result.now here c.index.ensures)
