use Rattle.std.proofs.Common.{◌<◌, length, get_or, arith}
use Rattle.std.proofs.lemmas.List.{get_or_read}
use Rattle.nvm_trace.proofs.Greatest.{raised_lower, raised_higher}
use Rattle.nvm_trace.proofs.raising.raise.Goals as goal
use Rattle.nvm_trace.proofs.raising.raise.Goals.{then-index-latest, else-index-latest}

pub loop-level-preserved : goal.loop-level-preserved
loop-level-preserved c =
    let old = c.args.row.now.items in
    let row = c.loop-level.row.items in
    let level = c.loop-level.level in
    let long = c.loop-level.invariant.long in
    let low : level < length row = omega (arith, long, c.loop-level-test.true, c.len-level-end.ensures) in
    let read = get_or_read row level c.index.result.now low c.index.ensures 0 in
    elim c.if-index-latest.branch [
      | then-index-latest w ↦
          let less = w.if-index-latest.true in
          let lower : get_or row level 0 < c.loop-level.latest = omega (arith, read, less) in
          rw (w.row-is, w.latest-is) (raised_lower old row level c.loop-level.latest c.loop-level.invariant low lower)
      | else-index-latest w ↦
          let most = w.if-index-latest.false in
          let read' = get_or_read row level w.index-latest.result.now low w.index-latest.ensures 0 in
          rw (w.row-is, w.latest-is)
          (raised_higher old row level c.loop-level.latest c.loop-level.invariant low w.index-latest.result.now read' (omega (arith, read, read', most)))
    ]

pub returns-clause-greatest : goal.returns-clause-greatest
returns-clause-greatest c = λ k low. c.loop-level.invariant.raised k (omega (arith, low, c.loop-level-test.false, c.len-level-end.ensures))
