use Rattle.std.proofs.Common.{arith}
use Rattle.nvm_store.proofs.NumberTables.{one_row_more, read_at}
use Rattle.nvm_store.proofs.blocks.numbers.own_row.Goals as goal

pub index-requires : goal.index-requires
index-requires c = let long = c.requires.sound.long in rw c.args.table.now.ok.0 (omega (arith, c.requires.at, long))

pub returns-then-found-top-clause-row : goal.returns-then-found-top-clause-row
returns-then-found-top-clause-row c =
    let long = c.requires.sound.long in
    (c.if-found-top.true, read_at c.args.table.now.items c.args.at c.index.result.now (omega (arith, c.requires.at, long)) c.index.ensures)

pub overflow_cast-row : goal.overflow_cast-row
overflow_cast-row c =
    let grown = one_row_more c.args.top c.args.table.now.items c.resize.new.self.items c.args.at c.index.result.now c.len-row.result c.args.table.now.len
    c.requires.sound c.requires.at c.index.ensures c.if-found-top.false c.len-row.ensures c.args.table.now.ok.0 c.in_ok-resize.ensures.items in
    let fits = grown.fits in
    omega (arith, fits)

pub returns-clause-row : goal.returns-clause-row
returns-clause-row c =
    let grown = one_row_more c.args.top c.args.table.now.items c.resize.new.self.items c.args.at c.index.result.now c.len-row.result c.args.table.now.len
    c.requires.sound c.requires.at c.index.ensures c.if-found-top.false c.len-row.ensures c.args.table.now.ok.0 c.in_ok-resize.ensures.items in
    (grown.high, grown.at)

pub returns-clause-sound : goal.returns-clause-sound
returns-clause-sound c =
    (one_row_more c.args.top c.args.table.now.items c.resize.new.self.items c.args.at c.index.result.now c.len-row.result c.args.table.now.len
    c.requires.sound c.requires.at c.index.ensures c.if-found-top.false c.len-row.ensures c.args.table.now.ok.0 c.in_ok-resize.ensures.items).sound

pub returns-clause-same : goal.returns-clause-same
returns-clause-same c =
    (one_row_more c.args.top c.args.table.now.items c.resize.new.self.items c.args.at c.index.result.now c.len-row.result c.args.table.now.len
    c.requires.sound c.requires.at c.index.ensures c.if-found-top.false c.len-row.ensures c.args.table.now.ok.0 c.in_ok-resize.ensures.items).same
