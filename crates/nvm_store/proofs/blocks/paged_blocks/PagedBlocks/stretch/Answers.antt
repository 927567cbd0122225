use Rattle.std.proofs.Common.{◌+◌, ◌*◌, ◌/◌, ◌%◌, ◌≤◌, ◌<◌, arith}
use Rattle.nvm_store.specs.Inside.Rewrite.{stretch_of}
use Rattle.nvm_store.proofs.Gathering.{all_there}
use Rattle.nvm_store.proofs.GatheredStretches.{counted_stretch, length_paged, low_range, parts_of, place_of_page}
use Rattle.nvm_store.proofs.blocks.paged_blocks.PagedBlocks.stretch.Goals as goal

pub returns-clause-fits : goal.returns-clause-fits
returns-clause-fits c =
    let own = c.self.inside in
    low_range own.count own.pages own.numbers c.args.from c.args.most c.self.invariant (rw (← c.self.view_is) at c.requires.range)

pub returns-clause-is : goal.returns-clause-is
returns-clause-is c =
    let count = c.self.inside.count in
    let pages = c.self.inside.pages in
    let numbers = c.self.inside.numbers in
    let from = c.args.from in
    let range : from + c.args.most ≤ count = rw (← c.self.view_is, length_paged count pages numbers c.self.invariant) at c.requires.range in
    let some : from < count = omega (arith, range, c.requires.some) in
    let lies = place_of_page count pages numbers from c.self.invariant some in
    let there = all_there 8 _ pages.list numbers c.self.invariant.paged.gathered in
    let within = lies.within in
    rw (← c.self.view_is)
    (counted_stretch 8 pages.list numbers count from (from / 8) c.at-page.result (from % 8) c.min.result there c.at-page.ensures.is
    (omega (arith, c.min.ensures, within)) lies.is (omega (arith, c.min.ensures, range)))

pub returns-clause-parts : goal.returns-clause-parts
returns-clause-parts c =
    let n = c.min.result in
    parts_of c.args.self.now.list (stretch_of (c.at-page.result * 8 + c.args.from % 8) n c.self.inside.pages.list) c.args.from c.args.most n
    (returns-clause-is c) (omega (arith, c.min.ensures))
