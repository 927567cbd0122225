use Rattle.std.proofs.Common.{◌+◌, ◌<◌, ◌≤◌, ◌∷◌, ap, sym, ◌∙◌, drop, length, arith, rules}
use Rattle.std.proofs.lemmas.List.{drop_all}
use Rattle.nvm_record.specs.declared.lba_range.LbaRange.{LbaRange}
use Rattle.nvm_record.specs.Ranges.{cut_ranges, range_at, ranges_of, range_count}
use Rattle.nvm_store.proofs.Cuts.{cut_kept, cut_dropped, ranges_from}
use Rattle.nvm_store.proofs.cut_ranges.next_cut.Goals as goal

pub returns-in-Some-clause-found : goal.returns-in-Some-clause-found
returns-in-Some-clause-found c =
    let payload = c.args.ranges.now in
    let i = c.loop-place.place in
    let law = c.ranges_are_read_back.ensures in
    let below : i < range_count payload = search rules in
    let rest = drop (i + 1) (ranges_of payload) in
    let here = ranges_from payload i (law.count payload) (law.place payload i) below in
    let kept = rw c.at.ensures at (rw c.in-Some.is at c.cut.ensures) in
    sym c.loop-place.invariant
    ∙ ap (cut_ranges c.args.first c.args.blocks) here
    ∙ cut_kept c.args.first c.args.blocks (range_at payload i) rest kept.0
    ∙ ap (λ (r : LbaRange). r ∷ cut_ranges c.args.first c.args.blocks rest) (sym kept.1)

pub loop-place-preserved : goal.loop-place-preserved
loop-place-preserved c =
    let payload = c.args.ranges.now in
    let i = c.loop-place.place in
    let law = c.ranges_are_read_back.ensures in
    let below : i < range_count payload = search rules in
    let rest = drop (i + 1) (ranges_of payload) in
    let here = ranges_from payload i (law.count payload) (law.place payload i) below in
    let empty = rw c.at.ensures at (rw c.in_default.is at c.cut.ensures) in
    sym (cut_dropped c.args.first c.args.blocks (range_at payload i) rest (omega (arith, empty)))
    ∙ sym (ap (cut_ranges c.args.first c.args.blocks) here)
    ∙ c.loop-place.invariant

pub returns-clause-none : goal.returns-clause-none
returns-clause-none c =
    let payload = c.args.ranges.now in
    let i = c.loop-place.place in
    let behind : range_count payload ≤ i = search rules in
    let all : length (ranges_of payload) ≤ i = omega (arith, c.ranges_are_read_back.ensures.count payload) in
    sym c.loop-place.invariant ∙ ap (cut_ranges c.args.first c.args.blocks) (drop_all i (ranges_of payload) all)
