use Rattle.std.proofs.Common.{◌≡◌, ◌≢◌, ◌↔◌, [], ◌+◌, ◌<◌, ◌≤◌, drop, length, IsTrue, Some, sym, ap, ◌∙◌, arith, rules}
use Rattle.std.proofs.lemmas.Bool.{false≢true}
use Rattle.std.proofs.lemmas.List.{drop_all}
use Rattle.nvm_record.specs.Ranges.{range_at, range_count, ranges_of}
use Rattle.nvm_store.proofs.Cuts.{ranges_from, turn_same, turn_differs}
use Rattle.nvm_store.proofs.cut_ranges.are_left.Goals as goal

pub returns-then-ne : goal.returns-then-ne
returns-then-ne c =
    let kept = c.args.kept.now in
    let i = c.loop-place.place in
    let law = c.ranges_are_read_back.ensures in
    let below : i < range_count kept = search rules in
    let here = ranges_from kept i (law.count kept) (law.place kept i) below in
    let differs : c.next.result ≢ Some c.at.result = search rules in
    let other : c.next.result ≢ Some (range_at kept i) = rw c.at.ensures at differs in (
      λ e. absurd (false≢true e),
      λ e.
          absurd
          (turn_differs c.loop-place.cuts c.next.new.self c.next.result (range_at kept i) (drop (i + 1) (ranges_of kept)) c.next.ensures.steps other
          (c.loop-place.invariant.1 e ∙ here)),
    )

pub loop-place-preserved : goal.loop-place-preserved
loop-place-preserved c =
    let kept = c.args.kept.now in
    let i = c.loop-place.place in
    let law = c.ranges_are_read_back.ensures in
    let below : i < range_count kept = search rules in
    let here = ranges_from kept i (law.count kept) (law.place kept i) below in
    let same : c.next.result ≡ Some c.at.result = search rules in
    let one : c.next.result ≡ Some (range_at kept i) = same ∙ ap Some c.at.ensures in
    let turn = turn_same c.loop-place.cuts c.next.new.self c.next.result (range_at kept i) (drop (i + 1) (ranges_of kept)) c.next.ensures.steps one in (
      λ e. c.loop-place.invariant.0 (turn.1 e ∙ sym here),
      λ e. turn.0 (c.loop-place.invariant.1 e ∙ here),
    )

pub returns : goal.returns
returns c =
    let kept = c.args.kept.now in
    let i = c.loop-place.place in
    let behind : range_count kept ≤ i = search rules in
    let all : length (ranges_of kept) ≤ i = omega (arith, c.ranges_are_read_back.ensures.count kept) in
    let end : drop i (ranges_of kept) ≡ [] = drop_all i (ranges_of kept) all in
    let none : IsTrue c.is_none.result ↔ (c.loop-place.cuts ≡ []) = search rules in (
      λ e. c.loop-place.invariant.0 (none.0 e ∙ sym end),
      λ e. none.1 (c.loop-place.invariant.1 e ∙ end),
    )
