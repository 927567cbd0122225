use Rattle.std.proofs.Common.{◌≡◌, ◌≢◌, ◌<◌, ◌≤◌, List, length, get_or, refl, sym, ap, ◌∙◌, arith, rules}
use Rattle.std.proofs.lemmas.Bool.{false≢true}
use Rattle.std.proofs.lemmas.List.{same_lists}
use Rattle.nvm_record.specs.declared.lba_range.LbaRange.{LbaRange}
use Rattle.nvm_record.specs.Ranges.{range_count, ranges_of}
use Rattle.nvm_store.proofs.cut_ranges.are_same.Goals as goal

pub returns-then-ne : goal.returns-then-ne
returns-then-ne c =
    let one = c.args.one.now in
    let other = c.args.other.now in
    let i = c.loop-place.place in
    let place = c.ranges_are_read_back.ensures.place in
    let in_one : i < range_count one = search rules in
    let in_other : i < range_count other = search rules in
    let differs : c.at.result ≢ c.at-in-loop-place.result = search rules in
    let d : LbaRange = c.at.result in (
      λ e. absurd (false≢true e),
      λ e.
          absurd
          (differs
          (c.at.ensures
          ∙ sym (place one i d in_one)
          ∙ ap (λ (l : List LbaRange). get_or l i d) e
          ∙ place other i d in_other
          ∙ sym c.at-in-loop-place.ensures)),
    )

pub returns : goal.returns
returns c =
    let one = c.args.one.now in
    let other = c.args.other.now in
    let law = c.ranges_are_read_back.ensures in
    let counts : range_count one ≡ range_count other = search rules in
    let all : range_count one ≤ c.loop-place.place = search rules in
    let lengths : length (ranges_of one) ≡ length (ranges_of other) = law.count one ∙ counts ∙ sym (law.count other) in (
      λ _.
          same_lists (ranges_of one) (ranges_of other) lengths
          (λ k d below.
          let in_one : k < range_count one = omega (arith, law.count one) in
          let in_other : k < range_count other = omega (arith, counts) in
          law.place one k d in_one ∙ c.loop-place.invariant k (omega arith) ∙ sym (law.place other k d in_other)),
      λ _. refl,
    )
