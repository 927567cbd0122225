use Rattle.std.proofs.Common.{◌≡◌, ◌++◌, ◌+◌, ◌<◌, ◌∷◌, [], List, ℕ, length, get_or, drop, sym, ap, ◌∙◌, arith}
use Rattle.std.proofs.lemmas.Bool.{eqb-true, eq-eqb}
use Rattle.std.proofs.lemmas.List.{nil_from_length, drop_all}
use Rattle.nvm_record.specs.declared.lba_range.LbaRange.{LbaRange}
use Rattle.nvm_record.specs.Ranges.{cut_range, cut_ranges, data_of_ranges, range_at, range_bytes, range_count, ranges_of}
use Rattle.nvm_trace.proofs.CutRanges.{ranges_from, data_kept, data_dropped, goes_on}
use Rattle.nvm_trace.proofs.pieces.are_cut.Goals as goal
use Rattle.nvm_trace.proofs.pieces.are_cut.Goals.{in-Some+in-Some-after_range, in_default}

-- the first of the ranges that are left
module _ (payload : List ℕ) (i : ℕ) (r : LbaRange) (count : length (ranges_of payload) ≡ range_count payload)
    (place : (d : LbaRange) → i < range_count payload → get_or (ranges_of payload) i d ≡ range_at payload i) (here : i < range_count payload)
    (is : r ≡ range_at payload i) where
  next_range : drop i (ranges_of payload) ≡ r ∷ drop (i + 1) (ranges_of payload)
  next_range = ranges_from payload i count place here ∙ ap (λ (s : LbaRange). s ∷ drop (i + 1) (ranges_of payload)) (sym is)

pub returns-in_default-after_range : goal.returns-in_default-after_range
returns-in_default-after_range c =
    let payload : List ℕ = c.args.ranges.now in
    let i : ℕ = c.loop-place.place in
    let rs : List LbaRange = ranges_of payload in
    let laws = c.ranges_are_read_back.ensures in
    let here : i < range_count payload = omega (arith, c.loop-place-test.true, c.range_count-place-end.ensures) in
    let from = next_range payload i c.at.result (laws.count payload) (λ d low. laws.place payload i d low) here c.at.ensures in
    let some = c.in-Some.ensures.0 in
    let is : c.in-Some.range ≡ cut_range c.args.first c.args.blocks c.at.result = c.in-Some.ensures.1 in
    let more : List ℕ = data_of_ranges (cut_ranges c.args.first c.args.blocks (drop (i + 1) rs)) in
    let goes = data_kept c.args.first c.args.blocks c.at.result (drop i rs) (drop (i + 1) rs) from some in (
      (λ never. cc),
      (λ all. absurd
          (c.in_default-after_range.ensures more
          (c.loop-place.invariant.0 all ∙ goes ∙ ap (λ (r : LbaRange). range_bytes r ++ more) (sym is)))),
    )

pub loop-place-preserved : goal.loop-place-preserved
loop-place-preserved c =
    let payload : List ℕ = c.args.ranges.now in
    let i : ℕ = c.loop-place.place in
    let rs : List LbaRange = ranges_of payload in
    let first : ℕ = c.args.first in
    let blocks : ℕ = c.args.blocks in
    let laws = c.ranges_are_read_back.ensures in
    let here : i < range_count payload = omega (arith, c.loop-place-test.true, c.range_count-place-end.ensures) in
    let from = next_range payload i c.at.result (laws.count payload) (λ d low. laws.place payload i d low) here c.at.ensures in
    let left : List ℕ = data_of_ranges (cut_ranges first blocks (drop i rs)) in
    let more : List ℕ = data_of_ranges (cut_ranges first blocks (drop (i + 1) rs)) in
    let before = c.loop-place.invariant in
    elim c.match-cut.branch [
      | in-Some+in-Some-after_range w ↦
          let own : LbaRange = cut_range first blocks c.at.result in
          let is : w.in-Some.range ≡ own = w.in-Some.ensures.1 in
          let goes = data_kept first blocks c.at.result (drop i rs) (drop (i + 1) rs) from w.in-Some.ensures.0 in
          let rest : c.match-cut.rest.now ≡ w.in-Some-after_range.after.now = ap (λ x. x.now) w.rest-is in
          let begins : c.loop-place.rest.now ≡ range_bytes own ++ c.match-cut.rest.now =
          w.in-Some-after_range.ensures ∙ ap (λ (r : LbaRange). range_bytes r ++ w.in-Some-after_range.after.now) is
          ∙ ap (λ (x : List ℕ). range_bytes own ++ x) (sym rest) in
          let same = goes_on c.loop-place.rest.now (range_bytes own) c.match-cut.rest.now left more begins goes in
          ((λ all. same.0 (before.0 all)), (λ e. before.1 (same.1 e)))
      | in_default w ↦
          let none = data_dropped first blocks c.at.result (drop i rs) (drop (i + 1) rs) from w.in_default.ensures in
          let rest : c.match-cut.rest.now ≡ c.loop-place.rest.now = ap (λ x. x.now) w.rest-is in
          ((λ all. rest ∙ before.0 all ∙ none), (λ e. before.1 (sym rest ∙ e ∙ sym none)))
    ]

pub returns : goal.returns
returns c =
    let payload : List ℕ = c.args.ranges.now in
    let i : ℕ = c.loop-place.place in
    let rs : List LbaRange = ranges_of payload in
    let rest : List ℕ = c.loop-place.rest.now in
    let count = c.ranges_are_read_back.ensures.count payload in
    let end : drop i rs ≡ [] = drop_all i rs (omega (arith, c.loop-place-test.false, c.range_count-place-end.ensures, count)) in
    let none = ap (λ (l : List LbaRange). data_of_ranges (cut_ranges c.args.first c.args.blocks l)) end in
    let before = c.loop-place.invariant in (
      (λ e. before.1 (nil_from_length rest (eqb-true (length rest) 0 (sym c.is_empty.ensures ∙ e)) ∙ sym none)),
      (λ all. c.is_empty.ensures ∙ eq-eqb (length rest) 0 (ap length (before.0 all ∙ none))),
    )
