use Rattle.std.proofs.Common.{◌≡◌, [], ◌∷◌, ◌++◌, List, append_assoc, ap, refl, sym, ◌∙◌, rules}
use Rattle.nvm_record.specs.declared.lba_range.LbaRange.{LbaRange}
use Rattle.nvm_record.specs.Ranges.{cut_ranges, ranges_of}
use Rattle.nvm_store.proofs.Cuts.{lowest_first, lowest_more}
use Rattle.nvm_store.proofs.cut_ranges.lowest_cut.Goals as goal

pub loop-range-init : goal.loop-range-init
loop-range-init c =
    let rs = ranges_of c.args.ranges.now in
    let all = cut_ranges c.args.first c.args.blocks rs in
    let x = c.in_ok-lowest.lowest in
    let split : x ∷ c.into_iter-range-iterator.result ≡ all = search rules in
    record {
      split = split;
      is = lowest_first c.args.first c.args.blocks all [] x c.into_iter-range-iterator.result split (c.cut_ranges_lie_within.ensures.within c.args.first c.args.blocks rs) refl;
    }

pub loop-range-preserved : goal.loop-range-preserved
loop-range-preserved c =
    let rs = ranges_of c.args.ranges.now in
    let all = cut_ranges c.args.first c.args.blocks rs in
    let seen : List LbaRange = c.in_ok-lowest.lowest ∷ c.loop-range.yielded in
    let x = c.in-Some.range in
    let rest = c.next-in-loop-range.new.self in
    let next : c.loop-range.range-iterator ≡ x ∷ rest = search rules in
    let split : seen ++ x ∷ rest ≡ all = ap (λ (l : List LbaRange). seen ++ l) (sym next) ∙ c.loop-range.invariant.split in
    record {
      split = append_assoc seen (x ∷ []) rest ∙ split;
      is =
          lowest_more c.args.first c.args.blocks all seen x rest split (c.cut_ranges_lie_within.ensures.within c.args.first c.args.blocks rs)
          c.loop-range.lowest c.lower-lowest.result c.loop-range.invariant.is c.lower-lowest.ensures.either c.lower-lowest.ensures.one c.lower-lowest.ensures.other;
    }
