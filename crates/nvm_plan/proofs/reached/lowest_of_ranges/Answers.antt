use Rattle.std.proofs.Common.{◌≡◌, ◌^◌, map, sym, ap, arith}
use Rattle.std.specs.List.{range_with_len}
use Rattle.nvm_record.specs.Ranges.{range_at, range_count, range_has, ranges_have}
use Rattle.nvm_plan.proofs.ReachedLbas.{ranges_more, range_ends_low, lowest_agree}
use Rattle.nvm_plan.proofs.reached.lowest_of_ranges.Goals as goal

pub lowest_of_range-next-requires : goal.lowest_of_range-next-requires
lowest_of_range-next-requires c =
    rw c.at.ensures (range_ends_low c.args.ranges.now c.loop-place.place (2 ^ 40) c.requires (omega (arith, c.range_count-place-end.ensures)))

pub loop-place-preserved : goal.loop-place-preserved
loop-place-preserved c =
    let payload = c.args.ranges.now in
    let place = c.loop-place.place in
    lowest_agree _ _ c.args.from c.lower-lowest.result (λ k. sym (ranges_more payload place k))
    (c.lower-lowest.ensures (ranges_have (map (range_at payload) (range_with_len 0 place))) (range_has (range_at payload place)) c.args.from
    c.loop-place.invariant (rw c.at.ensures at c.lowest_of_range-next.ensures))

pub returns : goal.returns
returns c =
    let payload = c.args.ranges.now in
    let whole : c.loop-place.place ≡ range_count payload = omega (arith, c.range_count-place-end.ensures) in
    lowest_agree _ _ c.args.from c.loop-place.lowest (λ k. ap (λ n. ranges_have (map (range_at payload) (range_with_len 0 n)) k) whole)
    c.loop-place.invariant
