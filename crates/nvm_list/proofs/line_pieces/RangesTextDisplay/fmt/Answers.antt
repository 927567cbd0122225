use Rattle.std.proofs.Common.{◌<◌, ◌++◌, ap, arith, codes, refl}
use Rattle.std.proofs.Output.{has_written_append, has_written_of_eq}
use Rattle.nvm_record.specs.Ranges.{range_at, range_count, ranges_of}
use Rattle.nvm_record.specs.declared.lba_range.LbaRange.{LbaRange}
use Rattle.nvm_list.specs.Listing.{range_text, ranges_text}
use Rattle.nvm_list.proofs.RangePieces.{first_listed, next_listed}
use Rattle.nvm_list.proofs.line_pieces.RangesTextDisplay.fmt.Goals as goal

pub loop-place-init : goal.loop-place-init
loop-place-init g c = λ plain.
    let payload = c.args.self.now.0.now in
    let some : 0 < range_count payload = grind arith in
    (range_text (range_at payload 0), has_written_of_eq _ _ _ _ _ (ap (λ (r : LbaRange). range_text r) c.at.ensures) (c.in_ok-write.ensures.writes plain refl), first_listed payload some)

pub loop-place-preserved : goal.loop-place-preserved
loop-place-preserved g c = λ plain.
    let payload = c.args.self.now.0.now in
    let place = c.loop-place.place in
    let (done, before, so_far) = c.loop-place.invariant plain in
    let inside : place < range_count payload = grind arith in (
      done ++ (codes "," ++ range_text (range_at payload place)),
      has_written_append _ _ _ _ _ _ before
          (has_written_of_eq _ _ _ _ _ (ap (λ (r : LbaRange). codes "," ++ range_text r) c.at-in-loop-place.ensures)
          (c.in_ok-write-2.ensures.writes before.plain refl)),
      next_listed payload done (ranges_text (ranges_of payload)) place inside so_far,
    )
