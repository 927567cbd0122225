use Rattle.std.proofs.Common.{◌∙◌, ◌++◌, List, map, ap, arith}
use Rattle.nvm_record.specs.Ranges.{range_count}
use Rattle.nvm_record.specs.declared.lba_range.LbaRange.{LbaRange}
use Rattle.nvm_standard.specs.PointView.{PointView, seen}
use Rattle.nvm_standard.specs.Rows.{deallocate_row}
use Rattle.nvm_standard.specs.Runs.{run_in}
use Rattle.nvm_standard.specs.declared.run.Run.{Run}
use Rattle.nvm_standard.proofs.Ranges.{ranges_more}
use Rattle.nvm_standard.proofs.commands.put_ranges.Goals as goal

pub loop-place-preserved : goal.loop-place-preserved
loop-place-preserved c =
    let f = λ (r : LbaRange). deallocate_row c.args.doer c.args.over (run_in c.args.geometry.now r.first r.blocks) in
    let before : List PointView = map seen c.loop-place.points.items in
    ranges_more f c.args.payload.now c.loop-place.place (range_count c.args.payload.now) before
    (map seen c.put_deallocate.new.points.items) _ (omega (arith, c.loop-place-test.true, c.range_count-place-end.ensures))
    (c.in_ok-put_deallocate.ensures
    ∙ ap (λ (r : Run). before ++ deallocate_row c.args.doer c.args.over r) c.run_in-run.ensures
    ∙ ap (λ (r : LbaRange). before ++ f r) c.at-range.ensures)
    c.loop-place.invariant
