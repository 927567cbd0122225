use Rattle.std.proofs.Common.{◌≡◌, ◌++◌, ◌-◌, map}
use Rattle.std.specs.List.{flat_map, range_with_len}
use Rattle.nvm_record.specs.Ranges.{range_at, range_count, ranges_of}
use Rattle.nvm_record.specs.declared.lba_range.LbaRange.{LbaRange}
use Rattle.nvm_standard.specs.PointView.{seen}
use Rattle.nvm_standard.specs.Rows.{deallocate_row}
use Rattle.nvm_standard.specs.Runs.{run_in}
use Rattle.nvm_standard.proofs.commands.put_ranges.Given as goal

-- With those of the ranges that are left the points are all.
abbrev pub invariant-loop-place : goal.invariant-loop-place
invariant-loop-place l =
    map seen l.points.items
    ++ flat_map (λ (r : LbaRange). deallocate_row l.doer l.over (run_in l.geometry r.first r.blocks))
    (map (range_at l.payload) (range_with_len l.place (range_count l.payload - l.place)))
    ≡ map seen l.fn.points.items
    ++ flat_map (λ (r : LbaRange). deallocate_row l.doer l.over (run_in l.geometry r.first r.blocks)) (ranges_of l.payload)
