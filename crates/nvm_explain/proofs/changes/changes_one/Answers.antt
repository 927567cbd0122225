use Rattle.std.proofs.Common.{ap, sym, ◌∙◌}
use Rattle.std.specs.List.{list_any, range_with_len}
use Rattle.nvm_record.specs.declared.lba_range.LbaRange.{LbaRange}
use Rattle.nvm_record.specs.Ranges.{ranges_have, ranges_of}
use Rattle.nvm_explain.proofs.Changed.{cut_fails, cut_passes}
use Rattle.nvm_explain.proofs.changes.changes_one.Goals as goal

pub returns-in-Some : goal.returns-in-Some
returns-in-Some c =
    let payload = c.as_slice.result.now in
    rw (c.in-Deallocate.is, ← c.as_slice.ensures)
    (c.have_one.ensures
    ∙ ap (λ (r : LbaRange). list_any (λ lba. ranges_have (ranges_of payload) lba) (range_with_len r.first r.blocks)) c.in-Some.ensures.1
    ∙ cut_passes (λ lba. ranges_have (ranges_of payload) lba) c.in-Deallocate.first c.in-Deallocate.blocks c.args.range)

pub returns-in-None : goal.returns-in-None
returns-in-None c = rw c.in-Deallocate.is (sym (cut_fails _ _ _ c.args.range c.in-None.ensures))
