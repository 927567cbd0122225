use Rattle.std.proofs.Common.{map}
use Rattle.nvm_file.specs.Inside.Rest.{left_of}
use Rattle.nvm_file.proofs.RecordsHeld.{record_held}
use Rattle.nvm_file.proofs.reading.body_of.Goals as goal

pub invariant_of-result : goal.invariant_of-result
invariant_of-result c =
    record_held c.opcodes_are_proper.ensures c.each_unit_has_one_place.ensures.place c.args.frame.now c.requires
    c.in_ok-jobs.jobs.items (map (λ history. history.items) c.in_ok-units.units.items) (map (λ work. work.items) c.in_ok-done.done.items)
    (left_of c.args.rest) (left_of c.in_ok-jobs.rest) (left_of c.in_ok-jobs.rest) (left_of c.in_ok-units.rest)
    (left_of c.in_ok-units.rest) (left_of c.in_ok-done.rest)
    c.in_ok-jobs.ensures c.in_ok-units.ensures (rw (← c.as_slice.ensures.value) c.in_ok-done.ensures)
