use Rattle.std.proofs.Common.{◌≡◌, ◌*◌, ◌+◌, ◌-◌, ◌≤◌, List, ℕ, length, Some, sym, ap, subst, ◌∙◌}
use Rattle.nvm_plan.specs.LentPart.{part_operation_of}
use Rattle.nvm_audit.specs.RecordedPart.{RecordedPart}
use Rattle.nvm_audit.specs.RecordedJob.{RecordedJob}
use Rattle.nvm_audit.proofs.Judged.{HasPartsBytes, has_parts_bytes, data_told}
use Rattle.nvm_audit.proofs.judging.data_is_right.Goals as goal

payload : (c : goal.After-as_slice) → c.args.p.now.done.payload ≡ Some c.as_slice.result.now
payload c =
    sym (ap (λ (p : RecordedPart). p.done.payload) c.p.view_is)
    ∙ sym (ap (λ (d : RecordedJob). d.payload) c.done.view_is)
    ∙ c.in-Some.is
    ∙ ap (λ (xs : List ℕ). Some xs) (sym c.as_slice.ensures)

found : (c : goal.After-as_slice) → HasPartsBytes c.args.geometry.now.block_size (part_operation_of c.args.part.now) c.start_of.result c.as_slice.result.now
found c =
    has_parts_bytes c.parts_keep_their_kind.ensures.read c.parts_lie_in_their_units.ensures.payload c.args.geometry.now
    c.args.job.now c.args.p.now.part.unit (part_operation_of c.args.part.now) c.start_of.result c.as_slice.result.now
    c.start_of.ensures (c.requires.whole c.as_slice.result.now (payload c)) c.requires.is c.requires.covers.range.some

pub has_bytes-requires-clause-read : goal.has_bytes-requires-clause-read
has_bytes-requires-clause-read c = (found c).read

pub has_bytes-requires-clause-low : goal.has_bytes-requires-clause-low
has_bytes-requires-clause-low c = (found c).low

pub has_bytes-requires-clause-high : goal.has_bytes-requires-clause-high
has_bytes-requires-clause-high c =
    let part = part_operation_of c.args.part.now in
    subst (λ (size : ℕ). (part.first - c.start_of.result + part.blocks) * size ≤ length c.as_slice.result.now)
    (sym c.requires.size) (found c).high

pub returns-in-Some : goal.returns-in-Some
returns-in-Some c = λ op m ready held.
    let bytes = c.as_slice.result.now in
    let stored = sym (ap (λ (p : RecordedPart). p.done.payload) c.p.view_is)
    ∙ sym (ap (λ (d : RecordedJob). d.payload) c.done.view_is)
    ∙ c.in-Some.is
    ∙ ap (λ (xs : List ℕ). Some xs) (sym c.as_slice.ensures) in
    data_told c.args.geometry.now c.args.job.now op (part_operation_of c.args.part.now) m c.args.p.now c.args.blocks.now.size
    c.start_of.result bytes c.has_bytes.result ready c.requires.is c.start_of.ensures (c.requires.whole bytes stored)
    c.requires.size stored (c.has_bytes.ensures m held)
