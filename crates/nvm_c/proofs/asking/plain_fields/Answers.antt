use Rattle.std.proofs.Common.{◌≡◌, ◌∙◌, ◌++◌, ap, sym, refl, ℕ, length, take, drop, slice_index}
use Rattle.std.proofs.Math.Seq.{drop-append_seam, take-append_seam}
use Rattle.byteorder.specs.Endian.{little_number}
use Rattle.nvm_record.specs.Entry.{IsEntryOf, called_for, data_kept, data_length}
use Rattle.nvm_record.specs.declared.op.Op.{Op}
use Rattle.nvm_record.specs.declared.command.Command.{Command}
use Rattle.nvm_plan.specs.OnlyPart.{command_lent}
use Rattle.nvm_c.proofs.asking.plain_fields.Goals as goal

-- The entry and the data meet where the entry ends, and no part of the data is left out.
pub returns-clause-spelled : goal.returns-clause-spelled
returns-clause-spelled c = λ size bytes none long.
    let entry = c.args.entry.now in
    let fields = c.entry_fields.result in
    let command : Command = command_lent fields bytes in
    let blocks : ℕ = little_number 2 (drop 48 entry) in
    let place : ℕ = slice_index entry 40 in
    let front : take 64 (entry ++ bytes) ≡ entry = ap (λ (n : ℕ). take n (entry ++ bytes)) (sym c.requires) ∙ take-append_seam entry bytes in
    let back : drop 64 (entry ++ bytes) ≡ bytes = ap (λ (n : ℕ). drop n (entry ++ bytes)) (sym c.requires) ∙ drop-append_seam entry bytes in
    let is_entry : IsEntryOf entry command = record {
      whole = c.requires;
      op = c.entry_fields.ensures.op;
      fuse = c.entry_fields.ensures.fuse;
      cid = c.entry_fields.ensures.cid;
      nsid = c.entry_fields.ensures.nsid;
      slba = c.entry_fields.ensures.slba;
      nlb = c.entry_fields.ensures.nlb;
    } in
    let kept : data_kept fields.op bytes ≡ bytes = rw none refl in
    let nlb : fields.nlb ≡ blocks = c.entry_fields.ensures.nlb ∙ rw none refl in
    let no_ranges : data_length size fields.op blocks fields.nr ≡ data_length size fields.op blocks place = rw none refl in
    let wanted : data_length size fields.op fields.nlb fields.nr ≡ called_for size entry =
    ap (λ (n : ℕ). data_length size fields.op n fields.nr) nlb ∙ no_ranges
    ∙ ap (λ (op : Op). data_length size op blocks place) c.entry_fields.ensures.op in
    record {
      entry = rw front is_entry;
      payload = sym (ap (data_kept fields.op) back ∙ kept);
      called_for = ap length back ∙ long ∙ wanted ∙ sym (ap (called_for size) front);
    }

pub returns-clause-called : goal.returns-clause-called
returns-clause-called c = λ size none.
    let entry = c.args.entry.now in
    let fields = c.entry_fields.result in
    let blocks : ℕ = little_number 2 (drop 48 entry) in
    let place : ℕ = slice_index entry 40 in
    let nlb : fields.nlb ≡ blocks = c.entry_fields.ensures.nlb ∙ rw none refl in
    let no_ranges : data_length size fields.op blocks fields.nr ≡ data_length size fields.op blocks place = rw none refl in
    ap (λ (n : ℕ). data_length size fields.op n fields.nr) nlb ∙ no_ranges ∙ ap (λ (op : Op). data_length size op blocks place) c.entry_fields.ensures.op
