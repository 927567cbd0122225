-- Commands that were read have exactly the data that they call for, and proper opcodes.
use Rattle.std.proofs.Common.{◌≡◌, ℕ, ◌+◌, ◌*◌, ◌<◌, ◌==◌, List, length, drop, slice_index, refl, sym, ap, ◌∙◌, subst, arith, Bool, true, false, if◌then◌else◌}
use Rattle.byteorder.specs.Endian.{little_number}
use Rattle.nvm_record.specs.Op.{op_of, deallocate_of, IsProperOp, carries_ranges}
use Rattle.nvm_record.specs.Ranges.{range_count, ranges_of, data_of_ranges}
use Rattle.nvm_record.specs.Entry.{HasDataOf, HasRanges, IsEntryOf, IsWhole, called_for, data_kept, data_length}
use Rattle.nvm_record.specs.declared.op.Op.{Op}
use Rattle.nvm_record.specs.declared.op.Op.TheVariants.{Write, Read, WriteUncorrectable, Compare, WriteZeroes, Dataset, Other}
use Rattle.nvm_record.specs.declared.command.Command.{Command}
use Rattle.nvm_record.proofs.EntryLemmas.{other_number}
use Rattle.nvm_record.proofs.RangesReadBack.{length-ranges_of}

-- an opcode is that of a name, or of none
proper_by_tests : (a b c d e f deallocate : Bool) (n : ℕ)
    → (if a then Write else if b then Read else if c then WriteUncorrectable else if d then Compare else if e then WriteZeroes else if f then Dataset false else Other n) ≡ op_of n false
    → IsProperOp (if a then Write else if b then Read else if c then WriteUncorrectable else if d then Compare else if e then WriteZeroes else if f then Dataset deallocate else Other n)
proper_by_tests true b c d e f deallocate n h = tt
proper_by_tests false true c d e f deallocate n h = tt
proper_by_tests false false true d e f deallocate n h = tt
proper_by_tests false false false true e f deallocate n h = tt
proper_by_tests false false false false true f deallocate n h = tt
proper_by_tests false false false false false true deallocate n h = tt
proper_by_tests false false false false false false deallocate n h = sym h

pub proper : (n : ℕ) (deallocate : Bool) → IsProperOp (op_of n deallocate)
proper n deallocate = proper_by_tests (n == 1) (n == 2) (n == 4) (n == 5) (n == 8) (n == 9) deallocate n refl

-- A command without ranges that was read has its data.
plain : (size : ℕ) (op : Op) (c : Command) (found : List ℕ) (nr : ℕ) → carries_ranges op ≡ false → c.payload ≡ data_kept op found
    → length found ≡ data_length size op c.nlb nr → HasDataOf size op c
plain size Write c found nr none payload e = ap length payload ∙ e
plain size Read c found nr none payload e = ap length payload ∙ e
plain size WriteUncorrectable c found nr none payload e = ap length payload ∙ e
plain size Compare c found nr none payload e = ap length payload ∙ e
plain size WriteZeroes c found nr none payload e = ap length payload ∙ e
plain size (Dataset deallocate) c found nr none payload e = cc
plain size (Other opcode) c found nr none payload e = ap length payload ∙ e

-- One with ranges has these, since its number of ranges is a byte and its ranges are read back.
ranges : (c : Command) (found : List ℕ) (nr : ℕ) → c.slba ≡ 0 → c.nlb ≡ 0 → c.payload ≡ data_of_ranges (ranges_of found)
    → ranges_of c.payload ≡ ranges_of found → length found ≡ (nr + 1) * 16 → nr < 256 → HasRanges c
ranges c found nr slba nlb payload again e few =
    let found_count : range_count found ≡ nr + 1 = omega arith in
    let count : range_count c.payload ≡ nr + 1 = sym (length-ranges_of c.payload) ∙ ap length again ∙ length-ranges_of found ∙ found_count in
    record {
      slba = slba;
      nlb = nlb;
      some = omega arith;
      few = omega arith;
      plain = payload ∙ ap data_of_ranges (sym again);
    }

with_ranges : (size : ℕ) (op : Op) (c : Command) (found : List ℕ) (nr : ℕ) → carries_ranges op ≡ true → c.slba ≡ 0 → c.nlb ≡ 0 → c.payload ≡ data_kept op found
    → ranges_of c.payload ≡ ranges_of found → length found ≡ data_length size op c.nlb nr → nr < 256 → HasDataOf size op c
with_ranges size Write c found nr some slba nlb payload again e few = cc
with_ranges size Read c found nr some slba nlb payload again e few = cc
with_ranges size WriteUncorrectable c found nr some slba nlb payload again e few = cc
with_ranges size Compare c found nr some slba nlb payload again e few = cc
with_ranges size WriteZeroes c found nr some slba nlb payload again e few = cc
with_ranges size (Dataset deallocate) c found nr some slba nlb payload again e few = ranges c found nr slba nlb payload again e few
with_ranges size (Other opcode) c found nr some slba nlb payload again e few = cc

-- what is read of an entry and of the data after it
pub record IsRead (size : ℕ) (front found : List ℕ) (n : ℕ) (c : Command) : Type 0 where
  pub entry : IsEntryOf front c
  pub nr : n ≡ (if carries_ranges c.op then slice_index front 40 else 0)
  pub byte : n < 256
  pub wanted : length found ≡ data_length size c.op c.nlb n
  pub payload : c.payload ≡ data_kept c.op found
  pub again : ranges_of c.payload ≡ ranges_of found

has_data : (size : ℕ) (entry found : List ℕ) (nr : ℕ) (c : Command) (some : Bool) → carries_ranges c.op ≡ some → IsRead size entry found nr c → HasDataOf size c.op c
has_data size entry found nr c true e h =
    with_ranges size c.op c found nr e
    (subst (λ (b : Bool). c.slba ≡ (if b then 0 else little_number 8 (drop 40 entry))) e h.entry.slba)
    (subst (λ (b : Bool). c.nlb ≡ (if b then 0 else little_number 2 (drop 48 entry))) e h.entry.nlb)
    h.payload h.again h.wanted h.byte
has_data size entry found nr c false e h = plain size c.op c found nr e h.payload h.wanted

pub whole : (size : ℕ) (entry found : List ℕ) (nr : ℕ) (c : Command) → IsRead size entry found nr c → IsWhole size c
whole size entry found nr c h = record {
  payload = has_data size entry found nr c (carries_ranges c.op) refl h;
  op = subst (λ (o : Op). IsProperOp o) (sym h.entry.op) (proper (slice_index entry 0) (deallocate_of (slice_index entry 44)));
}

-- the number of blocks counts where there are no ranges
other_count : (size : ℕ) (op : Op) (n k nr : ℕ) → carries_ranges op ≡ true → data_length size op n nr ≡ data_length size op k nr
other_count size Write n k nr some = cc
other_count size Read n k nr some = cc
other_count size WriteUncorrectable n k nr some = cc
other_count size Compare n k nr some = cc
other_count size WriteZeroes n k nr some = cc
other_count size (Dataset deallocate) n k nr some = refl
other_count size (Other opcode) n k nr some = cc

-- the data that was wanted is what the entry calls for
wanted_by : (size : ℕ) (entry : List ℕ) (nr : ℕ) (c : Command) (some : Bool) → carries_ranges c.op ≡ some → IsEntryOf entry c → nr ≡ (if some then slice_index entry 40 else 0)
    → data_length size c.op c.nlb nr ≡ data_length size c.op (little_number 2 (drop 48 entry)) (slice_index entry 40)
wanted_by size entry nr c true e h n = other_count size c.op c.nlb (little_number 2 (drop 48 entry)) nr e ∙ ap (λ (k : ℕ). data_length size c.op (little_number 2 (drop 48 entry)) k) n
wanted_by size entry nr c false e h n =
    ap (λ (k : ℕ). data_length size c.op k nr) (subst (λ (b : Bool). c.nlb ≡ (if b then 0 else little_number 2 (drop 48 entry))) e h.nlb)
    ∙ other_number size c.op (little_number 2 (drop 48 entry)) nr (slice_index entry 40) e

pub wanted : (size : ℕ) (entry : List ℕ) (nr : ℕ) (c : Command) → IsEntryOf entry c → nr ≡ (if carries_ranges c.op then slice_index entry 40 else 0)
    → data_length size c.op c.nlb nr ≡ called_for size entry
wanted size entry nr c h n =
    wanted_by size entry nr c (carries_ranges c.op) refl h n
    ∙ ap (λ (op : Op). data_length size op (little_number 2 (drop 48 entry)) (slice_index entry 40)) h.op
