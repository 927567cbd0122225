-- The written entry is a spelling of its command.
use Rattle.std.proofs.Common.{◌≡◌, ℕ, ◌+◌, ◌*◌, ◌%◌, ◌≤◌, ◌==◌, Bool, true, false, if◌then◌else◌, List, ◌∷◌, ◌++◌, length, take, drop, slice_index, replicate, refl, sym, ap, ◌∙◌, subst, arith}
use Rattle.std.proofs.Math.Seq.{take-append_seam, drop-append_seam}
use Rattle.byteorder.specs.Numbers.{little_number-reads_back}
use Rattle.byteorder.specs.Endian.{little_bytes, little_number}
use Rattle.nvm_record.specs.Op.{op_of, opcode_of, deallocate_of, attributes_of, IsProperOp, fuse_of, bits_of, carries_ranges}
use Rattle.nvm_record.specs.Ranges.{range_count, ranges_of, data_of_ranges}
use Rattle.nvm_record.specs.Entry.{IsEntryOf, HasFieldsInRange, IsWhole, IsSpelling, called_for, data_kept, data_length, entry_of, range_bits}
use Rattle.nvm_record.specs.declared.op.Op.{Op}
use Rattle.nvm_record.specs.declared.op.Op.TheVariants.{Write, Read, WriteUncorrectable, Compare, WriteZeroes, Dataset, Other}
use Rattle.nvm_record.specs.declared.op.Fuse.{Fuse}
use Rattle.nvm_record.specs.declared.op.Fuse.TheVariants.{Normal, First, Second, Reserved}
use Rattle.nvm_record.specs.declared.command.Command.{Command}
use Rattle.nvm_record.proofs.RangesReadBack.{length-data_of_ranges, length-ranges_of}

-- an opcode without a name has none whatever the Deallocate bit
other_by_tests : (a b c d e f : Bool) (n : ℕ) (deallocate : Bool)
    → (if a then Write else if b then Read else if c then WriteUncorrectable else if d then Compare else if e then WriteZeroes else if f then Dataset false else Other n) ≡ Other n
    → (if a then Write else if b then Read else if c then WriteUncorrectable else if d then Compare else if e then WriteZeroes else if f then Dataset deallocate else Other n) ≡ Other n
other_by_tests true b c d e f n deallocate h = cc
other_by_tests false true c d e f n deallocate h = cc
other_by_tests false false true d e f n deallocate h = cc
other_by_tests false false false true e f n deallocate h = cc
other_by_tests false false false false true f n deallocate h = cc
other_by_tests false false false false false true n deallocate h = cc
other_by_tests false false false false false false n deallocate h = refl

pub other : (n : ℕ) (deallocate : Bool) → IsProperOp (Other n) → op_of n deallocate ≡ Other n
other n deallocate h = other_by_tests (n == 1) (n == 2) (n == 4) (n == 5) (n == 8) (n == 9) n deallocate h

pub fuse_of-bits_of : (fuse : Fuse) → fuse ≡ fuse_of (bits_of fuse % 4)
fuse_of-bits_of Normal = refl
fuse_of-bits_of First = refl
fuse_of-bits_of Second = refl
fuse_of-bits_of Reserved = refl

-- the entry of a command without ranges, and what follows each of its fields
after_nlb : List ℕ
after_nlb = replicate 14 0

after_slba : Command → List ℕ
after_slba c = little_bytes 2 c.nlb ++ replicate 14 0

after_nsid : Command → List ℕ
after_nsid c = replicate 32 0 ++ (little_bytes 8 c.slba ++ (little_bytes 2 c.nlb ++ replicate 14 0))

after_cid : Command → List ℕ
after_cid c = little_bytes 4 c.nsid ++ (replicate 32 0 ++ (little_bytes 8 c.slba ++ (little_bytes 2 c.nlb ++ replicate 14 0)))

abbrev plain_entry : Command → List ℕ
plain_entry c =
    opcode_of c.op ∷ bits_of c.fuse ∷
    (little_bytes 2 c.cid ++ (little_bytes 4 c.nsid ++ (replicate 32 0 ++ (little_bytes 8 c.slba ++ (little_bytes 2 c.nlb ++ replicate 14 0)))))

-- the same with ranges
after_place : List ℕ
after_place = replicate 16 0

after_nsid_of_ranges : Command → List ℕ
after_nsid_of_ranges c = replicate 32 0 ++ (range_bits c.payload ∷ 0 ∷ 0 ∷ 0 ∷ attributes_of c.op ∷ 0 ∷ 0 ∷ 0 ∷ replicate 16 0)

after_cid_of_ranges : Command → List ℕ
after_cid_of_ranges c = little_bytes 4 c.nsid ++ (replicate 32 0 ++ (range_bits c.payload ∷ 0 ∷ 0 ∷ 0 ∷ attributes_of c.op ∷ 0 ∷ 0 ∷ 0 ∷ replicate 16 0))

abbrev entry_of_ranges : Command → List ℕ
entry_of_ranges c =
    opcode_of c.op ∷ bits_of c.fuse ∷
    (little_bytes 2 c.cid ++ (little_bytes 4 c.nsid ++ (replicate 32 0 ++ (range_bits c.payload ∷ 0 ∷ 0 ∷ 0 ∷ attributes_of c.op ∷ 0 ∷ 0 ∷ 0 ∷ replicate 16 0))))

-- where no ranges follow, the entry is of the command as soon as its opcode is
plain : (c : Command) → HasFieldsInRange c → carries_ranges c.op ≡ false
    → c.op ≡ op_of (opcode_of c.op) (deallocate_of (slice_index (plain_entry c) 44)) → IsEntryOf (plain_entry c) c
unfolding after_nlb after_slba after_nsid after_cid
plain c fits none op = record {
  whole = refl;
  op = op;
  fuse = fuse_of-bits_of c.fuse;
  cid = sym (little_number-reads_back 2 c.cid (after_cid c) fits.cid);
  nsid = sym (little_number-reads_back 4 c.nsid (after_nsid c) fits.nsid);
  slba = rw none (sym (little_number-reads_back 8 c.slba (after_slba c) fits.slba));
  nlb = rw none (sym (little_number-reads_back 2 c.nlb after_nlb fits.nlb));
}

with_ranges : (c : Command) → HasFieldsInRange c → carries_ranges c.op ≡ true → c.slba ≡ 0 → c.nlb ≡ 0
    → c.op ≡ op_of (opcode_of c.op) (deallocate_of (attributes_of c.op)) → IsEntryOf (entry_of_ranges c) c
unfolding after_nsid_of_ranges after_cid_of_ranges
with_ranges c fits some slba nlb op = record {
  whole = refl;
  op = op;
  fuse = fuse_of-bits_of c.fuse;
  cid = sym (little_number-reads_back 2 c.cid (after_cid_of_ranges c) fits.cid);
  nsid = sym (little_number-reads_back 4 c.nsid (after_nsid_of_ranges c) fits.nsid);
  slba = rw some slba;
  nlb = rw some nlb;
}

-- the number of ranges counts where there are some
pub other_number : (size : ℕ) (op : Op) (nlb n k : ℕ) → carries_ranges op ≡ false → data_length size op nlb n ≡ data_length size op nlb k
other_number size Write nlb n k none = refl
other_number size Read nlb n k none = refl
other_number size WriteUncorrectable nlb n k none = refl
other_number size Compare nlb n k none = refl
other_number size WriteZeroes nlb n k none = refl
other_number size (Dataset deallocate) nlb n k none = cc
other_number size (Other opcode) nlb n k none = refl

-- how much data the written entry calls for
plain_length : (size : ℕ) (c : Command) (entry : List ℕ) → IsEntryOf entry c → carries_ranges c.op ≡ false → length c.payload ≡ data_length size c.op c.nlb 0
    → length c.payload ≡ called_for size entry
plain_length size c entry h none e =
    let nlb : c.nlb ≡ little_number 2 (drop 48 entry) = subst (λ (b : Bool). c.nlb ≡ (if b then 0 else little_number 2 (drop 48 entry))) none h.nlb in
    e ∙ other_number size c.op c.nlb 0 (slice_index entry 40) none
    ∙ ap (λ (n : ℕ). data_length size c.op n (slice_index entry 40)) nlb
    ∙ ap (λ (op : Op). data_length size op (little_number 2 (drop 48 entry)) (slice_index entry 40)) h.op

ranges_length : (payload : List ℕ) → 1 ≤ range_count payload → range_count payload ≤ 256 → payload ≡ data_of_ranges (ranges_of payload)
    → length payload ≡ (range_bits payload + 1) * 16
ranges_length payload some few plain =
    let all : length payload ≡ range_count payload * 16 = ap length plain ∙ length-data_of_ranges (ranges_of payload) ∙ ap (λ (n : ℕ). n * 16) (length-ranges_of payload) in
    let bits : range_bits payload + 1 ≡ range_count payload = omega arith in
    all ∙ ap (λ (n : ℕ). n * 16) (sym bits)

-- the entry and the data after it
abbrev IsSpelled : ℕ → List ℕ → Command → Type 0
IsSpelled size entry c = IsEntryOf entry c × (c.payload ≡ data_kept c.op c.payload) × (length c.payload ≡ called_for size entry)

spelled : (size : ℕ) (op : Op) (cid nsid slba nlb : ℕ) (fuse : Fuse) (payload : List ℕ)
    → HasFieldsInRange (record { cid = cid; nsid = nsid; fuse = fuse; op = op; slba = slba; nlb = nlb; payload = payload })
    → IsWhole size (record { cid = cid; nsid = nsid; fuse = fuse; op = op; slba = slba; nlb = nlb; payload = payload })
    → IsSpelled size (entry_of (record { cid = cid; nsid = nsid; fuse = fuse; op = op; slba = slba; nlb = nlb; payload = payload }))
    (record { cid = cid; nsid = nsid; fuse = fuse; op = op; slba = slba; nlb = nlb; payload = payload })
spelled size Write cid nsid slba nlb fuse payload fits whole =
    let entry = plain _ fits refl refl in
    (entry, refl, plain_length size _ _ entry refl whole.payload)
spelled size Read cid nsid slba nlb fuse payload fits whole =
    let entry = plain _ fits refl refl in
    (entry, refl, plain_length size _ _ entry refl whole.payload)
spelled size WriteUncorrectable cid nsid slba nlb fuse payload fits whole =
    let entry = plain _ fits refl refl in
    (entry, refl, plain_length size _ _ entry refl whole.payload)
spelled size Compare cid nsid slba nlb fuse payload fits whole =
    let entry = plain _ fits refl refl in
    (entry, refl, plain_length size _ _ entry refl whole.payload)
spelled size WriteZeroes cid nsid slba nlb fuse payload fits whole =
    let entry = plain _ fits refl refl in
    (entry, refl, plain_length size _ _ entry refl whole.payload)
spelled size (Dataset true) cid nsid slba nlb fuse payload fits whole =
    let ranges = whole.payload in
    (with_ranges _ fits refl ranges.slba ranges.nlb refl, ranges.plain, ranges_length payload ranges.some ranges.few ranges.plain)
spelled size (Dataset false) cid nsid slba nlb fuse payload fits whole =
    let ranges = whole.payload in
    (with_ranges _ fits refl ranges.slba ranges.nlb refl, ranges.plain, ranges_length payload ranges.some ranges.few ranges.plain)
spelled size (Other n) cid nsid slba nlb fuse payload fits whole =
    let entry = plain _ fits refl (sym (other n _ whole.op)) in
    (entry, refl, plain_length size _ _ entry refl whole.payload)

pub is_spelling : (size : ℕ) (c : Command) → HasFieldsInRange c → IsWhole size c → IsSpelling size (entry_of c ++ c.payload) c
is_spelling size c fits whole =
    let all : IsSpelled size (entry_of c) c = spelled size c.op c.cid c.nsid c.slba c.nlb c.fuse c.payload fits whole in
    let long : length (entry_of c) ≡ 64 = all.0.whole in
    let front : take 64 (entry_of c ++ c.payload) ≡ entry_of c = subst (λ (n : ℕ). take n (entry_of c ++ c.payload) ≡ entry_of c) long (take-append_seam (entry_of c) c.payload) in
    let back : drop 64 (entry_of c ++ c.payload) ≡ c.payload = subst (λ (n : ℕ). drop n (entry_of c ++ c.payload) ≡ c.payload) long (drop-append_seam (entry_of c) c.payload) in
    record {
      entry = rw front all.0;
      payload = rw back all.1;
      called_for = rw (front, back) all.2;
    }
