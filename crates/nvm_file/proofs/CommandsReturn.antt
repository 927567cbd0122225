-- A command that is spelled is read again, in each version that has it.
use Rattle.std.proofs.Common.{◌≡◌, ◌⊎◌, ℕ, ◌%◌, Bool, true, false, cond, eqb, List, [], ◌∷◌, ◌++◌, drop, replicate, inl, inr, refl, sym, ap, subst, ◌∙◌}
use Rattle.std.specs.Prelude.{slice_index}
use Rattle.std.proofs.lemmas.Bool.{eqb-true}
use Rattle.byteorder.specs.Endian.{little_bytes, little_number}
use Rattle.byteorder.specs.Numbers.{little_number-reads_back}
use Rattle.nvm_record.specs.declared.command.Command.{Command}
use Rattle.nvm_record.specs.declared.entry.EntryFields.{EntryFields}
use Rattle.nvm_record.specs.declared.op.Fuse.{Fuse}
use Rattle.nvm_record.specs.declared.op.Fuse.TheVariants.{Normal, First, Second, Reserved}
use Rattle.nvm_record.specs.declared.op.Op.{Op}
use Rattle.nvm_record.specs.declared.op.Op.TheVariants.{Write, Read, WriteUncorrectable, Compare, WriteZeroes, Dataset, Other}
use Rattle.nvm_record.specs.Entry.{HasFieldsInRange, entry_of, range_bits}
use Rattle.nvm_record.specs.Op.{attributes_of, bits_of, carries_ranges, deallocate_of, fuse_of, op_of, opcode_of, IsProperOp}
use Rattle.nvm_audit.specs.declared.version.Version.{Version}
use Rattle.nvm_audit.specs.declared.version.Version.TheVariants.{One, Two}
use Rattle.nvm_file.specs.CommandReading.{fields_in, fields_with, op_in}

-- what the entry of the command says
abbrev pub fields_by : Command → EntryFields
fields_by c =
    record {
      cid = c.cid;
      nsid = c.nsid;
      fuse = c.fuse;
      op = c.op;
      slba = c.slba;
      nlb = c.nlb;
      nr = cond (carries_ranges c.op) (range_bits c.payload) 0;
    }

fuse_back : (fuse : Fuse) → fuse_of (bits_of fuse % 4) ≡ fuse
fuse_back Normal = refl
fuse_back First = refl
fuse_back Second = refl
fuse_back Reserved = refl

-- what stands behind the numbers of the command and of its namespace
behind_nsid : Command → List ℕ
behind_nsid c = replicate 32 0 ++ (little_bytes 8 c.slba ++ (little_bytes 2 c.nlb ++ replicate 14 0))

-- the entry of a command without ranges
abbrev plain_entry : Command → List ℕ
plain_entry c =
    opcode_of c.op ∷ bits_of c.fuse ∷
    (little_bytes 2 c.cid ++ (little_bytes 4 c.nsid ++ (replicate 32 0 ++ (little_bytes 8 c.slba ++ (little_bytes 2 c.nlb ++ replicate 14 0)))))

entry_is_plain : (c : Command) → carries_ranges c.op ≡ false → entry_of c ≡ plain_entry c
entry_is_plain c none = rw none refl

-- A command without ranges: its entry says its fields, where it is taken for the same opcode.
pub plain_back : (c : Command) → carries_ranges c.op ≡ false → HasFieldsInRange c → fields_with c.op (entry_of c) ≡ fields_by c
unfolding behind_nsid
plain_back c none range =
    let cid : little_number 2 (drop 2 (plain_entry c)) ≡ c.cid =
    little_number-reads_back 2 c.cid (little_bytes 4 c.nsid ++ behind_nsid c) range.cid in
    let nsid : little_number 4 (drop 4 (plain_entry c)) ≡ c.nsid = little_number-reads_back 4 c.nsid (behind_nsid c) range.nsid in
    let slba : little_number 8 (drop 40 (plain_entry c)) ≡ c.slba =
    little_number-reads_back 8 c.slba (little_bytes 2 c.nlb ++ replicate 14 0) range.slba in
    let nlb : little_number 2 (drop 48 (plain_entry c)) ≡ c.nlb = little_number-reads_back 2 c.nlb (replicate 14 0) range.nlb in
    let place : cond (carries_ranges c.op) 0 (little_number 8 (drop 40 (plain_entry c))) ≡ c.slba = rw none slba in
    let count : cond (carries_ranges c.op) 0 (little_number 2 (drop 48 (plain_entry c))) ≡ c.nlb = rw none nlb in
    let nr : cond (carries_ranges c.op) (slice_index (plain_entry c) 40) 0 ≡ cond (carries_ranges c.op) (range_bits c.payload) 0 = rw none refl in
    let same : fields_with c.op (plain_entry c) ≡ fields_by c = λ i. record {
      cid = cid i;
      nsid = nsid i;
      fuse = fuse_back c.fuse i;
      op = c.op;
      slba = place i;
      nlb = count i;
      nr = nr i;
    } in
    ap (fields_with c.op) (entry_is_plain c none) ∙ same

-- An opcode without a name has none whatever the Deallocate bit.
by_tests : (a b c d e f : Bool) (n : ℕ) (deallocate : Bool)
    → cond a Write (cond b Read (cond c WriteUncorrectable (cond d Compare (cond e WriteZeroes (cond f (Dataset false) (Other n)))))) ≡ Other n
    → cond a Write (cond b Read (cond c WriteUncorrectable (cond d Compare (cond e WriteZeroes (cond f (Dataset deallocate) (Other n)))))) ≡ Other n
by_tests true b c d e f n deallocate h = absurd cc
by_tests false true c d e f n deallocate h = absurd cc
by_tests false false true d e f n deallocate h = absurd cc
by_tests false false false true e f n deallocate h = absurd cc
by_tests false false false false true f n deallocate h = absurd cc
by_tests false false false false false true n deallocate h = absurd cc
by_tests false false false false false false n deallocate h = refl

other_back : (n : ℕ) (d : Bool) → IsProperOp (Other n) → op_of n d ≡ Other n
other_back n d h = by_tests (eqb n 1) (eqb n 2) (eqb n 4) (eqb n 5) (eqb n 8) (eqb n 9) n d h

other_in_first : (n : ℕ) (d : Bool) → IsProperOp (Other n) → op_in One n d ≡ Other n
other_in_first n d h = by (eqb n 9) refl
  where
    by : (b : Bool) → eqb n 9 ≡ b → cond b (Other 9) (op_of n d) ≡ Other n
    by true t = ap (λ (k : ℕ). Other k) (sym (eqb-true n 9 t))
    by false t = other_back n d h

-- What is asked for without ranges is read of its opcode, in a version that has it.
pub op_back : (version : Version) (op : Op) (d : Bool) → carries_ranges op ≡ false
    → IsProperOp op ⊎ ((version ≡ One) × (op ≡ Other 9)) → op_in version (opcode_of op) d ≡ op
op_back One Write d none known = refl
op_back One Read d none known = refl
op_back One WriteUncorrectable d none known = refl
op_back One Compare d none known = refl
op_back One WriteZeroes d none known = refl
op_back One (Dataset deallocate) d none known = absurd cc
op_back One (Other n) d none (inl proper) = other_in_first n d proper
op_back One (Other n) d none (inr nine) = subst (λ (o : Op). op_in One (opcode_of o) d ≡ o) (sym nine.1) refl
op_back Two Write d none known = refl
op_back Two Read d none known = refl
op_back Two WriteUncorrectable d none known = refl
op_back Two Compare d none known = refl
op_back Two WriteZeroes d none known = refl
op_back Two (Dataset deallocate) d none known = absurd cc
op_back Two (Other n) d none (inl proper) = other_back n d proper
op_back Two (Other n) d none (inr nine) = absurd (two_is_not nine.0)
  where
    two_is_not : Two ≡ One → ⊥
    two_is_not e = cc

-- The entry of a command without ranges says its fields, in a version that has it.
pub fields_back : (version : Version) (c : Command) → carries_ranges c.op ≡ false
    → IsProperOp c.op ⊎ ((version ≡ One) × (c.op ≡ Other 9)) → HasFieldsInRange c → fields_in version (entry_of c) ≡ fields_by c
unfolding fields_in
fields_back version c none known range =
    ap (λ (o : Op). fields_with o (entry_of c)) (op_back version c.op (deallocate_of (slice_index (entry_of c) 44)) none known)
    ∙ plain_back c none range

-- the entry of the command, were its opcode this one
abbrev entry_for : Op → Command → List ℕ
entry_for op c =
    opcode_of op ∷ bits_of c.fuse ∷ (little_bytes 2 c.cid ++ (little_bytes 4 c.nsid ++ (replicate 32 0
    ++ (cond (carries_ranges op) (range_bits c.payload ∷ 0 ∷ 0 ∷ 0 ∷ attributes_of op ∷ 0 ∷ 0 ∷ 0 ∷ []) (little_bytes 8 c.slba)
    ++ (cond (carries_ranges op) (0 ∷ 0 ∷ []) (little_bytes 2 c.nlb) ++ replicate 14 0)))))

-- what it says then
abbrev fields_for : Op → Command → EntryFields
fields_for op c =
    record {
      cid = c.cid;
      nsid = c.nsid;
      fuse = c.fuse;
      op = op;
      slba = c.slba;
      nlb = c.nlb;
      nr = cond (carries_ranges op) (range_bits c.payload) 0;
    }

deallocate_back : (deallocate : Bool) → deallocate_of (attributes_of (Dataset deallocate)) ≡ deallocate
deallocate_back true = refl
deallocate_back false = refl

behind_nsid_of_ranges : Bool → Command → List ℕ
behind_nsid_of_ranges deallocate c =
    replicate 32 0 ++ (range_bits c.payload ∷ 0 ∷ 0 ∷ 0 ∷ attributes_of (Dataset deallocate) ∷ 0 ∷ 0 ∷ 0 ∷ 0 ∷ 0 ∷ replicate 14 0)

ranges_back : (c : Command) (deallocate : Bool) → c.slba ≡ 0 → c.nlb ≡ 0 → HasFieldsInRange c
    → fields_in Two (entry_for (Dataset deallocate) c) ≡ fields_for (Dataset deallocate) c
unfolding fields_in behind_nsid_of_ranges
ranges_back c deallocate slba nlb range =
    let cid : little_number 2 (drop 2 (entry_for (Dataset deallocate) c)) ≡ c.cid =
    little_number-reads_back 2 c.cid (little_bytes 4 c.nsid ++ behind_nsid_of_ranges deallocate c) range.cid in
    let nsid : little_number 4 (drop 4 (entry_for (Dataset deallocate) c)) ≡ c.nsid =
    little_number-reads_back 4 c.nsid (behind_nsid_of_ranges deallocate c) range.nsid in
    λ i. record {
      cid = cid i;
      nsid = nsid i;
      fuse = fuse_back c.fuse i;
      op = Dataset (deallocate_back deallocate i);
      slba = sym slba i;
      nlb = sym nlb i;
      nr = range_bits c.payload;
    }

-- The entry of a Dataset Management says its fields, in the second version.
pub dataset_back : (c : Command) (deallocate : Bool) → c.op ≡ Dataset deallocate → c.slba ≡ 0 → c.nlb ≡ 0 → HasFieldsInRange c
    → fields_in Two (entry_of c) ≡ fields_by c
dataset_back c deallocate op slba nlb range =
    subst (λ (o : Op). fields_in Two (entry_for o c) ≡ fields_for o c) (sym op) (ranges_back c deallocate slba nlb range)
