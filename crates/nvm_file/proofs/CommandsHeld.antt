-- A command that is read is one that a record of its version can hold, where it stands.
use Rattle.std.proofs.Common.{◌≡◌, ◌⊎◌, ℕ, Bool, true, false, cond, not, ◌&&◌, eqb, leb, IsTrue, List, length, Ok, inl, inr, refl, sym, ap, subst, ◌∙◌}
use Rattle.std.specs.Prelude.{slice_index}
use Rattle.std.proofs.lemmas.Bool.{and_parts, leb-true}
use Rattle.std.proofs.lemmas.Slice.Eq.{bytes_eq-Decides}
use Rattle.std.specs.Str.{bytes_eq}
use Rattle.nvm_record.specs.declared.command.Command.{Command}
use Rattle.nvm_record.specs.declared.entry.EntryFields.{EntryFields}
use Rattle.nvm_record.specs.declared.op.Fuse.{Fuse}
use Rattle.nvm_record.specs.declared.op.Fuse.TheVariants.{Normal, First, Second, Reserved}
use Rattle.nvm_record.specs.declared.op.Op.{Op}
use Rattle.nvm_record.specs.declared.op.Op.TheVariants.{Write, Read, WriteUncorrectable, Compare, WriteZeroes, Dataset, Other}
use Rattle.nvm_record.specs.Entry.{HasDataOf, IsUnknownDataset, IsWhole, data_length}
use Rattle.nvm_record.specs.Op.{carries_ranges, deallocate_of, op_of, IsProperOp}
use Rattle.nvm_record.specs.Ranges.{data_of_ranges, most_ranges, range_count, ranges_of}
use Rattle.nvm_plan.specs.Profile.{is_in_profile}
use Rattle.nvm_audit.specs.declared.version.Version.{Version}
use Rattle.nvm_audit.specs.declared.version.Version.TheVariants.{One, Two}
use Rattle.nvm_audit.specs.Recordable.{HoldsCommand}
use Rattle.nvm_file.specs.declared.scope.Scope.{Scope}
use Rattle.nvm_file.specs.declared.record_fault.RecordFault.TheVariants.{BadValue}
use Rattle.nvm_file.specs.declared.standing.Standing.{Standing}
use Rattle.nvm_file.specs.declared.standing.Standing.TheVariants.{Alone, FirstOfPair, SecondOfPair}
use Rattle.nvm_file.specs.CommandReading.{command_at, command_with, entry_with, fields_in, is_first, is_just, is_second, may_follow, may_stand, op_in, submission_at}
use Rattle.nvm_file.specs.Fields.{◌>>=◌, bytes_at, offset, refused}
use Rattle.nvm_file.proofs.RangeData.{whole_ranges}
use Rattle.nvm_file.proofs.Readings.{bind_ok, has_length, took}

-- What each opcode asks for is proper.
abbrev pub IsProperEach : Type 0
IsProperEach = (opcode : ℕ) (deallocate : Bool) → IsProperOp (op_of opcode deallocate)

-- The command stands well in its job.
abbrev pub StandsWell : Standing → Command → Type 0
StandsWell Alone c = Unit {0}
StandsWell FirstOfPair c = (c.fuse ≡ First) × IsTrue (is_in_profile c.op)
StandsWell SecondOfPair c = (c.fuse ≡ Second) × IsTrue (is_in_profile c.op)

-- What holds of a command that was read.
pub record IsHeldCommand (size : ℕ) (version : Version) (standing : Standing) (c : Command) : Type 0 where
  pub whole : IsWhole size c ⊎ IsUnknownDataset c
  pub known : HoldsCommand version c
  pub stands : StandsWell standing c

-- No opcode but 09h asks for ranges.
no_ranges : (opcode : ℕ) (d : Bool) → eqb opcode 9 ≡ false → carries_ranges (op_of opcode d) ≡ false
no_ranges opcode d e = by (eqb opcode 1) (eqb opcode 2) (eqb opcode 4) (eqb opcode 5) (eqb opcode 8) (eqb opcode 9) e
  where
    by : (one two four five eight nine : Bool) → nine ≡ false
        → carries_ranges (cond one Write (cond two Read (cond four WriteUncorrectable (cond five Compare (cond eight WriteZeroes
        (cond nine (Dataset d) (Other opcode))))))) ≡ false
    by true two four five eight nine e = refl
    by false true four five eight nine e = refl
    by false false true five eight nine e = refl
    by false false false true eight nine e = refl
    by false false false false true nine e = refl
    by false false false false false true e = absurd cc
    by false false false false false false e = refl

not_nine : IsProperOp (Other 9) → ⊥
not_nine h = absurd cc

known_by : IsProperEach → (version : Version) (opcode : ℕ) (d : Bool) (c : Command) → c.op ≡ op_in version opcode d
    → HoldsCommand version c × (IsProperOp c.op ⊎ (c.op ≡ Other 9))
known_by proper Two opcode d c e =
    (λ nine. not_nine (subst IsProperOp (sym e ∙ nine) (proper opcode d)), inl (subst IsProperOp (sym e) (proper opcode d)))
known_by proper One opcode d c e = by (eqb opcode 9) refl e
  where
    by : (b : Bool) → eqb opcode 9 ≡ b → c.op ≡ cond b (Other 9) (op_of opcode d)
        → HoldsCommand One c × (IsProperOp c.op ⊎ (c.op ≡ Other 9))
    by true t h = (subst (λ (o : Op). IsTrue (not (carries_ranges o))) (sym h) refl, inr h)
    by false t h = (
      subst (λ (o : Op). IsTrue (not (carries_ranges o))) (sym h) (ap not (no_ranges opcode d t)),
      inl (subst IsProperOp (sym h) (proper opcode d)),
    )

has_data : (size : ℕ) (op : Op) (c : Command) (nr : ℕ) → length c.payload ≡ data_length size op c.nlb nr
    → (carries_ranges op ≡ true → HasDataOf size op c) → HasDataOf size op c
has_data size Write c nr len ranges = len
has_data size Read c nr len ranges = len
has_data size WriteUncorrectable c nr len ranges = len
has_data size Compare c nr len ranges = len
has_data size WriteZeroes c nr len ranges = len
has_data size (Dataset deallocate) c nr len ranges = ranges refl
has_data size (Other opcode) c nr len ranges = len

whole_by : (size : ℕ) (c : Command) (nr : ℕ) → IsProperOp c.op ⊎ (c.op ≡ Other 9) → length c.payload ≡ data_length size c.op c.nlb nr
    → (carries_ranges c.op ≡ true → HasDataOf size c.op c) → IsWhole size c ⊎ IsUnknownDataset c
whole_by size c nr (inl proper) len ranges = inl (record { payload = has_data size c.op c nr len ranges; op = proper })
whole_by size c nr (inr nine) len ranges =
    inr (record { op = nine; payload = subst (λ (o : Op). length c.payload ≡ data_length size o c.nlb nr) nine len })

first_is : (f : Fuse) → is_first f ≡ true → f ≡ First
first_is Normal e = absurd cc
first_is First e = refl
first_is Second e = absurd cc
first_is Reserved e = absurd cc

second_is : (f : Fuse) → is_second f ≡ true → f ≡ Second
second_is Normal e = absurd cc
second_is First e = absurd cc
second_is Second e = refl
second_is Reserved e = absurd cc

stands_by : (standing : Standing) (f : EntryFields) (payload : List ℕ) → may_stand standing f ≡ true
    → StandsWell standing (command_with f payload)
stands_by Alone f payload e = tt
stands_by FirstOfPair f payload e =
    let h = and_parts (is_first f.fuse) (is_in_profile f.op) e in (first_is f.fuse h.0, h.1)
stands_by SecondOfPair f payload e =
    let h = and_parts (is_second f.fuse) (is_in_profile f.op) e in (second_is f.fuse h.0, h.1)

ranges_by : (size : ℕ) (c : Command) (nr : ℕ) → (carries_ranges c.op ≡ true → (c.slba ≡ 0) × (c.nlb ≡ 0))
    → length c.payload ≡ data_length size c.op c.nlb nr → may_follow c.op c.payload ≡ true
    → carries_ranges c.op ≡ true → HasDataOf size c.op c
unfolding may_follow
ranges_by size c nr place len follows t =
    let test : (leb (range_count c.payload) most_ranges && bytes_eq c.payload (data_of_ranges (ranges_of c.payload))) ≡ true =
    rw t at follows in
    let both = and_parts (leb (range_count c.payload) most_ranges) (bytes_eq c.payload (data_of_ranges (ranges_of c.payload))) test in
    (whole_ranges size c.op c nr t (place t) (leb-true _ _ both.0) len
    ((bytes_eq-Decides c.payload (data_of_ranges (ranges_of c.payload))).0 both.1)).0

-- What was read as the fields of an entry.
record IsSubmission (version : Version) (standing : Standing) (f : EntryFields) : Type 0 where
  entry : List ℕ
  are : f ≡ fields_in version entry
  stands : may_stand standing f ≡ true

submitted : (total : ℕ) (version : Version) (standing : Standing) (bytes : List ℕ) (x : EntryFields × List ℕ)
    → submission_at total version standing bytes ≡ Ok x → IsSubmission version standing x.0
unfolding submission_at is_just
submitted total version standing bytes x e =
    let a = bind_ok (bytes_at total 64 bytes)
    (λ entry. cond (is_just entry.0 standing (fields_in version entry.0)) (Ok (fields_in version entry.0, entry.1)) (refused total bytes)) x e in
    let f = fields_in version a.0.0 in
    let g = took (is_just a.0.0 standing f) (BadValue (offset total bytes)) (f, a.0.1) x a.2 in
    let h = and_parts (bytes_eq a.0.0 (entry_with f)) (may_stand standing f) g.0 in
    subst (λ (y : EntryFields × List ℕ). IsSubmission version standing y.0) g.1 (record { entry = a.0.0; are = refl; stands = h.1 })

place_by : (version : Version) (entry : List ℕ) → carries_ranges (fields_in version entry).op ≡ true
    → ((fields_in version entry).slba ≡ 0) × ((fields_in version entry).nlb ≡ 0)
unfolding fields_in
place_by version entry t = (rw t refl, rw t refl)

op_by : (version : Version) (entry : List ℕ)
    → (fields_in version entry).op ≡ op_in version (slice_index entry 0) (deallocate_of (slice_index entry 44))
unfolding fields_in
op_by version entry = refl

pub command_held : IsProperEach → (scope : Scope) (standing : Standing) (bytes : List ℕ) (x : Command × List ℕ)
    → command_at scope standing bytes ≡ Ok x → IsHeldCommand scope.geometry.block_size scope.version standing x.0
unfolding command_at
command_held proper scope standing bytes x e =
    let size = scope.geometry.block_size in
    let a = bind_ok (submission_at scope.total scope.version standing bytes)
    (λ fields. bytes_at scope.total (data_length size fields.0.op fields.0.nlb fields.0.nr) fields.1
    >>= λ payload. cond (may_follow fields.0.op payload.0) (Ok (command_with fields.0 payload.0, payload.1)) (refused scope.total fields.1)) x e in
    let f = a.0.0 in
    let b = bind_ok (bytes_at scope.total (data_length size f.op f.nlb f.nr) a.0.1)
    (λ payload. cond (may_follow f.op payload.0) (Ok (command_with f payload.0, payload.1)) (refused scope.total a.0.1)) x a.2 in
    let g = took (may_follow f.op b.0.0) (BadValue (offset scope.total a.0.1)) (command_with f b.0.0, b.0.1) x b.2 in
    let s = submitted scope.total scope.version standing bytes a.0 a.1 in
    let len = has_length scope.total (data_length size f.op f.nlb f.nr) a.0.1 b.0 b.1 in
    let c = command_with f b.0.0 in
    let op : c.op ≡ op_in scope.version (slice_index s.entry 0) (deallocate_of (slice_index s.entry 44)) =
    ap (λ (h : EntryFields). h.op) s.are ∙ op_by scope.version s.entry in
    let place : carries_ranges f.op ≡ true → (f.slba ≡ 0) × (f.nlb ≡ 0) =
    subst (λ (h : EntryFields). carries_ranges h.op ≡ true → (h.slba ≡ 0) × (h.nlb ≡ 0)) (sym s.are) (place_by scope.version s.entry) in
    let k = known_by proper scope.version (slice_index s.entry 0) (deallocate_of (slice_index s.entry 44)) c op in
    subst (λ (y : Command × List ℕ). IsHeldCommand size scope.version standing y.0) g.1
    (record {
      whole = whole_by size c f.nr k.1 len (ranges_by size c f.nr place len g.0);
      known = k.0;
      stands = stands_by standing f b.0.0 s.stands;
    })
