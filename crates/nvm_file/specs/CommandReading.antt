-- A command in a record file: its submission entry of 64 bytes, then its data. Each bit that no field names is 0, so a command
-- has one spelling in each version. The first version is older than Dataset Management: its opcode is an unknown one there.
use Rattle.std.specs.Prelude.{◌≡◌, ℕ, ◌==◌, ◌%◌, nat_le, List, [], ◌∷◌, ◌++◌, drop, slice_index, replicate, Bool, true, false, ◌&&◌, if◌then◌else◌, Result, Ok}
use Rattle.std.specs.Str.{bytes_eq}
use Rattle.byteorder.specs.Endian.{little_number, little_bytes}
use Rattle.nvm_record.specs.declared.command.Command.{Command}
use Rattle.nvm_record.specs.declared.entry.EntryFields.{EntryFields}
use Rattle.nvm_record.specs.declared.op.Fuse.{Fuse}
use Rattle.nvm_record.specs.declared.op.Fuse.TheVariants.{Normal, First, Second, Reserved}
use Rattle.nvm_record.specs.declared.op.Op.{Op}
use Rattle.nvm_record.specs.declared.op.Op.TheVariants.{Other}
use Rattle.nvm_record.specs.Entry.{data_length}
use Rattle.nvm_record.specs.Op.{op_of, opcode_of, deallocate_of, attributes_of, fuse_of, bits_of, carries_ranges}
use Rattle.nvm_record.specs.Ranges.{most_ranges, range_count, ranges_of, data_of_ranges}
use Rattle.nvm_plan.specs.Profile.{is_in_profile}
use Rattle.nvm_audit.specs.declared.version.Version.{Version}
use Rattle.nvm_audit.specs.declared.version.Version.TheVariants.{One, Two}
use Rattle.nvm_file.specs.declared.scope.Scope.{Scope}
use Rattle.nvm_file.specs.declared.record_fault.RecordFault.{RecordFault}
use Rattle.nvm_file.specs.declared.standing.Standing.{Standing}
use Rattle.nvm_file.specs.declared.standing.Standing.TheVariants.{Alone, FirstOfPair, SecondOfPair}
use Rattle.nvm_file.specs.Fields.{◌>>=◌, refused, bytes_at}

-- what an opcode asks for: 09h is an unknown opcode to the first version
abbrev pub op_in : Version → ℕ → Bool → Op
op_in One opcode deallocate = if opcode == 9 then Other 9 else op_of opcode deallocate
op_in Two opcode deallocate = op_of opcode deallocate

-- what 64 bytes say, where they are an entry of a command of this opcode
abbrev pub fields_with : Op → List ℕ → EntryFields
fields_with op entry =
    record {
      cid = little_number 2 (drop 2 entry);
      nsid = little_number 4 (drop 4 entry);
      fuse = fuse_of (slice_index entry 1 % 4);
      op = op;
      slba = if carries_ranges op then 0 else little_number 8 (drop 40 entry);
      nlb = if carries_ranges op then 0 else little_number 2 (drop 48 entry);
      nr = if carries_ranges op then slice_index entry 40 else 0;
    }

-- what 64 bytes say, where they are an entry
unfoldable pub fields_in : Version → List ℕ → EntryFields
fields_in version entry = fields_with (op_in version (slice_index entry 0) (deallocate_of (slice_index entry 44))) entry

-- dwords 10 and 11 of an entry: the starting LBA, or the number of ranges and the attributes
abbrev pub place_of_fields : EntryFields → List ℕ
place_of_fields f =
    if carries_ranges f.op
    then f.nr ∷ 0 ∷ 0 ∷ 0 ∷ attributes_of f.op ∷ 0 ∷ 0 ∷ 0 ∷ []
    else little_bytes 8 f.slba

-- the entry that says just this, every bit that no field names being 0
unfoldable pub entry_with : EntryFields → List ℕ
entry_with f =
    opcode_of f.op ∷ bits_of f.fuse ∷
    (little_bytes 2 f.cid ++ (little_bytes 4 f.nsid ++ (replicate 32 0
    ++ (place_of_fields f ++ (little_bytes 2 f.nlb ++ replicate 14 0)))))

abbrev pub is_first : Fuse → Bool
is_first Normal = false
is_first First = true
is_first Second = false
is_first Reserved = false

abbrev pub is_second : Fuse → Bool
is_second Normal = false
is_second First = false
is_second Second = true
is_second Reserved = false

-- A command of these fields may stand there: any by itself, and in a pair a first and then a second, both of the profile.
abbrev pub may_stand : Standing → EntryFields → Bool
may_stand Alone f = true
may_stand FirstOfPair f = is_first f.fuse && is_in_profile f.op
may_stand SecondOfPair f = is_second f.fuse && is_in_profile f.op

-- the bytes are an entry of just these fields, and a command of them may stand there
unfoldable pub is_just : List ℕ → Standing → EntryFields → Bool
is_just entry standing f = bytes_eq entry (entry_with f) && may_stand standing f

-- What carries ranges has no LBA and no NLB.
abbrev pub NamesOnePlace : Op → ℕ → ℕ → Type 0
NamesOnePlace op slba nlb = carries_ranges op ≡ true → (slba ≡ 0) × (nlb ≡ 0)

-- the entry of a command
unfoldable pub submission_at : ℕ → Version → Standing → List ℕ → Result (EntryFields × List ℕ) RecordFault
submission_at total version standing bytes = do
  entry ← bytes_at total 64 bytes
  if is_just entry.0 standing (fields_in version entry.0) then Ok (fields_in version entry.0, entry.1) else refused total bytes

-- the data may follow an entry of this opcode: ranges are 256 at most, and their context attributes are 0
unfoldable pub may_follow : Op → List ℕ → Bool
may_follow op payload =
    if carries_ranges op
    then nat_le (range_count payload) most_ranges && bytes_eq payload (data_of_ranges (ranges_of payload)) else true

-- the command of these fields and this data
abbrev pub command_with : EntryFields → List ℕ → Command
command_with f payload =
    record { cid = f.cid; nsid = f.nsid; fuse = f.fuse; op = f.op; slba = f.slba; nlb = f.nlb; payload = payload }

-- a command: its entry, then the data that it calls for
unfoldable pub command_at : Scope → Standing → List ℕ → Result (Command × List ℕ) RecordFault
command_at scope standing bytes = do
  fields ← submission_at scope.total scope.version standing bytes
  payload ← bytes_at scope.total (data_length scope.geometry.block_size fields.0.op fields.0.nlb fields.0.nr) fields.1
  if may_follow fields.0.op payload.0 then Ok (command_with fields.0 payload.0, payload.1) else refused scope.total fields.1
