-- The command at the front of the bytes that begin with its spelling is read.
use Rattle.std.proofs.Common.{◌≡◌, ℕ, Bool, true, false, cond, List, [], ◌∷◌, ◌++◌, length, replicate, Ok, refl, sym, ap, ◌∙◌, append_assoc}
use Rattle.std.proofs.lemmas.Bool.{and_from}
use Rattle.std.proofs.lemmas.Slice.Eq.{bytes_eq-Decides}
use Rattle.std.specs.Str.{bytes_eq}
use Rattle.byteorder.specs.Endian.{little_bytes}
use Rattle.nvm_record.specs.declared.command.Command.{Command}
use Rattle.nvm_record.specs.Entry.{data_length, entry_of, range_bits, spelling_of}
use Rattle.nvm_record.specs.Op.{attributes_of, bits_of, carries_ranges, opcode_of}
use Rattle.nvm_audit.specs.declared.version.Version.{Version}
use Rattle.nvm_file.specs.declared.scope.Scope.{Scope}
use Rattle.nvm_file.specs.declared.standing.Standing.{Standing}
use Rattle.nvm_file.specs.CommandReading.{command_at, entry_with, fields_in, is_just, may_follow, may_stand, submission_at}
use Rattle.nvm_file.proofs.CommandsReturn.{fields_by}
use Rattle.nvm_file.proofs.Returning.{bytes_return}

entry_length : (c : Command) → length (entry_of c) ≡ 64
entry_length c = by (carries_ranges c.op)
  where
    by : (b : Bool)
        → length (opcode_of c.op ∷ bits_of c.fuse ∷ (little_bytes 2 c.cid ++ (little_bytes 4 c.nsid ++ (replicate 32 0
        ++ (cond b (range_bits c.payload ∷ 0 ∷ 0 ∷ 0 ∷ attributes_of c.op ∷ 0 ∷ 0 ∷ 0 ∷ []) (little_bytes 8 c.slba)
        ++ (cond b (0 ∷ 0 ∷ []) (little_bytes 2 c.nlb) ++ replicate 14 0)))))) ≡ 64
    by true = refl
    by false = refl

tail_again : (b : Bool) (bits attributes slba nlb : ℕ) → (b ≡ true → nlb ≡ 0)
    → cond b (cond b bits 0 ∷ 0 ∷ 0 ∷ 0 ∷ attributes ∷ 0 ∷ 0 ∷ 0 ∷ []) (little_bytes 8 slba) ++ (little_bytes 2 nlb ++ replicate 14 0)
    ≡ cond b (bits ∷ 0 ∷ 0 ∷ 0 ∷ attributes ∷ 0 ∷ 0 ∷ 0 ∷ []) (little_bytes 8 slba) ++ (cond b (0 ∷ 0 ∷ []) (little_bytes 2 nlb) ++ replicate 14 0)
tail_again true bits attributes slba nlb none =
    λ i. (bits ∷ 0 ∷ 0 ∷ 0 ∷ attributes ∷ 0 ∷ 0 ∷ 0 ∷ []) ++ (little_bytes 2 (none refl i) ++ replicate 14 0)
tail_again false bits attributes slba nlb none = refl

-- The entry of the fields is the command's entry.
entry_again : (c : Command) → (carries_ranges c.op ≡ true → c.nlb ≡ 0) → entry_with (fields_by c) ≡ entry_of c
unfolding entry_with
entry_again c none =
    ap (λ (t : List ℕ). opcode_of c.op ∷ bits_of c.fuse ∷ (little_bytes 2 c.cid ++ (little_bytes 4 c.nsid ++ (replicate 32 0 ++ t))))
    (tail_again (carries_ranges c.op) (range_bits c.payload) (attributes_of c.op) c.slba c.nlb none)

pub submission_again : (total : ℕ) (version : Version) (standing : Standing) (c : Command) (rest : List ℕ)
    → fields_in version (entry_of c) ≡ fields_by c → (carries_ranges c.op ≡ true → c.nlb ≡ 0) → may_stand standing (fields_by c) ≡ true
    → submission_at total version standing (entry_of c ++ rest) ≡ Ok (fields_by c, rest)
unfolding submission_at is_just
submission_again total version standing c rest fields none stands =
    let same : bytes_eq (entry_of c) (entry_with (fields_by c)) ≡ true =
    (bytes_eq-Decides (entry_of c) (entry_with (fields_by c))).1 (sym (entry_again c none)) in
    let test = and_from (bytes_eq (entry_of c) (entry_with (fields_by c))) (may_stand standing (fields_by c)) same stands in
    rw (bytes_return total 64 (entry_of c) rest (entry_length c), fields, test) refl

pub command_again : (scope : Scope) (standing : Standing) (c : Command) (rest : List ℕ)
    → fields_in scope.version (entry_of c) ≡ fields_by c → (carries_ranges c.op ≡ true → c.nlb ≡ 0)
    → may_stand standing (fields_by c) ≡ true
    → length c.payload ≡ data_length scope.geometry.block_size c.op c.nlb (fields_by c).nr → may_follow c.op c.payload ≡ true
    → command_at scope standing (spelling_of c ++ rest) ≡ Ok (c, rest)
unfolding command_at
command_again scope standing c rest fields none stands len follows =
    let regrouped : spelling_of c ++ rest ≡ entry_of c ++ (c.payload ++ rest) = append_assoc (entry_of c) c.payload rest in
    let entry = submission_again scope.total scope.version standing c (c.payload ++ rest) fields none stands in
    let payload = bytes_return scope.total (data_length scope.geometry.block_size c.op c.nlb (fields_by c).nr) c.payload rest len in
    ap (command_at scope standing) regrouped ∙ rw (entry, payload, follows) refl
