-- Commands and jobs that were read are spelled so.
use Rattle.std.proofs.Common.{◌≡◌, ℕ, zero, suc, ◌+◌, ◌*◌, ◌%◌, ◌<◌, ◌≤◌, ◌&&◌, Bool, true, false, cond, List, [], ◌∷◌, ◌++◌, length, replicate, slice_index, Ok, refl, sym, ap, subst, ◌∙◌, arith}
use Rattle.std.specs.Str.{bytes_eq}
use Rattle.std.proofs.lemmas.Bool.{and_parts}
use Rattle.std.proofs.lemmas.Slice.Eq.{bytes_eq-Decides}
use Rattle.byteorder.specs.Endian.{little_bytes}
use Rattle.nvm_record.specs.declared.command.Command.{Command}
use Rattle.nvm_record.specs.declared.entry.EntryFields.{EntryFields}
use Rattle.nvm_record.specs.declared.op.Op.{Op}
use Rattle.nvm_record.specs.declared.op.Op.TheVariants.{Write, Read, WriteUncorrectable, Compare, WriteZeroes, Dataset, Other}
use Rattle.nvm_record.specs.Entry.{data_length, entry_of, range_bits, spelling_of}
use Rattle.nvm_record.specs.Op.{opcode_of, bits_of, attributes_of, carries_ranges, deallocate_of}
use Rattle.nvm_plan.specs.declared.job.Body.{Body}
use Rattle.nvm_plan.specs.declared.job.Body.TheVariants.{Single, Pair}
use Rattle.nvm_plan.specs.declared.job.Job.{Job}
use Rattle.nvm_plan.specs.Fits.{most_hosts}
use Rattle.nvm_audit.specs.declared.version.Version.{Version}
use Rattle.nvm_file.specs.declared.scope.Scope.{Scope}
use Rattle.nvm_file.specs.declared.record_fault.RecordFault.TheVariants.{BadValue}
use Rattle.nvm_file.specs.declared.standing.Standing.{Standing}
use Rattle.nvm_file.specs.declared.standing.Standing.TheVariants.{Alone, FirstOfPair, SecondOfPair}
use Rattle.nvm_file.specs.CommandReading.{op_in, fields_in, place_of_fields, entry_with, is_just, may_stand, submission_at, may_follow, command_with, command_at}
use Rattle.nvm_file.specs.JobReading.{single_at, pair_at, body_at, job_at}
use Rattle.nvm_file.specs.JobSpelling.{body_kind, commands_bytes, job_bytes}
use Rattle.nvm_file.specs.Fields.{offset, bytes_at, number_in}
use Rattle.nvm_file.proofs.FieldSpellings.{Takes, and_then, spelled_as, in_takes, run_are, run_takes}
use Rattle.nvm_file.proofs.NumberBytes.{IsBytes}
use Rattle.nvm_file.proofs.Readings.{bind_ok, has_length, took, ok_is, in_range as is_in}

-- What an entry says keeps to its bytes: the number of ranges is a byte, and what carries ranges has no LBA and no NLB.
pub record KeepsBytes (f : EntryFields) : Type 0 where
  pub ranges : f.nr < 256
  pub count : carries_ranges f.op ≡ true → f.nlb ≡ 0

byte_in : (bytes : List ℕ) (i : ℕ) → IsBytes bytes → slice_index bytes i < 256
byte_in [] i are = omega arith
byte_in (b ∷ bs) zero are = are.0
byte_in (b ∷ bs) (suc i) are = byte_in bs i are.1

small : (b : Bool) (n : ℕ) → n < 256 → cond b n 0 < 256
small true n low = low
small false n low = omega arith

none_where : (b : Bool) (n : ℕ) → b ≡ true → cond b 0 n ≡ 0
none_where true n e = refl
none_where false n e = absurd cc

keeps : (version : Version) (entry : List ℕ) → IsBytes entry → KeepsBytes (fields_in version entry)
unfolding fields_in
keeps version entry are =
    let op = op_in version (slice_index entry 0) (deallocate_of (slice_index entry 44)) in
    record {
      ranges = small (carries_ranges op) (slice_index entry 40) (byte_in entry 40 are);
      count = none_where (carries_ranges op) _;
    }

submission_takes : (total : ℕ) (version : Version) (standing : Standing) (bytes : List ℕ) (x : EntryFields × List ℕ) → IsBytes bytes
    → submission_at total version standing bytes ≡ Ok x → Takes bytes (entry_with x.0) x.1 × KeepsBytes x.0
unfolding submission_at is_just
submission_takes total version standing bytes x are e =
    let a = bind_ok (bytes_at total 64 bytes) _ x e in
    let f = fields_in version a.0.0 in
    let g = took (bytes_eq a.0.0 (entry_with f) && may_stand standing f) (BadValue (offset total bytes)) (f, a.0.1) x a.2 in
    let both = and_parts (bytes_eq a.0.0 (entry_with f)) (may_stand standing f) g.0 in
    let same : a.0.0 ≡ entry_with f = (bytes_eq-Decides a.0.0 (entry_with f)).0 both.0 in
    let run = run_takes total 64 bytes a.0 are a.1 in
    let entry_are = run_are total 64 bytes a.0 are a.1 in
    subst (λ (y : EntryFields × List ℕ). Takes bytes (entry_with y.0) y.1 × KeepsBytes y.0) g.1
    (spelled_as _ _ (entry_with f) _ same run, keeps version a.0.0 entry_are)

ranges_length : (size nlb nr : ℕ) (op : Op) → carries_ranges op ≡ true → data_length size op nlb nr ≡ (nr + 1) * 16
ranges_length size nlb nr Write e = absurd cc
ranges_length size nlb nr Read e = absurd cc
ranges_length size nlb nr WriteUncorrectable e = absurd cc
ranges_length size nlb nr Compare e = absurd cc
ranges_length size nlb nr WriteZeroes e = absurd cc
ranges_length size nlb nr (Dataset deallocate) e = refl
ranges_length size nlb nr (Other opcode) e = absurd cc

bits_again : (payload : List ℕ) (nr : ℕ) → nr < 256 → length payload ≡ (nr + 1) * 16 → range_bits payload ≡ nr
bits_again payload nr low long = omega (arith, low, long)

where_so : (b : Bool) (k l m n : List ℕ) → (b ≡ true → k ≡ l) → (b ≡ false → m ≡ n) → cond b k m ≡ cond b l n
where_so true k l m n same other = same refl
where_so false k l m n same other = other refl

zero_where : (b : Bool) (nlb : ℕ) → (b ≡ true → nlb ≡ 0) → cond b (0 ∷ 0 ∷ []) (little_bytes 2 nlb) ≡ little_bytes 2 nlb
zero_where true nlb none = ap (little_bytes 2) (sym (none refl))
zero_where false nlb none = refl

-- The entry of the command that was read is the one that stood there.
entry_again : (size : ℕ) (f : EntryFields) (payload : List ℕ) → KeepsBytes f → length payload ≡ data_length size f.op f.nlb f.nr
    → entry_of (command_with f payload) ≡ entry_with f
unfolding entry_with
entry_again size f payload k long =
    let b = carries_ranges f.op in
    let place = where_so b (range_bits payload ∷ 0 ∷ 0 ∷ 0 ∷ attributes_of f.op ∷ 0 ∷ 0 ∷ 0 ∷ [])
    (f.nr ∷ 0 ∷ 0 ∷ 0 ∷ attributes_of f.op ∷ 0 ∷ 0 ∷ 0 ∷ []) (little_bytes 8 f.slba) (little_bytes 8 f.slba)
    (λ so. ap (λ n. n ∷ 0 ∷ 0 ∷ 0 ∷ attributes_of f.op ∷ 0 ∷ 0 ∷ 0 ∷ [])
    (bits_again payload f.nr k.ranges (long ∙ ranges_length size f.nlb f.nr f.op so))) (λ _. refl) in
    let count = zero_where b f.nlb k.count in
    let front = λ (l : List ℕ). opcode_of f.op ∷ bits_of f.fuse ∷ (little_bytes 2 f.cid ++ (little_bytes 4 f.nsid ++ (replicate 32 0 ++ l))) in
    ap front (ap (λ l. l ++ (cond b (0 ∷ 0 ∷ []) (little_bytes 2 f.nlb) ++ replicate 14 0)) place
    ∙ ap (λ l. place_of_fields f ++ (l ++ replicate 14 0)) count)

pub command_takes : (scope : Scope) (standing : Standing) (bytes : List ℕ) (x : Command × List ℕ) → IsBytes bytes
    → command_at scope standing bytes ≡ Ok x → Takes bytes (spelling_of x.0) x.1
unfolding command_at
command_takes scope standing bytes x are e =
    let a = bind_ok (submission_at scope.total scope.version standing bytes) _ x e in
    let f = a.0.0 in
    let long = data_length scope.geometry.block_size f.op f.nlb f.nr in
    let b = bind_ok (bytes_at scope.total long a.0.1) _ x a.2 in
    let g = took (may_follow f.op b.0.0) (BadValue (offset scope.total a.0.1)) (command_with f b.0.0, b.0.1) x b.2 in
    let entry = submission_takes scope.total scope.version standing bytes a.0 are a.1 in
    let payload = run_takes scope.total long a.0.1 b.0 entry.0.rest_are b.1 in
    let again = entry_again scope.geometry.block_size f b.0.0 entry.1 (has_length scope.total long a.0.1 b.0 b.1) in
    let first = spelled_as _ _ (entry_of (command_with f b.0.0)) _ (sym again) entry.0 in
    subst (λ (y : Command × List ℕ). Takes bytes (spelling_of y.0) y.1) g.1 (and_then _ _ _ _ _ first payload)

single_takes : (scope : Scope) (bytes : List ℕ) (x : Body × List ℕ) → IsBytes bytes → single_at scope bytes ≡ Ok x
    → Takes bytes (commands_bytes x.0) x.1 × (body_kind x.0 ≡ 0)
unfolding single_at
single_takes scope bytes x are e =
    let a = bind_ok (command_at scope Alone bytes) _ x e in
    subst (λ (y : Body × List ℕ). Takes bytes (commands_bytes y.0) y.1 × (body_kind y.0 ≡ 0)) (ok_is (Single a.0.0, a.0.1) x a.2)
    (command_takes scope Alone bytes a.0 are a.1, refl)

pair_takes : (scope : Scope) (bytes : List ℕ) (x : Body × List ℕ) → IsBytes bytes → pair_at scope bytes ≡ Ok x
    → Takes bytes (commands_bytes x.0) x.1 × (body_kind x.0 ≡ 1)
unfolding pair_at
pair_takes scope bytes x are e =
    let a = bind_ok (command_at scope FirstOfPair bytes) _ x e in
    let b = bind_ok (command_at scope SecondOfPair a.0.1) _ x a.2 in
    let first = command_takes scope FirstOfPair bytes a.0 are a.1 in
    let second = command_takes scope SecondOfPair a.0.1 b.0 first.rest_are b.1 in
    subst (λ (y : Body × List ℕ). Takes bytes (commands_bytes y.0) y.1 × (body_kind y.0 ≡ 1)) (ok_is (Pair a.0.0 b.0.0, b.0.1) x b.2)
    (and_then _ _ _ _ _ first second, refl)

by_kind : (kind : ℕ) (scope : Scope) (bytes : List ℕ) (x : Body × List ℕ) → kind ≤ 1 → IsBytes bytes → body_at kind scope bytes ≡ Ok x
    → Takes bytes (commands_bytes x.0) x.1 × (body_kind x.0 ≡ kind)
by_kind zero scope bytes x high are e = single_takes scope bytes x are e
by_kind (suc zero) scope bytes x high are e = pair_takes scope bytes x are e
by_kind (suc (suc n)) scope bytes x high are e = absurd (omega (arith, high))

pub job_takes : (scope : Scope) (bytes : List ℕ) (x : Job × List ℕ) → IsBytes bytes → job_at scope bytes ≡ Ok x
    → Takes bytes (job_bytes x.0) x.1
unfolding job_at
job_takes scope bytes x are e =
    let a = bind_ok (number_in scope.total 2 1 most_hosts bytes) _ x e in
    let b = bind_ok (number_in scope.total 1 0 1 a.0.1) _ x a.2 in
    let c = bind_ok (body_at b.0.0 scope b.0.1) _ x b.2 in
    let host = in_takes scope.total 2 1 most_hosts bytes a.0 are a.1 in
    let kind = in_takes scope.total 1 0 1 a.0.1 b.0 host.rest_are b.1 in
    let high = (is_in scope.total 1 0 1 a.0.1 b.0 b.1).1 in
    let body = by_kind b.0.0 scope b.0.1 c.0 high kind.rest_are c.1 in
    let byte_is : b.0.0 % 256 ≡ b.0.0 = omega (arith, high) in
    let byte = spelled_as _ _ (body_kind c.0.0 ∷ []) _ (ap (λ k. k ∷ []) (byte_is ∙ sym body.1)) kind in
    subst (λ (y : Job × List ℕ). Takes bytes (job_bytes y.0) y.1) (ok_is (record { host = a.0.0; body = c.0.0 }, c.0.1) x c.2)
    (and_then _ _ _ _ _ (and_then _ _ _ _ _ host byte) body.0)
