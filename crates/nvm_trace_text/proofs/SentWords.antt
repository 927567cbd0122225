-- A command that is written behind its identifier is read again, and none of its words is a mark.
use Rattle.std.proofs.Common.{◌≡◌, ◌≢◌, ℕ, zero, suc, ◌+◌, ◌^◌, ◌<◌, ◌≤◌, ◌==◌, ◌%◌, nat_le, Bool, true, false, if◌then◌else◌, List, [], ◌∷◌, ◌++◌, length, map, codes, decimal, IfSome, Option, Some, None, Result, Ok, Err, refl, sym, ap, ◌∙◌, subst, arith}
use mathlib.Core.Option.{some-injective, some-ne-none}
use Rattle.std.specs.List.{AllByRecursion}
use Rattle.std.proofs.lemmas.Bool.{cond-true, le-leb, eq-eqb}
use Rattle.std.proofs.lemmas.Fmt.{decimal_nonempty}
use Rattle.std.proofs.lemmas.List.{length-append}
use Rattle.std.proofs.lemmas.List.Elements.{recursion_from_All}
use Rattle.nvm_record.specs.BlockSize.{IsBlockSize}
use Rattle.nvm_record.specs.Entry.{HasFieldsInRange, IsWhole}
use Rattle.nvm_record.specs.Lists.{IsAt}
use Rattle.nvm_record.specs.Op.{carries_blocks, carries_ranges}
use Rattle.nvm_record.specs.Ranges.{FitsItsBytes, ranges_of}
use Rattle.nvm_record.specs.declared.command.Command.{Command}
use Rattle.nvm_record.specs.declared.lba_range.LbaRange.{LbaRange}
use Rattle.nvm_record.specs.declared.op.Fuse.{Fuse}
use Rattle.nvm_record.specs.declared.op.Fuse.TheVariants.{Normal, First, Second, Reserved}
use Rattle.nvm_record.specs.declared.op.Op.{Op}
use Rattle.nvm_record.specs.declared.op.Op.TheVariants as ops
use Rattle.nvm_text.specs.Lines.{hex2, name_of, run_text, more_runs_text, runs_text}
use Rattle.nvm_text.specs.Runs.{Run, RunsAreLongest, runs}
use Rattle.nvm_list.specs.Commas.{behind_commas}
use Rattle.nvm_list.specs.Lines.{command}
use Rattle.nvm_list.specs.Listing.{range_text, ranges_text, place_words, data_words, option_words, deallocate_words, fuse_words, cid_words, nsid_words}
use Rattle.nvm_list.specs.Numbers.{number}
use Rattle.nvm_list.specs.declared.expected.Expected.{Expected}
use Rattle.nvm_list.proofs.CommandListing.{IsListable, words_behind, command_again, name_is_word, behind_are_words}
use Rattle.nvm_list.proofs.NumberListing.{decimal_word, number_again}
use Rattle.nvm_list.proofs.PlainText.{IsPlainWord}
use Rattle.nvm_list.proofs.RangeLaws.{RangesFit}
use Rattle.nvm_trace_text.specs.Expecting.{◌>>=◌, as_listed}
use Rattle.nvm_trace_text.specs.Lines.{from_least, field, identified}
use Rattle.nvm_trace_text.specs.Spelled.{CommandFits}
use Rattle.nvm_trace_text.specs.declared.expected.TraceExpected.{TraceExpected}
use Rattle.nvm_trace_text.specs.declared.expected.TraceExpected.TheVariants as expecting
use Rattle.nvm_trace_text.proofs.MarkWords.{IsNot, IsUnmarked}

-- ---- words that are no marks

-- neither `+` nor `=`
pub record IsOther (word : List ℕ) : Type 0 where
  pub plus : IsNot 43 word
  pub equals : IsNot 61 word

pub other_by_length : (word : List ℕ) → length word ≢ 1 → IsOther word
other_by_length word h = record { plus = λ e. h (ap length e); equals = λ e. h (ap length e) }

long_other : (word : List ℕ) → 2 ≤ length word → IsOther word
long_other word h = other_by_length word (λ e. absurd (omega (arith, h, e)))

pub no_number : (n : ℕ) → Some n ≡ None → ⊥
no_number n e = subst (λ (o : Option ℕ). IfSome o (λ _. ⊥)) (sym e) tt

pub decimal_other : (n : ℕ) → n < 2 ^ 64 → IsOther (decimal n)
decimal_other n fits =
    let read : number 18446744073709551615 (decimal n) ≡ Some n = number_again 18446744073709551615 n fits (omega arith) in
    record {
      plus = λ e. no_number n (sym read ∙ ap (number 18446744073709551615) e);
      equals = λ e. no_number n (sym read ∙ ap (number 18446744073709551615) e);
    }

name_other : (op : Op) → IsOther (name_of op)
name_other ops.Write = long_other (name_of ops.Write) (omega arith)
name_other ops.Read = long_other (name_of ops.Read) (omega arith)
name_other ops.WriteUncorrectable = long_other (name_of ops.WriteUncorrectable) (omega arith)
name_other ops.Compare = long_other (name_of ops.Compare) (omega arith)
name_other ops.WriteZeroes = long_other (name_of ops.WriteZeroes) (omega arith)
name_other (ops.Dataset deallocate) = long_other (name_of (ops.Dataset deallocate)) (omega arith)
name_other (ops.Other opcode) = long_other (name_of (ops.Other opcode)) (omega arith)

pub runs_other : (rs : List Run) → IsOther (runs_text rs)
runs_other [] = other_by_length [] (λ e. absurd (omega (arith, e)))
runs_other (r ∷ rs) =
    let whole : length (run_text r ++ more_runs_text rs) ≡ length (run_text r) + length (more_runs_text rs) = length-append (run_text r) (more_runs_text rs) in
    let first : length (run_text r) ≡ length (decimal r.count) + 3 = length-append (decimal r.count) (codes "*" ++ hex2 r.byte) in
    long_other (runs_text (r ∷ rs)) (omega (arith, whole, first))

ranges_other : (rs : List LbaRange) → AllByRecursion FitsItsBytes rs → IsOther (ranges_text rs)
ranges_other [] h = other_by_length [] (λ e. absurd (omega (arith, e)))
ranges_other (r ∷ rs) h =
    let front : 0 < length (decimal r.first) = decimal_nonempty r.first h.0.0 in
    let one : length (range_text r) ≡ length (decimal r.first) + length (codes "+" ++ decimal r.blocks) = length-append (decimal r.first) (codes "+" ++ decimal r.blocks) in
    let whole : length (ranges_text (r ∷ rs)) ≡ length (range_text r) + length (behind_commas (map range_text rs)) = length-append (range_text r) (behind_commas (map range_text rs)) in
    long_other (ranges_text (r ∷ rs)) (omega (arith, front, one, whole))

abbrev AreOther : List (List ℕ) → Type 0
AreOther ws = AllByRecursion IsOther ws

bit_other : (op : Op) (rest : List (List ℕ)) → AreOther rest → AreOther (deallocate_words op ++ rest)
bit_other ops.Write rest h = h
bit_other ops.Read rest h = h
bit_other ops.WriteUncorrectable rest h = h
bit_other ops.Compare rest h = h
bit_other ops.WriteZeroes rest h = h
bit_other (ops.Dataset true) rest h = (long_other (codes "deallocate") (omega arith), h)
bit_other (ops.Dataset false) rest h = h
bit_other (ops.Other opcode) rest h = h

fuse_other : (fuse : Fuse) (rest : List (List ℕ)) → AreOther rest → AreOther (fuse_words fuse ++ rest)
fuse_other Normal rest h = h
fuse_other First rest h = (long_other (codes "first") (omega arith), h)
fuse_other Second rest h = (long_other (codes "second") (omega arith), h)
fuse_other Reserved rest h = (long_other (codes "reserved") (omega arith), h)

cid_other : (b : Bool) (cid : ℕ) (rest : List (List ℕ)) → AreOther rest → AreOther ((if b then [] else (codes "cid=" ++ decimal cid) ∷ []) ++ rest)
cid_other true cid rest h = h
cid_other false cid rest h = (long_other (codes "cid=" ++ decimal cid) (omega arith), h)

nsid_other : (b : Bool) (nsid : ℕ) → AreOther (if b then [] else (codes "nsid=" ++ decimal nsid) ∷ [])
nsid_other true nsid = tt
nsid_other false nsid = (long_other (codes "nsid=" ++ decimal nsid) (omega arith), tt)

options_other : (place : ℕ) (c : Command) → AreOther (option_words place c)
options_other place c =
    bit_other c.op (fuse_words c.fuse ++ (cid_words place c.cid ++ nsid_words c.nsid))
    (fuse_other c.fuse (cid_words place c.cid ++ nsid_words c.nsid) (cid_other (c.cid == place % 65536) c.cid (nsid_words c.nsid) (nsid_other (c.nsid == 1) c.nsid)))

abbrev data_by : Bool → List ℕ → List (List ℕ)
data_by b bytes = if b then runs_text (runs bytes) ∷ [] else []

data_other : (b : Bool) (bytes : List ℕ) (rest : List (List ℕ)) → AreOther rest → AreOther (data_by b bytes ++ rest)
data_other true bytes rest h = (runs_other (runs bytes), h)
data_other false bytes rest h = h

abbrev words_by : Bool → Command → List (List ℕ)
words_by b c = if b then ranges_text (ranges_of c.payload) ∷ [] else place_words c ++ data_words c

operands_other : (b : Bool) (c : Command) (rest : List (List ℕ)) → IsOther (ranges_text (ranges_of c.payload)) → AreOther (place_words c ++ (data_words c ++ rest)) → AreOther rest → AreOther (words_by b c ++ rest)
operands_other true c rest h k hs = (h, hs)
operands_other false c rest h k hs = k

behind_other : (place : ℕ) (c : Command) → HasFieldsInRange c → AllByRecursion FitsItsBytes (ranges_of c.payload) → AreOther (words_behind place c)
behind_other place c fields ranges =
    let n : c.nlb < 2 ^ 16 = fields.nlb in
    let options : AreOther (option_words place c) = options_other place c in
    operands_other (carries_ranges c.op) c (option_words place c) (ranges_other (ranges_of c.payload) ranges)
    (decimal_other c.slba fields.slba, (decimal_other (c.nlb + 1) (omega (arith, n)), data_other (carries_blocks c.op) c.payload (option_words place c) options)) options

-- ---- plain words that are no marks

pub record IsFree (word : List ℕ) : Type 0 where
  pub plain : IsPlainWord word
  pub other : IsOther word

pub decimal_free : (n : ℕ) → n < 2 ^ 64 → IsFree (decimal n)
decimal_free n fits = record { plain = decimal_word n fits; other = decimal_other n fits }

both_free : (ws : List (List ℕ)) → AllByRecursion IsPlainWord ws → AreOther ws → AllByRecursion IsFree ws
both_free [] h k = tt
both_free (w ∷ ws) h k = (record { plain = h.0; other = k.0 }, both_free ws h.1 k.1)

pub words_plain : (ws : List (List ℕ)) → AllByRecursion IsFree ws → AllByRecursion IsPlainWord ws
words_plain [] h = tt
words_plain (w ∷ ws) h = (h.0.plain, words_plain ws h.1)

pub no_plus : (ws : List (List ℕ)) → AllByRecursion IsFree ws → AllByRecursion (IsUnmarked 43) ws
no_plus [] h = tt
no_plus (w ∷ ws) h = (record { plain = h.0.plain; other = h.0.other.plus }, no_plus ws h.1)

pub no_equals : (ws : List (List ℕ)) → AllByRecursion IsFree ws → AllByRecursion (IsUnmarked 61) ws
no_equals [] h = tt
no_equals (w ∷ ws) h = (record { plain = h.0.plain; other = h.0.other.equals }, no_equals ws h.1)

-- ---- a command

-- the words of a command, with its identifier
abbrev pub sent_words : Command → List (List ℕ)
sent_words c = decimal c.cid ∷ name_of c.op ∷ words_behind c.cid c

byte_in : (bytes : List ℕ) → AllByRecursion (λ b. b < 256) bytes → (i byte : ℕ) → IsAt bytes i byte → byte < 256
byte_in [] h i byte at = absurd (some-ne-none byte (sym at))
byte_in (b ∷ bytes) h zero byte at = let same : b ≡ byte = some-injective b byte at in let here : b < 256 = h.0 in omega (arith, same, here)
byte_in (b ∷ bytes) h (suc i) byte at = byte_in bytes h.1 i byte at

pub listable : (size : ℕ) (c : Command) → RangesFit → IsWhole size c → CommandFits c → IsListable size c
listable size c fit whole fits =
    record {
      whole = whole;
      range = record { fields = fits.fields; opcode = fits.opcode; bytes = byte_in c.payload (recursion_from_All (λ b. b < 256) c.payload fits.bytes) };
      ranges = recursion_from_All FitsItsBytes (ranges_of c.payload) (fit c.payload fits.bytes);
    }

pub sent_free : (size : ℕ) (c : Command) → RunsAreLongest → IsBlockSize size → IsListable size c → AllByRecursion IsFree (sent_words c)
sent_free size c longest valid h =
    let fields = h.range.fields in
    let cid : c.cid < 2 ^ 16 = fields.cid in (
      decimal_free c.cid (omega (arith, cid)),
      (
        record { plain = name_is_word size c h; other = name_other c.op },
        both_free (words_behind c.cid c) (behind_are_words size c.cid c longest valid h) (behind_other c.cid c fields h.ranges),
      ),
    )

abbrev pub found : {A : Type 0} → A → List (List ℕ) → Result (A × List (List ℕ)) TraceExpected
found x rest = Ok (x, rest)

pub field_again : (least most : ℕ) (expected : TraceExpected) (n : ℕ) (ws : List (List ℕ)) → n < 2 ^ 64 → least ≤ n → n ≤ most
    → field least most expected (decimal n ∷ ws) ≡ found n ws
field_again least most expected n ws fits low high =
    ap (λ (o : Option ℕ). from_least least expected o >>= λ m. found m ws) (number_again most n fits high)
    ∙ ap (λ (r : Result ℕ TraceExpected). r >>= λ m. found m ws) (cond-true (nat_le least n) (Ok n) (Err expected) (le-leb least n low))

pub identified_again : (size : ℕ) (c : Command) → RunsAreLongest → IsBlockSize size → IsListable size c → identified size (sent_words c) ≡ Ok c
identified_again size c longest valid h =
    let cid : c.cid < 2 ^ 16 = h.range.fields.cid in
    ap (λ (r : Result (ℕ × List (List ℕ)) TraceExpected). r >>= λ n. as_listed (command size n.0 n.1) >>= λ d. if d.cid == n.0 then Ok d else Err expecting.OtherCid)
    (field_again 0 65535 expecting.Cid c.cid (name_of c.op ∷ words_behind c.cid c) (omega (arith, cid)) (omega arith) (omega (arith, cid)))
    ∙ ap (λ (r : Result Command Expected). as_listed r >>= λ d. if d.cid == c.cid then Ok d else Err expecting.OtherCid) (command_again size c.cid c longest valid h)
    ∙ cond-true (c.cid == c.cid) (Ok c) (Err expecting.OtherCid) (eq-eqb c.cid c.cid refl)
