-- Commands that are read have exactly the data that they call for, and proper opcodes; and they aren't many.
use Rattle.std.proofs.Common.{◌≡◌, ℕ, suc, ◌+◌, ◌*◌, ◌≤◌, ◌==◌, ◌&&◌, nat_lt, nat_le, Bool, true, false, if◌then◌else◌, List, [], ◌∷◌, length, take, drop, codes, Option, Some, None, Result, Ok, Err, IfOk, Vec, Global, All, refl, sym, ap, ◌∙◌, arith}
use Rattle.std.specs.Str.{bytes_eq, all_ascii_digits}
use Rattle.std.specs.List.{slice_split, before_first, after_first, count_by, AllByRecursion}
use Rattle.std.specs.Option.{IfSome}
use Rattle.std.proofs.lemmas.Bool.{cond_both, both_ways, and_parts, eqb-true, leb-true}
use Rattle.std.proofs.lemmas.Result.{IfOk-at_ok}
use Rattle.std.proofs.lemmas.List.Elements.{All-from_recursion}
use Rattle.std.proofs.lemmas.List.{length-append, length-replicate}
use Rattle.std.proofs.lemmas.List.FromFn.{length-map-range_with_len}
use Rattle.std.proofs.lemmas.List.Splits.{length-slice_split}
use Rattle.nvm_record.specs.Op.{op_of, IsProperOp, carries_blocks, carries_ranges}
use Rattle.nvm_record.specs.Ranges.{FitsItsBytes, range_at, range_count, ranges_of, data_of_ranges}
use Rattle.nvm_record.specs.declared.lba_range.LbaRange.{LbaRange}
use Rattle.nvm_record.specs.Entry.{HasDataOf, IsWhole}
use Rattle.nvm_record.specs.declared.op.Op.{Op}
use Rattle.nvm_record.specs.declared.op.Op.TheVariants.{Write, Read, WriteUncorrectable, Compare, WriteZeroes, Dataset, Other}
use Rattle.nvm_record.specs.declared.command.Command.{Command}
use Rattle.nvm_text.specs.Runs.{Run, written_out}
use Rattle.nvm_text.specs.Lines.{name_of}
use Rattle.nvm_list.specs.Words.{is, first, others, words, text_lines}
use Rattle.nvm_list.specs.Numbers.{value_after, is_number, number, hex_byte}
use Rattle.nvm_list.specs.Expecting.{◌>>=◌}
use Rattle.nvm_list.specs.Names.{unnamed, of_opcode, other_operation, operation}
use Rattle.nvm_list.specs.Commas.{with_part, read_each, read_parts}
use Rattle.nvm_list.specs.Ranges.{range_from, read_range, few_ranges, ranges}
use Rattle.nvm_list.specs.Data.{read_run, total, data_of_runs, data_by, payload}
use Rattle.nvm_list.specs.Options.{Options, options}
use Rattle.nvm_list.specs.Lines.{lba, nlb, carried, on_blocks, on_ranges, operands, with_bit, command_of, command}
use Rattle.nvm_list.specs.Lists.{command_at, at_line, on_line, in_front, followed_by, commands_from, commands}
use Rattle.nvm_list.specs.declared.expected.Expected.{Expected}
use Rattle.nvm_list.specs.declared.expected.Expected.TheVariants.{Name, DataLength, RangeCount, NoMoreCommands}
use Rattle.nvm_list.specs.declared.operands.Operands.{Operands}
use Rattle.nvm_list.specs.declared.fault.ListFault.{ListFault}
use Rattle.nvm_list.proofs.RangeLaws.{RangesAreReadBack}

-- ---- the operation

abbrev IsProperRead : Result Op Expected → Type 0
IsProperRead read = IfOk read IsProperOp

unnamed_proper : (op : Op) → IsProperOp op → IsProperRead (unnamed op)
unnamed_proper Write h = tt
unnamed_proper Read h = tt
unnamed_proper WriteUncorrectable h = tt
unnamed_proper Compare h = tt
unnamed_proper WriteZeroes h = tt
unnamed_proper (Dataset deallocate) h = tt
unnamed_proper (Other n) h = h

other_by : (b : Bool) (read : Result Op Expected) → IsProperRead read → IsProperRead (if b then read else Err Name)
other_by true read h = h
other_by false read h = tt

named_by : (a b c d e f : Bool) (read : Result Op Expected) → IsProperRead read
    → IsProperRead (if a then Ok Write else if b then Ok Read else if c then Ok WriteUncorrectable else if d then Ok Compare else if e then Ok WriteZeroes else if f then Ok (Dataset false) else read)
named_by true b c d e f read h = tt
named_by false true c d e f read h = tt
named_by false false true d e f read h = tt
named_by false false false true e f read h = tt
named_by false false false false true f read h = tt
named_by false false false false false true read h = tt
named_by false false false false false false read h = h

bit_proper : (deallocate : Bool) (op : Op) → IsProperOp op → IsProperOp (with_bit deallocate op)
bit_proper deallocate Write h = tt
bit_proper deallocate Read h = tt
bit_proper deallocate WriteUncorrectable h = tt
bit_proper deallocate Compare h = tt
bit_proper deallocate WriteZeroes h = tt
bit_proper deallocate (Dataset bit) h = tt
bit_proper deallocate (Other n) h = h

-- ---- the data

pub length_written : (runs : List Run) → length (written_out runs) ≡ total runs
length_written [] = refl
length_written (run ∷ runs) = let rest = length_written runs in omega (arith, length-append {A = ℕ}, length-replicate {A = ℕ}, rest)

abbrev HasLength : ℕ → Result (List ℕ) Expected → Type 0
HasLength n read = IfOk read (λ bytes. length bytes ≡ n)

runs_long : (wanted : ℕ) (runs : Option (List Run)) → HasLength wanted (data_of_runs wanted runs)
runs_long wanted None = tt
runs_long wanted (Some runs) = cond_both (total runs == wanted) (Ok (written_out runs)) (Err (DataLength wanted (total runs))) (HasLength wanted) (λ e. length_written runs ∙ eqb-true (total runs) wanted e) (λ _. tt)

data_long : (wanted : ℕ) (byte : Option ℕ) (word : List ℕ) → HasLength wanted (data_by wanted byte word)
data_long wanted (Some byte) word = length-replicate wanted byte
data_long wanted None word = runs_long wanted (read_parts read_run word)

abbrev IsCarried : ℕ → Result (List ℕ × List (List ℕ)) Expected → Type 0
IsCarried n read = IfOk read (λ x. length x.0 ≡ n)

with_rest : (n : ℕ) (read : Result (List ℕ) Expected) (rest : List (List ℕ)) → HasLength n read → IsCarried n (read >>= λ bytes. Ok (bytes, rest))
with_rest n (Ok bytes) rest h = h
with_rest n (Err e) rest h = tt

carried_by : (carries : Bool) (n : ℕ) (ws : List (List ℕ)) → IsCarried (if carries then n else 0) (if carries then (payload n (first ws) >>= λ bytes. Ok (bytes, others ws)) else Ok ([], ws))
carried_by true n ws = with_rest n (payload n (first ws)) (others ws) (data_long n (hex_byte (first ws)) (first ws))
carried_by false n ws = refl

-- ---- the ranges

number_low : (most : ℕ) (word : List ℕ) → IfSome (number most word) (λ n. n ≤ most)
number_low most word =
    cond_both (is_number most word) (Some (value_after 0 word)) None (λ (n : Option ℕ). IfSome n (λ m. m ≤ most))
    (λ e. leb-true (value_after 0 word) most (and_parts (nat_lt 0 (length word) && all_ascii_digits word) (nat_le (value_after 0 word) most) e).1) (λ _. tt)

range_fits_by : (first blocks : Option ℕ) → IfSome first (λ n. n ≤ 18446744073709551615) → IfSome blocks (λ n. n ≤ 4294967295) → IfSome (range_from first blocks) FitsItsBytes
range_fits_by None blocks h k = tt
range_fits_by (Some first) None h k = tt
range_fits_by (Some first) (Some blocks) h k = (omega arith, omega arith)

range_fits : (text : List ℕ) → IfSome (read_range text) FitsItsBytes
range_fits text =
    range_fits_by (number 18446744073709551615 (before_first (is 43) text)) (number 4294967295 (after_first (is 43) text))
    (number_low 18446744073709551615 (before_first (is 43) text)) (number_low 4294967295 (after_first (is 43) text))

-- `count` ranges, and each fits
record AreFitting (count : ℕ) (rs : List LbaRange) : Type 0 where
  long : length rs ≡ count
  each : AllByRecursion FitsItsBytes rs

one_more : (count : ℕ) (r : Option LbaRange) (rs : Option (List LbaRange)) → IfSome r FitsItsBytes → IfSome rs (AreFitting count) → IfSome (with_part r rs) (AreFitting (suc count))
one_more count None rs h k = tt
one_more count (Some r) None h k = tt
one_more count (Some r) (Some rs) h k = record { long = ap (λ (n : ℕ). suc n) k.long; each = (h, k.each) }

each_fits : (texts : List (List ℕ)) → IfSome (read_each read_range texts) (AreFitting (length texts))
each_fits [] = record { long = refl; each = tt }
each_fits (text ∷ texts) = one_more (length texts) (read_range text) (read_each read_range texts) (range_fits text) (each_fits texts)

-- 1 to 256 ranges, and each fits
record AreRanges (rs : List LbaRange) : Type 0 where
  some : 1 ≤ length rs
  few : length rs ≤ 256
  each : AllByRecursion FitsItsBytes rs

few_read : (count : ℕ) (rs : Option (List LbaRange)) → 1 ≤ count → IfSome rs (AreFitting count) → IfOk (few_ranges rs) AreRanges
few_read count None some h = tt
few_read count (Some rs) some h =
    let long : length rs ≡ count = h.long in
    cond_both (nat_le (length rs) 256) (Ok rs) (Err (RangeCount (length rs))) (λ (r : Result (List LbaRange) Expected). IfOk r AreRanges)
    (λ e. record { some = omega arith; few = leb-true (length rs) 256 e; each = h.each }) (λ _. tt)

ranges_read : (word : List ℕ) → IfOk (ranges word) AreRanges
ranges_read word =
    let long : length (slice_split (is 44) word) ≡ count_by (is 44) word + 1 = length-slice_split (is 44) word in
    few_read (length (slice_split (is 44) word)) (read_parts read_range word) (omega arith) (each_fits (slice_split (is 44) word))

-- ---- what the command is on

-- what a command on ranges is on
record AreRangeOperands (on : Operands) : Type 0 where
  slba : on.slba ≡ 0
  nlb : on.nlb ≡ 0
  some : 1 ≤ range_count on.payload
  few : range_count on.payload ≤ 256
  plain : on.payload ≡ data_of_ranges (ranges_of on.payload)

-- what a command with this operation is on
record AreOperands (size : ℕ) (op : Op) (on : Operands) : Type 0 where
  ranges : carries_ranges op ≡ true → AreRangeOperands on
  blocks : carries_ranges op ≡ false → length on.payload ≡ (if carries_blocks op then (on.nlb + 1) * size else 0)

has_data : (size place : ℕ) (op : Op) (on : Operands) (o : Options) → AreOperands size op on → HasDataOf size (with_bit o.deallocate op) (command_of place op on o)
has_data size place Write on o h = h.blocks refl
has_data size place Read on o h = h.blocks refl
has_data size place WriteUncorrectable on o h = h.blocks refl
has_data size place Compare on o h = h.blocks refl
has_data size place WriteZeroes on o h = h.blocks refl
has_data size place (Dataset bit) on o h = let r = h.ranges refl in record { slba = r.slba; nlb = r.nlb; some = r.some; few = r.few; plain = r.plain }
has_data size place (Other n) on o h = h.blocks refl

abbrev AreOperandsRead : ℕ → Op → Result (Operands × List (List ℕ)) Expected → Type 0
AreOperandsRead size op read = IfOk read (λ x. AreOperands size op x.0)

block_operands : (size : ℕ) (op : Op) (slba n : ℕ) (read : Result (List ℕ × List (List ℕ)) Expected) → carries_ranges op ≡ false → IsCarried (if carries_blocks op then (n + 1) * size else 0) read
    → AreOperandsRead size op (read >>= λ bytes. Ok (record { slba = slba; nlb = n; payload = bytes.0 }, bytes.1))
block_operands size op slba n (Ok bytes) none long = record { ranges = λ e. absurd (both_ways (carries_ranges op) none e); blocks = λ _. long }
block_operands size op slba n (Err e) none long = tt

on_blocks_read : (size : ℕ) (op : Op) (slba n : Result ℕ Expected) (ws : List (List ℕ)) → carries_ranges op ≡ false
    → AreOperandsRead size op (slba >>= λ l. n >>= λ m. carried size op m ws >>= λ bytes. Ok (record { slba = l; nlb = m; payload = bytes.0 }, bytes.1))
on_blocks_read size op (Err e) n ws none = tt
on_blocks_read size op (Ok slba) (Err e) ws none = tt
on_blocks_read size op (Ok slba) (Ok n) ws none = block_operands size op slba n (carried size op n ws) none (carried_by (carries_blocks op) ((n + 1) * size) ws)

range_operands : (size : ℕ) (op : Op) (read : Result (List LbaRange) Expected) (rest : List (List ℕ)) → RangesAreReadBack → carries_ranges op ≡ true → IfOk read AreRanges
    → AreOperandsRead size op (read >>= λ rs. Ok (record { slba = 0; nlb = 0; payload = data_of_ranges rs }, rest))
range_operands size op (Err e) rest back is h = tt
range_operands size op (Ok rs) rest back is h =
    let again : ranges_of (data_of_ranges rs) ≡ rs = back rs (All-from_recursion FitsItsBytes rs h.each) in
    let long : length (ranges_of (data_of_ranges rs)) ≡ range_count (data_of_ranges rs) = length-map-range_with_len (range_at (data_of_ranges rs)) 0 (range_count (data_of_ranges rs)) in
    let same : length (ranges_of (data_of_ranges rs)) ≡ length rs = ap length again in
    let some : 1 ≤ length rs = h.some in
    let few : length rs ≤ 256 = h.few in
    record {
      ranges = λ _. record { slba = refl; nlb = refl; some = omega arith; few = omega arith; plain = ap data_of_ranges (sym again) };
      blocks = λ none. absurd (both_ways (carries_ranges op) none is);
    }

operands_read : (size : ℕ) (op : Op) (ws : List (List ℕ)) → RangesAreReadBack → AreOperandsRead size op (operands size op ws)
operands_read size op ws back =
    cond_both (carries_ranges op) (on_ranges ws) (on_blocks size op ws) (AreOperandsRead size op)
    (λ is. range_operands size op (ranges (first ws)) (others ws) back is (ranges_read (first ws)))
    (λ none. on_blocks_read size op (lba (first ws)) (nlb (first (others ws))) (others (others ws)) none)

-- ---- the line

abbrev IsWholeRead : ℕ → Result Command Expected → Type 0
IsWholeRead size read = IfOk read (IsWhole size)

with_options : (size place : ℕ) (op : Op) (on : Operands) (o : Result Options Expected) → IsProperOp op → AreOperands size op on
    → IsWholeRead size (o >>= λ given. Ok (command_of place op on given))
with_options size place op on (Ok o) proper h = record { payload = has_data size place op on o h; op = bit_proper o.deallocate op proper }
with_options size place op on (Err e) proper h = tt

with_operands : (size place : ℕ) (op : Op) (read : Result (Operands × List (List ℕ)) Expected) → IsProperOp op → AreOperandsRead size op read
    → IsWholeRead size (read >>= λ on. options (carries_ranges op) on.1 >>= λ o. Ok (command_of place op on.0 o))
with_operands size place op (Ok on) proper h = with_options size place op on.0 (options (carries_ranges op) on.1) proper h
with_operands size place op (Err e) proper h = tt

with_operation : (size place : ℕ) (op : Result Op Expected) (ws : List (List ℕ)) → RangesAreReadBack → IsProperRead op
    → IsWholeRead size (op >>= λ p. operands size p ws >>= λ on. options (carries_ranges p) on.1 >>= λ o. Ok (command_of place p on.0 o))
with_operation size place (Err e) ws back proper = tt
with_operation size place (Ok op) ws back proper = with_operands size place op (operands size op ws) proper (operands_read size op ws back)

-- ---- the list

-- whole commands, of which the first is at this place
pub record AreWhole (size place : ℕ) (cs : List Command) : Type 0 where
  pub whole : AllByRecursion (IsWhole size) cs
  pub few : place + length cs ≤ 65537

abbrev AreWholeRead : ℕ → ℕ → Result (List Command) ListFault → Type 0
AreWholeRead size place read = IfOk read (AreWhole size place)

in_front_whole : (size place : ℕ) (c : Command) (behind : Result (List Command) ListFault) → IsWhole size c → AreWholeRead size (place + 1) behind → AreWholeRead size place (in_front c behind)
in_front_whole size place c (Err e) whole rest = tt
in_front_whole size place c (Ok cs) whole rest = let few : place + 1 + length cs ≤ 65537 = rest.few in record { whole = (whole, rest.whole); few = omega arith }

followed_whole : (size line place : ℕ) (here : Result Command Expected) (behind : ℕ → Result (List Command) ListFault) → IfOk here (λ c. IsWhole size c × (place ≤ 65536))
    → ((next : ℕ) → next ≤ 65537 → AreWholeRead size next (behind next)) → AreWholeRead size place (followed_by (at_line line here) place behind)
followed_whole size line place (Err e) behind h rest = tt
followed_whole size line place (Ok c) behind h rest = let few : place ≤ 65536 = h.1 in in_front_whole size place c (behind (place + 1)) h.0 (rest (place + 1) (omega arith))

at_place : (size place : ℕ) (read : Result Command Expected) → place ≤ 65536 → IsWholeRead size read → IfOk read (λ c. IsWhole size c × (place ≤ 65536))
at_place size place (Ok c) few whole = (whole, few)
at_place size place (Err e) few whole = tt

-- ---- where each opcode asks for something proper, and ranges are read back

module _ (proper : (n : ℕ) (deallocate : Bool) → IsProperOp (op_of n deallocate)) (back : RangesAreReadBack) where
  opcode_proper : (opcode : Option ℕ) → IsProperRead (of_opcode opcode)
  opcode_proper None = tt
  opcode_proper (Some n) = unnamed_proper (op_of n false) (proper n false)

  other_proper : (word : List ℕ) → IsProperRead (other_operation word)
  other_proper word = other_by (bytes_eq (take 3 word) (codes "op-")) (of_opcode (hex_byte (drop 3 word))) (opcode_proper (hex_byte (drop 3 word)))

  operation_proper : (word : List ℕ) → IsProperRead (operation word)
  operation_proper word =
      named_by (bytes_eq word (name_of Write)) (bytes_eq word (name_of Read)) (bytes_eq word (name_of WriteUncorrectable)) (bytes_eq word (name_of Compare)) (bytes_eq word (name_of WriteZeroes)) (bytes_eq word (name_of (Dataset false))) (other_operation word) (other_proper word)

  pub command_whole : (size place : ℕ) (ws : List (List ℕ)) → IsWholeRead size (command size place ws)
  unfolding command
  command_whole size place ws = with_operation size place (operation (first ws)) (others ws) back (operation_proper (first ws))

  command_at_whole : (size place : ℕ) (ws : List (List ℕ)) → IfOk (command_at size place ws) (λ c. IsWhole size c × (place ≤ 65536))
  command_at_whole size place ws =
      cond_both (nat_le place 65536) (command size place ws) (Err NoMoreCommands) (λ (r : Result Command Expected). IfOk r (λ c. IsWhole size c × (place ≤ 65536)))
      (λ e. at_place size place (command size place ws) (leb-true place 65536 e) (command_whole size place ws)) (λ _. tt)

  line_whole : (size line place : ℕ) (ws : List (List ℕ)) (behind : ℕ → Result (List Command) ListFault) → place ≤ 65537
      → ((next : ℕ) → next ≤ 65537 → AreWholeRead size next (behind next)) → AreWholeRead size place (followed_by (on_line size line place ws) place behind)
  line_whole size line place [] behind few rest = rest place few
  line_whole size line place (w ∷ ws) behind few rest = followed_whole size line place (command_at size place (w ∷ ws)) behind (command_at_whole size place (w ∷ ws)) rest

  pub all_whole : (size line place : ℕ) (texts : List (List ℕ)) → place ≤ 65537 → AreWholeRead size place (commands_from size line place texts)
  all_whole size line place [] few = record { whole = tt; few = omega arith }
  all_whole size line place (text ∷ texts) few =
      line_whole size line place (words text) (λ next. commands_from size (line + 1) next texts) few (λ next below. all_whole size (line + 1) next texts below)

  read_whole : (size : ℕ) (text : List ℕ) (cs : List Command) → commands size text ≡ Ok cs → AreWhole size 1 cs
  read_whole size text cs e = IfOk-at_ok (AreWhole size 1) e (all_whole size 1 1 (text_lines text) (omega arith))

  pub whole_where_read : (size : ℕ) (text : List ℕ) (r : Result (Vec Command Global) ListFault) → IfOk r (λ v. commands size text ≡ Ok v.items) → IfOk r (λ v. All (IsWhole size) v.items)
  whole_where_read size text (Ok v) h = All-from_recursion (IsWhole size) v.items (read_whole size text v.items h).whole
  whole_where_read size text (Err e) h = tt

  pub few_where_read : (size : ℕ) (text : List ℕ) (r : Result (Vec Command Global) ListFault) → IfOk r (λ v. commands size text ≡ Ok v.items) → IfOk r (λ v. length v.items ≤ 65536)
  few_where_read size text (Ok v) h = let few : 1 + length v.items ≤ 65537 = (read_whole size text v.items h).few in omega arith
  few_where_read size text (Err e) h = tt
