-- A command that is listed is read again.
use Rattle.std.proofs.Common.{◌≡◌, ℕ, suc, ◌+◌, ◌*◌, ◌%◌, ◌^◌, ◌<◌, ◌≤◌, Bool, true, false, if◌then◌else◌, List, [], ◌∷◌, ◌++◌, length, decimal, Option, Some, unwrap_or, Result, Ok, refl, sym, ap, ◌∙◌, arith, inl, inr}
use Rattle.std.specs.List.{AllByRecursion}
use Rattle.std.proofs.lemmas.List.{nil_from_length}
use Rattle.std.proofs.lemmas.List.FromFn.{length-map-range_with_len}
use Rattle.nvm_record.specs.BlockSize.{IsBlockSize}
use Rattle.nvm_record.specs.Op.{opcode_of, IsProperOp, carries_blocks, carries_ranges}
use Rattle.nvm_record.specs.Entry.{HasDataOf, HasRanges, IsWhole}
use Rattle.nvm_record.specs.Ranges.{FitsItsBytes, range_at, range_count, ranges_of, data_of_ranges}
use Rattle.nvm_record.specs.declared.lba_range.LbaRange.{LbaRange}
use Rattle.nvm_record.specs.declared.op.Op.{Op}
use Rattle.nvm_record.specs.declared.op.Op.TheVariants as ops
use Rattle.nvm_record.specs.declared.op.Fuse.{Fuse}
use Rattle.nvm_record.specs.declared.op.Fuse.TheVariants.{Normal}
use Rattle.nvm_record.specs.declared.command.Command.{Command}
use Rattle.nvm_text.specs.Runs.{runs, RunsAreLongest}
use Rattle.nvm_text.specs.Lines.{hex2, name_of, runs_text}
use Rattle.nvm_list.specs.Words.{first, others}
use Rattle.nvm_list.specs.Numbers.{hex_byte}
use Rattle.nvm_list.specs.Expecting.{◌>>=◌, expect}
use Rattle.nvm_list.specs.Names.{unnamed, of_opcode, operation}
use Rattle.nvm_list.specs.Data.{payload}
use Rattle.nvm_list.specs.Options.{Options, options}
use Rattle.nvm_list.specs.Lines.{lba, nlb_of, nlb, carried, on_blocks, on_ranges, operands, with_bit, command_of, command}
use Rattle.nvm_list.specs.Inside.Values.{HasValuesInRange}
use Rattle.nvm_list.specs.Listing.{place_words, data_words, ranges_text, operand_words, option_words}
use Rattle.nvm_list.specs.declared.expected.Expected.{Expected}
use Rattle.nvm_list.specs.declared.expected.Expected.TheVariants as expecting
use Rattle.nvm_list.specs.declared.operands.Operands.{Operands}
use Rattle.nvm_list.proofs.PlainText.{IsPlainWord}
use Rattle.nvm_list.proofs.NumberListing.{decimal_word, number_again, hex_again, hex_high, high_plain}
use Rattle.nvm_list.proofs.ByteValues.{bytes_from}
use Rattle.nvm_list.proofs.RunListing.{AreListed, listed}
use Rattle.nvm_list.proofs.RangeListing.{AreRangesListed, ranges_listed}
use Rattle.nvm_list.proofs.OptionListing.{bit_of, options_of, options_again, options_plain, fuse_is, number_is}

-- what a command has that can be listed and read in blocks of `size`
pub record IsListable (size : ℕ) (c : Command) : Type 0 where
  pub whole : IsWhole size c
  pub range : HasValuesInRange c
  pub ranges : AllByRecursion FitsItsBytes (ranges_of c.payload)

-- ---- the name

-- the operation that the name says
abbrev pub named : Op → Op
named ops.Write = ops.Write
named ops.Read = ops.Read
named ops.WriteUncorrectable = ops.WriteUncorrectable
named ops.Compare = ops.Compare
named ops.WriteZeroes = ops.WriteZeroes
named (ops.Dataset deallocate) = ops.Dataset false
named (ops.Other opcode) = ops.Other opcode

-- what is asked of an operation is asked of the one that its name says, and with its bit that is the operation again
record IsNamed (op : Op) : Type 0 where
  ranges : carries_ranges (named op) ≡ carries_ranges op
  blocks : carries_blocks (named op) ≡ carries_blocks op
  bit : with_bit (bit_of op) (named op) ≡ op

is_named : (op : Op) → IsNamed op
is_named ops.Write = record { ranges = refl; blocks = refl; bit = refl }
is_named ops.Read = record { ranges = refl; blocks = refl; bit = refl }
is_named ops.WriteUncorrectable = record { ranges = refl; blocks = refl; bit = refl }
is_named ops.Compare = record { ranges = refl; blocks = refl; bit = refl }
is_named ops.WriteZeroes = record { ranges = refl; blocks = refl; bit = refl }
is_named (ops.Dataset deallocate) = record { ranges = refl; blocks = refl; bit = refl }
is_named (ops.Other opcode) = record { ranges = refl; blocks = refl; bit = refl }

name_read : (op : Op) → IsProperOp op → opcode_of op < 256 → operation (name_of op) ≡ Ok (named op)
name_read ops.Write h fits = refl
name_read ops.Read h fits = refl
name_read ops.WriteUncorrectable h fits = refl
name_read ops.Compare h fits = refl
name_read ops.WriteZeroes h fits = refl
name_read (ops.Dataset deallocate) h fits = refl
name_read (ops.Other n) h fits =
    let read : operation (name_of (ops.Other n)) ≡ of_opcode (hex_byte (hex2 n)) = refl in
    read ∙ ap of_opcode (hex_again n fits) ∙ ap unnamed h

name_plain : (op : Op) → opcode_of op < 256 → IsPlainWord (name_of op)
name_plain ops.Write fits = record { some = omega arith; plain = (omega arith, (omega arith, (omega arith, (omega arith, (omega arith, tt))))) }
name_plain ops.Read fits = record { some = omega arith; plain = (omega arith, (omega arith, (omega arith, (omega arith, tt)))) }
name_plain ops.WriteUncorrectable fits = record { some = omega arith; plain = (omega arith, (omega arith, (omega arith, (omega arith, (omega arith, (omega arith, (omega arith, (omega arith, (omega arith, (omega arith, (omega arith, (omega arith, (omega arith, tt))))))))))))) }
name_plain ops.Compare fits = record { some = omega arith; plain = (omega arith, (omega arith, (omega arith, (omega arith, (omega arith, (omega arith, (omega arith, tt))))))) }
name_plain ops.WriteZeroes fits = record { some = omega arith; plain = (omega arith, (omega arith, (omega arith, (omega arith, (omega arith, (omega arith, tt)))))) }
name_plain (ops.Dataset deallocate) fits = record { some = omega arith; plain = (omega arith, (omega arith, (omega arith, (omega arith, (omega arith, (omega arith, (omega arith, tt))))))) }
name_plain (ops.Other n) fits = record { some = omega arith; plain = (omega arith, (omega arith, (omega arith, high_plain (hex2 n) (hex_high n fits)))) }

-- ---- the blocks

lba_read : (n : ℕ) → n < 2 ^ 64 → lba (decimal n) ≡ Ok n
lba_read n fits = ap (λ (o : Option ℕ). expect expecting.Lba o) (number_again 18446744073709551615 n fits (omega arith))

nlb_read : (n : ℕ) → n < 65536 → nlb (decimal (n + 1)) ≡ Ok n
nlb_read n fits =
    let next : n + 1 ≡ suc n = omega arith in
    ap nlb_of (number_again 65536 (n + 1) (omega arith) (omega arith)) ∙ ap (λ (k : ℕ). nlb_of (Some k)) next

-- ---- the data

-- what a command on blocks has, and what one on ranges has
record HasData (size : ℕ) (op : Op) (c : Command) : Type 0 where
  blocks : carries_blocks op ≡ true → length c.payload ≡ (c.nlb + 1) * size
  none : carries_ranges op ≡ false → carries_blocks op ≡ false → length c.payload ≡ 0
  ranges : carries_ranges op ≡ true → HasRanges c

has_data : (size : ℕ) (op : Op) (c : Command) → HasDataOf size op c → HasData size op c
has_data size ops.Write c h = record { blocks = λ e. h; none = λ e f. absurd cc; ranges = λ e. absurd cc }
has_data size ops.Read c h = record { blocks = λ e. absurd cc; none = λ e f. h; ranges = λ e. absurd cc }
has_data size ops.WriteUncorrectable c h = record { blocks = λ e. absurd cc; none = λ e f. h; ranges = λ e. absurd cc }
has_data size ops.Compare c h = record { blocks = λ e. h; none = λ e f. absurd cc; ranges = λ e. absurd cc }
has_data size ops.WriteZeroes c h = record { blocks = λ e. absurd cc; none = λ e f. h; ranges = λ e. absurd cc }
has_data size (ops.Dataset deallocate) c h = record { blocks = λ e. absurd cc; none = λ e f. absurd cc; ranges = λ e. h }
has_data size (ops.Other n) c h = record { blocks = λ e. absurd cc; none = λ e f. h; ranges = λ e. absurd cc }

some_bytes : (size n : ℕ) → IsBlockSize size → n < 65536 → (0 < (n + 1) * size) × ((n + 1) * size < 2 ^ 64)
some_bytes size n (inl e) fits = rw e (omega arith, omega arith)
some_bytes size n (inr e) fits = rw e (omega arith, omega arith)

data_listed : (size : ℕ) (c : Command) → RunsAreLongest → IsBlockSize size → IsListable size c → carries_blocks c.op ≡ true → AreListed ((c.nlb + 1) * size) c.payload
data_listed size c longest valid h carries =
    let fits : c.nlb < 2 ^ 16 = h.range.fields.nlb in
    let bounds = some_bytes size c.nlb valid (omega arith) in
    listed ((c.nlb + 1) * size) c.payload ((longest c.payload (runs c.payload)).1 refl) (bytes_from c.payload h.range.bytes) ((has_data size c.op c h.whole.payload).blocks carries) bounds.0 bounds.1

abbrev on_of : Command → Operands
on_of c = record { slba = c.slba; nlb = c.nlb; payload = c.payload }

abbrev found : {A : Type 0} → A → List (List ℕ) → Result (A × List (List ℕ)) Expected
found x rest = Ok (x, rest)

abbrev data_by : Bool → List ℕ → List (List ℕ)
data_by b bytes = if b then runs_text (runs bytes) ∷ [] else []

abbrev carried_by : Bool → ℕ → List (List ℕ) → Result (List ℕ × List (List ℕ)) Expected
carried_by b n ws = if b then (payload n (first ws) >>= λ bytes. Ok (bytes, others ws)) else Ok ([], ws)

-- what a command carries is read, where it carries data, and where it doesn't
carried_again : (b : Bool) (n : ℕ) (bytes : List ℕ) (rest : List (List ℕ)) → (b ≡ true → payload n (runs_text (runs bytes)) ≡ Ok bytes) → (b ≡ false → bytes ≡ [])
    → carried_by b n (data_by b bytes ++ rest) ≡ found bytes rest
carried_again true n bytes rest h k = ap (λ (r : Result (List ℕ) Expected). r >>= λ some. found some rest) (h refl)
carried_again false n bytes rest h k = ap (λ (bs : List ℕ). found bs rest) (sym (k refl))

data_plain : (b : Bool) (bytes : List ℕ) (rest : List (List ℕ)) → (b ≡ true → IsPlainWord (runs_text (runs bytes))) → AllByRecursion IsPlainWord rest → AllByRecursion IsPlainWord (data_by b bytes ++ rest)
data_plain true bytes rest h hs = (h refl, hs)
data_plain false bytes rest h hs = hs

-- ---- what the command is on

blocks_again : (size : ℕ) (c : Command) (op : Op) (rest : List (List ℕ)) → IsListable size c → carried size op c.nlb (data_words c ++ rest) ≡ found c.payload rest
    → on_blocks size op (place_words c ++ (data_words c ++ rest)) ≡ found (on_of c) rest
blocks_again size c op rest h e =
    let n : c.nlb < 2 ^ 16 = h.range.fields.nlb in
    ap (λ (r : Result ℕ Expected). r >>= λ l. nlb (decimal (c.nlb + 1)) >>= λ m. carried size op m (data_words c ++ rest) >>= λ f. found (record { slba = l; nlb = m; payload = f.0 }) f.1) (lba_read c.slba h.range.fields.slba)
    ∙ ap (λ (r : Result ℕ Expected). r >>= λ m. carried size op m (data_words c ++ rest) >>= λ f. found (record { slba = c.slba; nlb = m; payload = f.0 }) f.1) (nlb_read c.nlb (omega arith))
    ∙ ap (λ (r : Result (List ℕ × List (List ℕ)) Expected). r >>= λ f. found (record { slba = c.slba; nlb = c.nlb; payload = f.0 }) f.1) e

ranges_again : (c : Command) (rest : List (List ℕ)) → HasRanges c → AreRangesListed (ranges_of c.payload) → on_ranges (ranges_text (ranges_of c.payload) ∷ rest) ≡ found (on_of c) rest
ranges_again c rest has ranges =
    ap (λ (r : Result (List LbaRange) Expected). r >>= λ rs. found (record { slba = 0; nlb = 0; payload = data_of_ranges rs }) rest) ranges.again
    ∙ ap (λ (bytes : List ℕ). found (record { slba = 0; nlb = 0; payload = bytes }) rest) (sym has.plain)
    ∙ ap (λ (l : ℕ). found (record { slba = l; nlb = 0; payload = c.payload }) rest) (sym has.slba)
    ∙ ap (λ (n : ℕ). found (record { slba = c.slba; nlb = n; payload = c.payload }) rest) (sym has.nlb)

abbrev operands_by : Bool → ℕ → Op → List (List ℕ) → Result (Operands × List (List ℕ)) Expected
operands_by b size op ws = if b then on_ranges ws else on_blocks size op ws

abbrev words_by : Bool → Command → List (List ℕ)
words_by b c = if b then ranges_text (ranges_of c.payload) ∷ [] else place_words c ++ data_words c

operands_by_kind : (b : Bool) (size : ℕ) (c : Command) (op : Op) (rest : List (List ℕ)) → (b ≡ true → on_ranges (ranges_text (ranges_of c.payload) ∷ rest) ≡ found (on_of c) rest)
    → (b ≡ false → on_blocks size op (place_words c ++ (data_words c ++ rest)) ≡ found (on_of c) rest) → operands_by b size op (words_by b c ++ rest) ≡ found (on_of c) rest
operands_by_kind true size c op rest h k = h refl
operands_by_kind false size c op rest h k = k refl

ranges_are_listed : (size : ℕ) (c : Command) → IsListable size c → carries_ranges c.op ≡ true → AreRangesListed (ranges_of c.payload)
ranges_are_listed size c h e =
    let has : HasRanges c = (has_data size c.op c h.whole.payload).ranges e in
    let long : length (ranges_of c.payload) ≡ range_count c.payload = length-map-range_with_len (range_at c.payload) 0 (range_count c.payload) in
    let some : 1 ≤ range_count c.payload = has.some in
    let few : range_count c.payload ≤ 256 = has.few in
    ranges_listed (ranges_of c.payload) (omega arith) (omega arith) h.ranges

operands_again : (size : ℕ) (c : Command) (rest : List (List ℕ)) → RunsAreLongest → IsBlockSize size → IsListable size c → operands size (named c.op) (operand_words c ++ rest) ≡ found (on_of c) rest
operands_again size c rest longest valid h =
    let is = is_named c.op in
    let has = has_data size c.op c h.whole.payload in
    ap (λ (b : Bool). operands_by b size (named c.op) (operand_words c ++ rest)) is.ranges
    ∙ operands_by_kind (carries_ranges c.op) size c (named c.op) rest
    (λ e. ranges_again c rest (has.ranges e) (ranges_are_listed size c h e))
    (λ e. blocks_again size c (named c.op) rest h
    (ap (λ (b : Bool). carried_by b ((c.nlb + 1) * size) (data_words c ++ rest)) is.blocks
    ∙ carried_again (carries_blocks c.op) ((c.nlb + 1) * size) c.payload rest (λ f. (data_listed size c longest valid h f).again) (λ f. nil_from_length c.payload (has.none e f))))

operands_plain_by : (b : Bool) (size : ℕ) (c : Command) (rest : List (List ℕ)) → (b ≡ true → IsPlainWord (ranges_text (ranges_of c.payload)))
    → AllByRecursion IsPlainWord (place_words c ++ (data_words c ++ rest)) → AllByRecursion IsPlainWord rest → AllByRecursion IsPlainWord (words_by b c ++ rest)
operands_plain_by true size c rest h k hs = (h refl, hs)
operands_plain_by false size c rest h k hs = k

-- ---- the line

-- the words of a listed line after its name
abbrev pub words_behind : ℕ → Command → List (List ℕ)
words_behind place c = operand_words c ++ option_words place c

chained : (size place : ℕ) (ws : List (List ℕ)) (op : Op) (on : Operands) (rest : List (List ℕ)) (o : Options)
    → operation (first ws) ≡ Ok op → operands size op (others ws) ≡ found on rest → options (carries_ranges op) rest ≡ Ok o
    → command size place ws ≡ Ok (command_of place op on o)
unfolding command
chained size place ws op on rest o a b c =
    ap (λ (r : Result Op Expected). r >>= λ p. operands size p (others ws) >>= λ f. options (carries_ranges p) f.1 >>= λ g. Ok (command_of place p f.0 g)) a
    ∙ ap (λ (r : Result (Operands × List (List ℕ)) Expected). r >>= λ f. options (carries_ranges op) f.1 >>= λ g. Ok (command_of place op f.0 g)) b
    ∙ ap (λ (r : Result Options Expected). r >>= λ g. Ok (command_of place op on g)) c

same : (place : ℕ) (c : Command) → command_of place (named c.op) (on_of c) (options_of place c) ≡ c
same place c =
    ap (λ (k : ℕ). record { cid = k; nsid = unwrap_or (options_of place c).nsid 1; fuse = unwrap_or (options_of place c).fuse Normal; op = with_bit (bit_of c.op) (named c.op); slba = c.slba; nlb = c.nlb; payload = c.payload }) (number_is c.cid (place % 65536))
    ∙ ap (λ (k : ℕ). record { cid = c.cid; nsid = k; fuse = unwrap_or (options_of place c).fuse Normal; op = with_bit (bit_of c.op) (named c.op); slba = c.slba; nlb = c.nlb; payload = c.payload }) (number_is c.nsid 1)
    ∙ ap (λ (f : Fuse). record { cid = c.cid; nsid = c.nsid; fuse = f; op = with_bit (bit_of c.op) (named c.op); slba = c.slba; nlb = c.nlb; payload = c.payload }) (fuse_is c.fuse)
    ∙ ap (λ (op : Op). record { cid = c.cid; nsid = c.nsid; fuse = c.fuse; op = op; slba = c.slba; nlb = c.nlb; payload = c.payload }) (is_named c.op).bit

pub command_again : (size place : ℕ) (c : Command) → RunsAreLongest → IsBlockSize size → IsListable size c → command size place (name_of c.op ∷ words_behind place c) ≡ Ok c
command_again size place c longest valid h =
    let fields = h.range.fields in
    let cid : c.cid < 2 ^ 16 = fields.cid in
    let nsid : c.nsid < 2 ^ 32 = fields.nsid in
    chained size place (name_of c.op ∷ words_behind place c) (named c.op) (on_of c) (option_words place c) (options_of place c)
    (name_read c.op h.whole.op h.range.opcode) (operands_again size c (option_words place c) longest valid h)
    (ap (λ (b : Bool). options b (option_words place c)) (is_named c.op).ranges ∙ options_again place c (omega arith) (omega arith))
    ∙ ap (λ (d : Command). Ok d) (same place c)

pub name_is_word : (size : ℕ) (c : Command) → IsListable size c → IsPlainWord (name_of c.op)
name_is_word size c h = name_plain c.op h.range.opcode

pub behind_are_words : (size place : ℕ) (c : Command) → RunsAreLongest → IsBlockSize size → IsListable size c → AllByRecursion IsPlainWord (words_behind place c)
behind_are_words size place c longest valid h =
    let fields = h.range.fields in
    let cid : c.cid < 2 ^ 16 = fields.cid in
    let nsid : c.nsid < 2 ^ 32 = fields.nsid in
    let n : c.nlb < 2 ^ 16 = fields.nlb in
    let options : AllByRecursion IsPlainWord (option_words place c) = options_plain place c (omega arith) (omega arith) in
    operands_plain_by (carries_ranges c.op) size c (option_words place c) (λ e. (ranges_are_listed size c h e).word) (
      decimal_word c.slba fields.slba,
      (
        decimal_word (c.nlb + 1) (omega arith),
        data_plain (carries_blocks c.op) c.payload (option_words place c) (λ e. (data_listed size c longest valid h e).word) options,
      ),
    )
    options
