-- Commands that are listed are read again, line by line.
use Rattle.std.proofs.Common.{◌≡◌, ℕ, ◌+◌, ◌<◌, ◌≤◌, nat_le, List, [], ◌∷◌, ◌++◌, length, drop, All, Option, Some, Result, Ok, Err, refl, sym, ap, ◌∙◌, subst, arith}
use Rattle.std.specs.List.{AllByRecursion}
use Rattle.std.proofs.lemmas.Bool.{le-leb, cond-true}
use Rattle.std.proofs.lemmas.List.{append-nil, drop_all}
use Rattle.std.proofs.lemmas.List.Elements.{All-from_recursion, recursion_from_All}
use Rattle.nvm_record.specs.BlockSize.{IsBlockSize}
use Rattle.nvm_record.specs.Entry.{IsWhole}
use Rattle.nvm_record.specs.Ranges.{FitsItsBytes, ranges_of}
use Rattle.nvm_record.specs.declared.command.Command.{Command}
use Rattle.nvm_text.specs.Runs.{RunsAreLongest}
use Rattle.nvm_text.specs.Lines.{name_of}
use Rattle.nvm_list.specs.Words.{text_lines, words}
use Rattle.nvm_list.specs.Lines.{command}
use Rattle.nvm_list.specs.Lists.{at_line, on_line, in_front, followed_by, commands_from, commands}
use Rattle.nvm_list.specs.Inside.Values.{HasValuesInRange}
use Rattle.nvm_list.specs.Listing.{behind_spaces, listing_from, listing}
use Rattle.nvm_list.specs.declared.expected.Expected.TheVariants.{NoMoreCommands}
use Rattle.nvm_list.specs.declared.fault.ListFault.{ListFault}
use Rattle.nvm_list.proofs.PlainText.{line_words_again, lines_again}
use Rattle.nvm_list.proofs.ByteValues.{bytes_from}
use Rattle.nvm_list.proofs.RangeLaws.{RangesFit}
use Rattle.nvm_list.proofs.CommandListing.{IsListable, words_behind, command_again, name_is_word, behind_are_words}

-- the line without its end
abbrev text_of : ℕ → Command → List ℕ
text_of place c = name_of c.op ++ behind_spaces (words_behind place c)

line_read : (size line place : ℕ) (c : Command) → RunsAreLongest → IsBlockSize size → IsListable size c → place ≤ 65536 → on_line size line place (words (text_of place c)) ≡ Ok (Some c)
line_read size line place c longest valid h few =
    ap (on_line size line place) (line_words_again (name_of c.op) (words_behind place c) (name_is_word size c h) (behind_are_words size place c longest valid h))
    ∙ ap (at_line line) (cond-true (nat_le place 65536) (command size place (name_of c.op ∷ words_behind place c)) (Err NoMoreCommands) (le-leb place 65536 few) ∙ command_again size place c longest valid h)

pub read_from : (size line place : ℕ) (cs : List Command) → RunsAreLongest → IsBlockSize size → AllByRecursion (IsListable size) cs → place + length cs ≤ 65537 → commands_from size line place (text_lines (listing_from place cs)) ≡ Ok cs
read_from size line place [] longest valid h few = refl
read_from size line place (c ∷ cs) longest valid h few =
    ap (commands_from size line place) (lines_again (name_of c.op) (words_behind place c) (listing_from (place + 1) cs) (name_is_word size c h.0) (behind_are_words size place c longest valid h.0))
    ∙ ap (λ (r : Result (Option Command) ListFault). followed_by r place (λ next. commands_from size (line + 1) next (text_lines (listing_from (place + 1) cs)))) (line_read size line place c longest valid h.0 (omega arith))
    ∙ ap (in_front c) (read_from size (line + 1) (place + 1) cs longest valid h.1 (omega arith))

listable : (size : ℕ) (cs : List Command) → RangesFit → AllByRecursion (IsWhole size) cs → AllByRecursion HasValuesInRange cs → AllByRecursion (IsListable size) cs
listable size [] fit h k = tt
listable size (c ∷ cs) fit h k =
    let bytes : All (λ b. b < 256) c.payload = All-from_recursion (λ b. b < 256) c.payload (bytes_from c.payload k.0.bytes) in
    (record { whole = h.0; range = k.0; ranges = recursion_from_All FitsItsBytes (ranges_of c.payload) (fit c.payload bytes) }, listable size cs fit h.1 k.1)

pub read_again : (size : ℕ) (cs : List Command) (text : List ℕ) → text ≡ listing cs → RunsAreLongest → RangesFit → AllByRecursion HasValuesInRange cs → IsBlockSize size → All (IsWhole size) cs → length cs ≤ 65536 → commands size text ≡ Ok cs
read_again size cs text e longest fit ranges valid whole few =
    ap (commands size) e ∙ read_from size 1 1 cs longest valid (listable size cs fit (recursion_from_All (IsWhole size) cs whole) ranges) (omega arith)

-- one command more is listed
pub in_range_more : (c : Command) (cs : List Command) (i : ℕ) → drop i cs ≡ c ∷ drop (i + 1) cs → HasValuesInRange c
    → (AllByRecursion HasValuesInRange (drop i cs) → AllByRecursion HasValuesInRange cs) → AllByRecursion HasValuesInRange (drop (i + 1) cs) → AllByRecursion HasValuesInRange cs
in_range_more c cs i here this so_far rest = so_far (subst (λ (ds : List Command). AllByRecursion HasValuesInRange ds) (sym here) (this, rest))

pub all_in_range : (cs : List Command) (i : ℕ) → length cs ≤ i → (AllByRecursion HasValuesInRange (drop i cs) → AllByRecursion HasValuesInRange cs) → AllByRecursion HasValuesInRange cs
all_in_range cs i le h = h (subst (λ (ds : List Command). AllByRecursion HasValuesInRange ds) (sym (drop_all i cs le)) tt)

pub all_listed : (text : List ℕ) (cs : List Command) (i : ℕ) → length cs ≤ i → text ++ listing_from (i + 1) (drop i cs) ≡ listing cs → text ≡ listing cs
all_listed text cs i le so_far = sym (append-nil text) ∙ ap (λ (ds : List Command). text ++ listing_from (i + 1) ds) (sym (drop_all i cs le)) ∙ so_far
