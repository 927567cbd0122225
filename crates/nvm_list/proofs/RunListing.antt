-- Data that is printed as runs is read again.
use Rattle.std.proofs.Common.{◌≡◌, ℕ, zero, suc, ◌+◌, ◌^◌, ◌<◌, ◌==◌, false, List, [], ◌∷◌, ◌++◌, map, length, codes, decimal, replicate, All, Option, Some, None, Ok, refl, sym, ap, ◌∙◌, subst, arith}
use Rattle.std.specs.List.{before_first, after_first, AllByRecursion}
use Rattle.std.proofs.lemmas.Bool.{eq-eqb, cond-true}
use Rattle.std.proofs.lemmas.Fmt.{decimal_nonempty}
use Rattle.std.proofs.lemmas.List.{length-append}
use Rattle.std.proofs.lemmas.List.Elements.{All-from_recursion}
use Rattle.nvm_text.specs.Runs.{Run, run_of, runs, written_out, AreNonempty, AreLongestRuns}
use Rattle.nvm_text.specs.Lines.{hex2, run_text, more_runs_text, runs_text}
use Rattle.nvm_list.specs.Words.{is}
use Rattle.nvm_list.specs.Numbers.{number, hex_byte}
use Rattle.nvm_list.specs.Commas.{read_parts, behind_commas}
use Rattle.nvm_list.specs.Data.{run_from, read_run, total, data_of_runs, data_by, payload}
use Rattle.nvm_list.proofs.PlainText.{IsPlain, IsPlainWord, both}
use Rattle.nvm_list.proofs.NumberListing.{decimal_high, high_plain, number_again, hex_again, hex_high}
use Rattle.nvm_list.proofs.ByteValues.{AreBytes}
use Rattle.nvm_list.proofs.PartListing.{HasNoComma, before_at, after_at, high_none, parts_again}
use Rattle.nvm_list.proofs.ReadWhole.{length_written}

-- a run that can be read
pub record IsReadable (r : Run) : Type 0 where
  pub some : 0 < r.count
  pub fits : r.count < 2 ^ 64
  pub byte : r.byte < 256

-- ---- one run

run_is : (count byte : ℕ) → 0 < count → run_from (Some count) (Some byte) ≡ Some (run_of count byte)
run_is zero byte some = absurd (omega arith)
run_is (suc n) byte some = refl

pub run_again : (r : Run) → IsReadable r → read_run (run_text r) ≡ Some r
run_again r h =
    let none : All (λ b. is 42 b ≡ false) (decimal r.count) = All-from_recursion (λ b. is 42 b ≡ false) (decimal r.count) (high_none 42 (decimal r.count) (omega arith) (decimal_high r.count h.fits)) in
    let front : number 18446744073709551615 (before_first (is 42) (run_text r)) ≡ Some r.count = ap (number 18446744073709551615) (before_at 42 (decimal r.count) (hex2 r.byte) none) ∙ number_again 18446744073709551615 r.count h.fits (let fits = h.fits in omega arith) in
    let back : hex_byte (after_first (is 42) (run_text r)) ≡ Some r.byte = ap hex_byte (after_at 42 (decimal r.count) (hex2 r.byte) none) ∙ hex_again r.byte h.byte in
    ap (λ (c : Option ℕ). run_from c (hex_byte (after_first (is 42) (run_text r)))) front ∙ ap (λ (b : Option ℕ). run_from (Some r.count) b) back ∙ run_is r.count r.byte h.some

-- ---- runs

pub run_plain : (r : Run) → IsReadable r → AllByRecursion IsPlain (run_text r)
run_plain r h = both IsPlain (decimal r.count) (codes "*" ++ hex2 r.byte) (high_plain (decimal r.count) (decimal_high r.count h.fits)) (omega arith, high_plain (hex2 r.byte) (hex_high r.byte h.byte))

no_comma : (r : Run) → IsReadable r → HasNoComma (run_text r)
no_comma r h =
    both (λ b. is 44 b ≡ false) (decimal r.count) (codes "*" ++ hex2 r.byte) (high_none 44 (decimal r.count) (omega arith) (decimal_high r.count h.fits)) (refl, high_none 44 (hex2 r.byte) (omega arith) (hex_high r.byte h.byte))

no_commas : (rs : List Run) → AllByRecursion IsReadable rs → AllByRecursion HasNoComma (map run_text rs)
no_commas [] h = tt
no_commas (r ∷ rs) h = (no_comma r h.0, no_commas rs h.1)

more_are : (rs : List Run) → more_runs_text rs ≡ behind_commas (map run_text rs)
more_are [] = refl
more_are (r ∷ rs) = ap (λ (more : List ℕ). codes "," ++ (run_text r ++ more)) (more_are rs)

each_again : (rs : List Run) → AllByRecursion IsReadable rs → AllByRecursion (λ r. read_run (run_text r) ≡ Some r) rs
each_again [] h = tt
each_again (r ∷ rs) h = (run_again r h.0, each_again rs h.1)

runs_again : (r : Run) (rs : List Run) → AllByRecursion IsReadable (r ∷ rs) → read_parts read_run (runs_text (r ∷ rs)) ≡ Some (r ∷ rs)
runs_again r rs h =
    ap (λ (more : List ℕ). read_parts read_run (run_text r ++ more)) (more_are rs)
    ∙ parts_again run_text read_run r rs (no_commas (r ∷ rs) h) (each_again (r ∷ rs) h)

-- ---- the data

long_word : (word : List ℕ) → 2 < length word → hex_byte word ≡ None
long_word [] h = absurd (omega arith)
long_word (a ∷ []) h = absurd (omega arith)
long_word (a ∷ b ∷ []) h = absurd (omega arith)
long_word (a ∷ b ∷ c ∷ word) h = refl

runs_long : (r : Run) (rs : List Run) → IsReadable r → 2 < length (runs_text (r ∷ rs))
runs_long r rs h =
    let front : 0 < length (decimal r.count) = decimal_nonempty r.count h.fits in
    let whole : length (run_text r ++ more_runs_text rs) ≡ length (run_text r) + length (more_runs_text rs) = length-append (run_text r) (more_runs_text rs) in
    let first : length (run_text r) ≡ length (decimal r.count) + 3 = length-append (decimal r.count) (codes "*" ++ hex2 r.byte) in
    omega arith

data_read : (wanted : ℕ) (rs : List Run) → 0 < length rs → AllByRecursion IsReadable rs → total rs ≡ wanted → payload wanted (runs_text rs) ≡ Ok (written_out rs)
data_read wanted [] some h e = absurd (omega arith)
data_read wanted (r ∷ rs) some h e =
    ap (λ (b : Option ℕ). data_by wanted b (runs_text (r ∷ rs))) (long_word (runs_text (r ∷ rs)) (runs_long r rs h.0))
    ∙ ap (λ (ss : Option (List Run)). data_of_runs wanted ss) (runs_again r rs h)
    ∙ cond-true (total (r ∷ rs) == wanted) (Ok (written_out (r ∷ rs))) _ (eq-eqb (total (r ∷ rs)) wanted e)

runs_plain : (rs : List Run) → AllByRecursion IsReadable rs → AllByRecursion IsPlain (more_runs_text rs)
runs_plain [] h = tt
runs_plain (r ∷ rs) h = (omega arith, both IsPlain (run_text r) (more_runs_text rs) (run_plain r h.0) (runs_plain rs h.1))

text_word : (rs : List Run) → 0 < length rs → AllByRecursion IsReadable rs → IsPlainWord (runs_text rs)
text_word [] some h = absurd (omega arith)
text_word (r ∷ rs) some h =
    let long : 2 < length (runs_text (r ∷ rs)) = runs_long r rs h.0 in
    record { some = omega arith; plain = both IsPlain (run_text r) (more_runs_text rs) (run_plain r h.0) (runs_plain rs h.1) }

-- ---- the longest runs of bytes can be read

bytes_left : (xs ys : List ℕ) → AreBytes (xs ++ ys) → AreBytes ys
bytes_left [] ys h = h
bytes_left (x ∷ xs) ys h = bytes_left xs ys h.1

first_byte : (n b : ℕ) (ys : List ℕ) → 0 < n → AreBytes (replicate n b ++ ys) → b < 256
first_byte zero b ys some h = absurd (omega arith)
first_byte (suc n) b ys some h = h.0

readable : (rs : List Run) → AreNonempty rs → AreBytes (written_out rs) → total rs < 2 ^ 64 → AllByRecursion IsReadable rs
readable [] some bytes fits = tt
readable (r ∷ rs) some bytes fits = (
  record { some = some.0; fits = omega arith; byte = first_byte r.count r.byte (written_out rs) some.0 bytes },
  readable rs some.1 (bytes_left (replicate r.count r.byte) (written_out rs) bytes) (omega arith),
)

-- what the longest runs of some bytes are
pub record AreListed (wanted : ℕ) (bytes : List ℕ) : Type 0 where
  pub word : IsPlainWord (runs_text (runs bytes))
  pub again : payload wanted (runs_text (runs bytes)) ≡ Ok bytes

none_written : (rs : List Run) → length rs ≡ 0 → length (written_out rs) ≡ 0
none_written [] h = refl
none_written (r ∷ rs) h = absurd (omega arith)

some_run : (rs : List Run) → 0 < length (written_out rs) → 0 < length rs
some_run [] h = h
some_run (r ∷ rs) h = omega arith

pub listed : (wanted : ℕ) (bytes : List ℕ) → AreLongestRuns bytes (runs bytes) → AreBytes bytes → length bytes ≡ wanted → 0 < wanted → wanted < 2 ^ 64 → AreListed wanted bytes
listed wanted bytes longest fits long some small =
    let rs = runs bytes in
    let back : length (written_out (runs bytes)) ≡ length bytes = ap length longest.whole in
    let sum : length (written_out (runs bytes)) ≡ total (runs bytes) = length_written (runs bytes) in
    let few : total (runs bytes) < 2 ^ 64 = omega arith in
    let whole : total (runs bytes) ≡ wanted = omega arith in
    let can : AllByRecursion IsReadable (runs bytes) = readable (runs bytes) longest.nonempty (subst (λ (bs : List ℕ). AreBytes bs) (sym longest.whole) fits) few in
    let has : 0 < length (runs bytes) = some_run (runs bytes) (omega arith) in
    record {
      word = text_word (runs bytes) has can;
      again = data_read wanted (runs bytes) has can whole ∙ ap (λ (bs : List ℕ). Ok bs) longest.whole;
    }
