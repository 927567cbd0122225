-- The head of a trace's text is read as this head.
use Rattle.std.proofs.Common.{◌≡◌, ◌≢◌, ℕ, zero, suc, ◌==◌, ◌^◌, ◌<◌, ◌≤◌, true, cond, Bool, ◌&&◌, ltb, List, [], ◌∷◌, ◌++◌, codes, decimal, bytes_eq, Option, Result, Ok, Err, refl, sym, ap, ◌∙◌, append_assoc, append-nil, inl, inr, arith}
use Rattle.std.specs.List.{AllByRecursion}
use Rattle.std.proofs.lemmas.Bool.{cond-true, le-ltb, lt-ltb, ne_eqb}
use Rattle.nvm_geometry.specs.Boundaries.{units_of}
use Rattle.nvm_geometry.specs.Faults.{IsValid, HasNoFault}
use Rattle.nvm_geometry.specs.Namespace.{Namespace}
use Rattle.nvm_list.specs.Listing.{behind_spaces}
use Rattle.nvm_list.specs.Numbers.{number}
use Rattle.nvm_list.specs.Words.{first, others}
use Rattle.nvm_list.proofs.NumberListing.{decimal_word, number_again}
use Rattle.nvm_list.proofs.PlainText.{IsPlainWord}
use Rattle.nvm_list.proofs.SpacedWords.{spaced_append}
use Rattle.nvm_trace.specs.TraceView.{TraceView}
use Rattle.nvm_trace.specs.declared.deallocated.Deallocated.{Deallocated}
use Rattle.nvm_trace.specs.declared.deallocated.Deallocated.TheVariants.{Zeroes as ZeroesRead, Ones, Either}
use Rattle.nvm_trace.specs.declared.reads.Reads.{Reads}
use Rattle.nvm_trace.specs.declared.reads.Reads.TheVariants.{Atomic, Whole, ByBlocks}
use Rattle.nvm_trace.specs.declared.start.Start.{Start}
use Rattle.nvm_trace.specs.declared.start.Start.TheVariants.{Zeroes, Unknown}
use Rattle.nvm_trace_text.specs.Expecting.{◌>>=◌, expect}
use Rattle.nvm_trace_text.specs.Head.{keyed, keyed_or_zero, start_of, reads_of, deallocated_of, within_boundary, limit_of, numbers_of, head_with, head}
use Rattle.nvm_trace_text.specs.Listing.{start_word, reads_word, deallocated_text, numbers_text, known_text, numbers_in, head_line}
use Rattle.nvm_trace_text.specs.Spelled.{NamespaceFits}
use Rattle.nvm_trace_text.specs.declared.expected.TraceExpected.{TraceExpected}
use Rattle.nvm_trace_text.specs.declared.expected.TraceExpected.TheVariants as expecting
use Rattle.nvm_trace_text.specs.declared.head.Head.{Head}
use Rattle.nvm_trace_text.specs.declared.head.Numbers.{Numbers}
use Rattle.nvm_trace_text.proofs.SentWords.{found}

abbrev numbers_words : Numbers → List (List ℕ)
numbers_words n =
    codes "nsze" ∷ decimal n.nsze ∷ codes "block" ∷ decimal n.block ∷ codes "nabsn" ∷ decimal n.nabsn ∷ codes "nabo" ∷ decimal n.nabo
    ∷ codes "nawun" ∷ decimal n.nawun ∷ codes "nacwu" ∷ decimal n.nacwu ∷ []

abbrev deallocated_words : Deallocated → List (List ℕ)
deallocated_words ZeroesRead = codes "deallocated" ∷ codes "zeroes" ∷ []
deallocated_words Ones = codes "deallocated" ∷ codes "ones" ∷ []
deallocated_words Either = []

abbrev known_words : ℕ → Start → Reads → Deallocated → List (List ℕ)
known_words lba start reads deallocated =
    codes "first" ∷ decimal lba ∷ codes "start" ∷ start_word start ∷ codes "reads" ∷ reads_word reads ∷ deallocated_words deallocated

-- the words of a head behind `trace`
abbrev pub head_words : TraceView → List (List ℕ)
head_words t = numbers_words (numbers_in t.namespace) ++ known_words t.first t.start t.reads t.deallocated

-- ---- the line

numbers_spaced : (n : Numbers) → numbers_text n ≡ codes "trace" ++ behind_spaces (numbers_words n)
unfolding numbers_text
numbers_spaced n =
    ap (λ (x : List ℕ). codes "trace nsze " ++ (decimal n.nsze ++ (codes " block " ++ (decimal n.block ++ (codes " nabsn " ++ (decimal n.nabsn ++ (codes " nabo " ++ (decimal n.nabo ++ (codes " nawun " ++ (decimal n.nawun ++ (codes " nacwu " ++ x)))))))))))
    (sym (append-nil (decimal n.nacwu)))

deallocated_spaced : (d : Deallocated) → deallocated_text d ≡ behind_spaces (deallocated_words d)
deallocated_spaced ZeroesRead = refl
deallocated_spaced Ones = refl
deallocated_spaced Either = refl

known_spaced : (lba : ℕ) (start : Start) (reads : Reads) (deallocated : Deallocated)
    → known_text lba start reads deallocated ≡ behind_spaces (known_words lba start reads deallocated) ++ codes "\n"
unfolding known_text
known_spaced lba start reads deallocated =
    let d = decimal lba in
    let s = start_word start in
    let r = reads_word reads in
    let w = behind_spaces (deallocated_words deallocated) in
    let n = codes "\n" in
    ap (λ (x : List ℕ). codes " first " ++ (d ++ (codes " start " ++ (s ++ (codes " reads " ++ (r ++ (x ++ n))))))) (deallocated_spaced deallocated)
    ∙ ap (λ (x : List ℕ). codes " first " ++ x) (sym (
    append_assoc d (codes " start " ++ (s ++ (codes " reads " ++ (r ++ w)))) n
    ∙ ap (λ (x : List ℕ). d ++ (codes " start " ++ x)) (
    append_assoc s (codes " reads " ++ (r ++ w)) n
    ∙ ap (λ (x : List ℕ). s ++ (codes " reads " ++ x)) (append_assoc r w n)
    )
    ))

pub head_spaced : (t : TraceView) → head_line t ≡ codes "trace" ++ (behind_spaces (head_words t) ++ codes "\n")
head_spaced t =
    let xs = numbers_words (numbers_in t.namespace) in
    let ys = known_words t.first t.start t.reads t.deallocated in
    ap (λ (x : List ℕ). x ++ known_text t.first t.start t.reads t.deallocated) (numbers_spaced (numbers_in t.namespace))
    ∙ ap (λ (x : List ℕ). (codes "trace" ++ behind_spaces xs) ++ x) (known_spaced t.first t.start t.reads t.deallocated)
    ∙ append_assoc (codes "trace") (behind_spaces xs) (behind_spaces ys ++ codes "\n")
    ∙ ap (λ (x : List ℕ). codes "trace" ++ x) (sym (append_assoc (behind_spaces xs) (behind_spaces ys) (codes "\n")) ∙ ap (λ (x : List ℕ). x ++ codes "\n") (sym (spaced_append xs ys)))

-- ---- its words

word5 : (a b c d e : ℕ) → 36 ≤ a → 36 ≤ b → 36 ≤ c → 36 ≤ d → 36 ≤ e → IsPlainWord (a ∷ b ∷ c ∷ d ∷ e ∷ [])
word5 a b c d e p q r s t = record { some = omega arith; plain = (p, (q, (r, (s, (t, tt))))) }

start_plain : (s : Start) → IsPlainWord (start_word s)
start_plain Zeroes = record { some = omega arith; plain = (omega arith, (omega arith, (omega arith, (omega arith, (omega arith, (omega arith, tt)))))) }
start_plain Unknown = record { some = omega arith; plain = (omega arith, (omega arith, (omega arith, (omega arith, (omega arith, (omega arith, (omega arith, tt))))))) }

reads_plain : (r : Reads) → IsPlainWord (reads_word r)
reads_plain Atomic = record { some = omega arith; plain = (omega arith, (omega arith, (omega arith, (omega arith, (omega arith, (omega arith, tt)))))) }
reads_plain Whole = record { some = omega arith; plain = (omega arith, (omega arith, (omega arith, (omega arith, (omega arith, tt))))) }
reads_plain ByBlocks = record { some = omega arith; plain = (omega arith, (omega arith, (omega arith, (omega arith, (omega arith, (omega arith, (omega arith, (omega arith, (omega arith, tt))))))))) }

deallocated_plain : IsPlainWord (codes "deallocated")
deallocated_plain =
    record {
      some = omega arith;
      plain = (omega arith, (omega arith, (omega arith, (omega arith, (omega arith, (omega arith, (omega arith, (omega arith, (omega arith, (omega arith, (omega arith, tt)))))))))));
    }

pub trace_plain : IsPlainWord (codes "trace")
trace_plain = word5 116 114 97 99 101 (omega arith) (omega arith) (omega arith) (omega arith) (omega arith)

four : (a b c d : ℕ) → 36 ≤ a → 36 ≤ b → 36 ≤ c → 36 ≤ d → IsPlainWord (a ∷ b ∷ c ∷ d ∷ [])
four a b c d p q r s = record { some = omega arith; plain = (p, (q, (r, (s, tt)))) }

deallocated_words_plain : (d : Deallocated) → AllByRecursion IsPlainWord (deallocated_words d)
deallocated_words_plain ZeroesRead = (deallocated_plain, (start_plain Zeroes, tt))
deallocated_words_plain Ones = (deallocated_plain, (four 111 110 101 115 (omega arith) (omega arith) (omega arith) (omega arith), tt))
deallocated_words_plain Either = tt

pub head_plain : (t : TraceView) → NamespaceFits t.namespace → t.first < 2 ^ 64 → AllByRecursion IsPlainWord (head_words t)
head_plain t h first =
    let block : t.namespace.block_size < 2 ^ 32 = h.block_size in
    let nabsn : t.namespace.nabsn < 2 ^ 16 = h.nabsn in
    let nabo : t.namespace.nabo < 2 ^ 16 = h.nabo in
    let nawun : t.namespace.nawun < 2 ^ 16 = h.nawun in
    let nacwu : t.namespace.nacwu < 2 ^ 16 = h.nacwu in (
      four 110 115 122 101 (omega arith) (omega arith) (omega arith) (omega arith),
      (
        decimal_word t.namespace.nsze h.nsze,
        (
          word5 98 108 111 99 107 (omega arith) (omega arith) (omega arith) (omega arith) (omega arith),
          (
            decimal_word t.namespace.block_size (omega (arith, block)),
            (
              word5 110 97 98 115 110 (omega arith) (omega arith) (omega arith) (omega arith) (omega arith),
              (
                decimal_word t.namespace.nabsn (omega (arith, nabsn)),
                (
                  four 110 97 98 111 (omega arith) (omega arith) (omega arith) (omega arith),
                  (
                    decimal_word t.namespace.nabo (omega (arith, nabo)),
                    (
                      word5 110 97 119 117 110 (omega arith) (omega arith) (omega arith) (omega arith) (omega arith),
                      (
                        decimal_word t.namespace.nawun (omega (arith, nawun)),
                        (
                          word5 110 97 99 119 117 (omega arith) (omega arith) (omega arith) (omega arith) (omega arith),
                          (
                            decimal_word t.namespace.nacwu (omega (arith, nacwu)),
                            (
                              word5 102 105 114 115 116 (omega arith) (omega arith) (omega arith) (omega arith) (omega arith),
                              (
                                decimal_word t.first first,
                                (
                                  word5 115 116 97 114 116 (omega arith) (omega arith) (omega arith) (omega arith) (omega arith),
                                  (start_plain t.start, (word5 114 101 97 100 115 (omega arith) (omega arith) (omega arith) (omega arith) (omega arith), (reads_plain t.reads, deallocated_words_plain t.deallocated))),
                                ),
                              ),
                            ),
                          ),
                        ),
                      ),
                    ),
                  ),
                ),
              ),
            ),
          ),
        ),
      ),
    )

-- ---- what it says

keyed_again : (key : List ℕ) (most n : ℕ) (ws : List (List ℕ)) → bytes_eq key key ≡ true → n < 2 ^ 64 → n ≤ most → keyed key most (key ∷ decimal n ∷ ws) ≡ found n ws
keyed_again key most n ws same fits high =
    ap (λ (r : Result (List (List ℕ)) TraceExpected). r >>= λ rest. expect expecting.Head (number most (first rest)) >>= λ m. found m (others rest)) (cond-true (bytes_eq key key) (Ok (decimal n ∷ ws)) (Err expecting.Head) same)
    ∙ ap (λ (o : Option ℕ). expect expecting.Head o >>= λ m. found m ws) (number_again most n fits high)

-- the numbers with the limits as they are taken
abbrev limited : Numbers → ℕ → ℕ → Numbers
limited n nawun nacwu = record n { nawun = nawun; nacwu = nacwu }

numbers_chained : (n : Numbers) (w0 w1 w2 w3 w4 w5 w6 : List (List ℕ)) → keyed (codes "nsze") 18446744073709551615 w0 ≡ found n.nsze w1 → keyed (codes "block") 4294967295 w1 ≡ found n.block w2
    → keyed (codes "nabsn") 65535 w2 ≡ found n.nabsn w3 → keyed (codes "nabo") 65535 w3 ≡ found n.nabo w4 → keyed (codes "nawun") 65535 w4 ≡ found n.nawun w5 → keyed (codes "nacwu") 65535 w5 ≡ found n.nacwu w6
    → keyed_or_zero (codes "awun") 65535 w6 ≡ found 0 w6 → keyed_or_zero (codes "acwu") 65535 w6 ≡ found 0 w6
    → numbers_of w0 ≡ Ok (limited n (limit_of n.nabsn n.nawun 0) (limit_of n.nabsn n.nacwu 0), w6)
unfolding numbers_of
numbers_chained n w0 w1 w2 w3 w4 w5 w6 a b c d e f g h = rw (a, b, c, d, e, f, g, h) refl

-- A limit that a boundary leaves is taken as it is.
within_again : (nabsn limit : ℕ) → (nabsn ≢ 0 → limit ≤ nabsn) → within_boundary nabsn limit ≡ limit
within_again zero limit h = refl
within_again (suc n) limit h =
    ap (λ (b : Bool). cond (b && ltb (suc n) limit) (suc n) limit) (lt-ltb 0 (suc n) (omega arith))
    ∙ ap (λ (b : Bool). cond b (suc n) limit) (le-ltb (suc n) limit (h (λ no. absurd (omega (arith, no)))))

own_again : (limit : ℕ) → cond (limit == 0) 0 limit ≡ limit
own_again zero = refl
own_again (suc n) = ap (λ (b : Bool). cond b 0 (suc n)) (ne_eqb (suc n) 0 (omega arith))

limit_again : (nabsn limit : ℕ) → (nabsn ≢ 0 → limit ≤ nabsn) → limit_of nabsn limit 0 ≡ limit
limit_again nabsn limit h = ap (within_boundary nabsn) (own_again limit) ∙ within_again nabsn limit h

numbers_again : (ns : Namespace) (ws : List (List ℕ)) → NamespaceFits ns → IsValid ns
    → keyed_or_zero (codes "awun") 65535 ws ≡ found 0 ws → keyed_or_zero (codes "acwu") 65535 ws ≡ found 0 ws
    → numbers_of (numbers_words (numbers_in ns) ++ ws) ≡ Ok (numbers_in ns, ws)
numbers_again ns ws h valid awun acwu =
    let nsze : ns.nsze < 2 ^ 64 = h.nsze in
    let block : ns.block_size < 2 ^ 32 = h.block_size in
    let nabsn : ns.nabsn < 2 ^ 16 = h.nabsn in
    let nabo : ns.nabo < 2 ^ 16 = h.nabo in
    let nawun : ns.nawun < 2 ^ 16 = h.nawun in
    let nacwu : ns.nacwu < 2 ^ 16 = h.nacwu in
    let n = numbers_in ns in
    numbers_chained n (numbers_words n ++ ws)
    (codes "block" ∷ decimal ns.block_size ∷ codes "nabsn" ∷ decimal ns.nabsn ∷ codes "nabo" ∷ decimal ns.nabo ∷ codes "nawun" ∷ decimal ns.nawun ∷ codes "nacwu" ∷ decimal ns.nacwu ∷ ws)
    (codes "nabsn" ∷ decimal ns.nabsn ∷ codes "nabo" ∷ decimal ns.nabo ∷ codes "nawun" ∷ decimal ns.nawun ∷ codes "nacwu" ∷ decimal ns.nacwu ∷ ws)
    (codes "nabo" ∷ decimal ns.nabo ∷ codes "nawun" ∷ decimal ns.nawun ∷ codes "nacwu" ∷ decimal ns.nacwu ∷ ws)
    (codes "nawun" ∷ decimal ns.nawun ∷ codes "nacwu" ∷ decimal ns.nacwu ∷ ws)
    (codes "nacwu" ∷ decimal ns.nacwu ∷ ws)
    ws
    (keyed_again (codes "nsze") 18446744073709551615 ns.nsze _ refl nsze (omega (arith, nsze)))
    (keyed_again (codes "block") 4294967295 ns.block_size _ refl (omega (arith, block)) (omega (arith, block)))
    (keyed_again (codes "nabsn") 65535 ns.nabsn _ refl (omega (arith, nabsn)) (omega (arith, nabsn)))
    (keyed_again (codes "nabo") 65535 ns.nabo _ refl (omega (arith, nabo)) (omega (arith, nabo)))
    (keyed_again (codes "nawun") 65535 ns.nawun _ refl (omega (arith, nawun)) (omega (arith, nawun)))
    (keyed_again (codes "nacwu") 65535 ns.nacwu ws refl (omega (arith, nacwu)) (omega (arith, nacwu)))
    awun acwu
    ∙ ap (λ (x : ℕ). Ok (limited n x (limit_of n.nabsn n.nacwu 0), ws)) (limit_again ns.nabsn ns.nawun valid.write_unit)
    ∙ ap (λ (x : ℕ). Ok (limited n n.nawun x, ws)) (limit_again ns.nabsn ns.nacwu valid.pair_unit)

start_again : (s : Start) (ws : List (List ℕ)) → start_of (codes "start" ∷ start_word s ∷ ws) ≡ Ok (s, ws)
start_again Zeroes ws = refl
start_again Unknown ws = refl

reads_again : (r : Reads) (ws : List (List ℕ)) → reads_of (codes "reads" ∷ reads_word r ∷ ws) ≡ Ok (r, ws)
reads_again Atomic ws = refl
reads_again Whole ws = refl
reads_again ByBlocks ws = refl

deallocated_again : (d : Deallocated) → deallocated_of (deallocated_words d) ≡ Ok (d, [])
deallocated_again ZeroesRead = refl
deallocated_again Ones = refl
deallocated_again Either = refl

with_chained : (n : Numbers) (lba : ℕ) (s : Start) (r : Reads) (d : Deallocated) (w0 w1 w2 w3 : List (List ℕ))
    → keyed (codes "first") 18446744073709551615 w0 ≡ found lba w1 → start_of w1 ≡ Ok (s, w2) → reads_of w2 ≡ Ok (r, w3) → deallocated_of w3 ≡ Ok (d, [])
    → head_with n w0 ≡ Ok (record { numbers = n; first = lba; start = s; reads = r; deallocated = d })
unfolding head_with
with_chained n lba s r d w0 w1 w2 w3 a b c e = rw (a, b, c, e) refl

with_again : (n : Numbers) (lba : ℕ) (s : Start) (r : Reads) (d : Deallocated) → lba < 2 ^ 64
    → head_with n (known_words lba s r d) ≡ Ok (record { numbers = n; first = lba; start = s; reads = r; deallocated = d })
with_again n lba s r d fits =
    let last = deallocated_words d in
    let rest = codes "start" ∷ start_word s ∷ codes "reads" ∷ reads_word r ∷ last in
    with_chained n lba s r d (known_words lba s r d) rest (codes "reads" ∷ reads_word r ∷ last) last
    (keyed_again (codes "first") 18446744073709551615 lba rest refl fits (omega (arith, fits))) (start_again s (codes "reads" ∷ reads_word r ∷ last))
    (reads_again r last) (deallocated_again d)

-- the head that is written of a trace
abbrev pub head_of : TraceView → Head
head_of t = record { numbers = numbers_in t.namespace; first = t.first; start = t.start; reads = t.reads; deallocated = t.deallocated }

pub head_again : (t : TraceView) → NamespaceFits t.namespace → IsValid t.namespace → t.first < 2 ^ 64 → head (codes "trace" ∷ head_words t) ≡ Ok (head_of t)
head_again t h valid first =
    ap (λ (r : Result (Numbers × List (List ℕ)) TraceExpected). r >>= λ n. head_with n.0 n.1)
    (numbers_again t.namespace (known_words t.first t.start t.reads t.deallocated) h valid refl refl)
    ∙ with_again (numbers_in t.namespace) t.first t.start t.reads t.deallocated first

pub valid_faultless : (ns : Namespace) → IsValid ns → HasNoFault ns
valid_faultless ns h =
    let some : 0 < ns.nsze = h.some in
    let size : ns.nsze ≤ 65536 = h.size in
    let offset : ns.nabo ≤ ns.nabsn = h.offset in
    let units : units_of ns ≤ 4096 = h.units in (
      λ f. elim f [ inl none ↦ absurd (omega (arith, some, none)) | inr many ↦ let m : 65536 < ns.nsze = many in absurd (omega (arith, size, m)) ],
      (
        λ f. f h.block_size,
        (
          λ f. f.1 (h.no_boundary f.0),
          (
            λ f. let above : ns.nabsn < ns.nabo = f.1 in absurd (omega (arith, offset, above)),
            (
              λ f. let above : ns.nabsn < ns.nawun = f.1 in let within : ns.nawun ≤ ns.nabsn = h.write_unit f.0 in absurd (omega (arith, above, within)),
              (
                λ f. let above : ns.nabsn < ns.nacwu = f.1 in let within : ns.nacwu ≤ ns.nabsn = h.pair_unit f.0 in absurd (omega (arith, above, within)),
                (λ f. let above : 4096 < units_of ns = f in absurd (omega (arith, units, above)), tt),
              ),
            ),
          ),
        ),
      ),
    )
