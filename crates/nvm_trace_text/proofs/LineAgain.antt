-- The line of a job is read as this job.
use Rattle.std.proofs.Common.{◌≡◌, ℕ, ◌+◌, ◌*◌, ◌^◌, ◌<◌, ◌≤◌, false, List, [], ◌∷◌, ◌++◌, length, codes, decimal, All, IfSome, bytes_eq, get_or, Option, Some, None, Result, Ok, refl, sym, ap, ◌∙◌, append_assoc, append-nil, subst, inl, inr, arith}
use Rattle.std.specs.List.{AllByRecursion, before_first, after_first}
use Rattle.std.proofs.lemmas.Bool.{cond-false, false_from_ne_true}
use Rattle.std.proofs.lemmas.List.{length-append}
use Rattle.std.proofs.lemmas.List.Elements.{All-from_recursion, recursion_from_All}
use Rattle.std.proofs.lemmas.Slice.Eq.{bytes_eq-Decides}
use Rattle.nvm_record.specs.BlockSize.{IsBlockSize}
use Rattle.nvm_record.specs.Entry.{IsWhole}
use Rattle.nvm_record.specs.declared.command.Command.{Command}
use Rattle.nvm_record.specs.declared.status.Status.{Status}
use Rattle.nvm_record.specs.declared.status.Statuses.{Statuses}
use Rattle.nvm_record.specs.declared.status.Statuses.TheVariants.{One, Two}
use Rattle.nvm_audit.specs.Recordable.{HoldsBody}
use Rattle.nvm_audit.specs.declared.version.Version.TheVariants as version
use Rattle.nvm_geometry.specs.Namespace.{Namespace}
use Rattle.nvm_plan.specs.Fits.{IsWholeBody}
use Rattle.nvm_plan.specs.Shape.{IsForEach}
use Rattle.nvm_plan.specs.declared.job.Body.{Body}
use Rattle.nvm_plan.specs.declared.job.Body.TheVariants.{Single, Pair}
use Rattle.nvm_text.specs.Lines.{hex2, status_text, statuses_text, payload_text, runs_text}
use Rattle.nvm_text.specs.Runs.{RunsAreLongest, runs}
use Rattle.nvm_list.specs.Listing.{behind_spaces}
use Rattle.nvm_list.specs.Numbers.{number, hex_byte}
use Rattle.nvm_list.specs.Words.{is, words_in}
use Rattle.nvm_list.specs.declared.expected.Expected.{Expected}
use Rattle.nvm_list.proofs.CommandListing.{IsListable}
use Rattle.nvm_list.proofs.NumberListing.{decimal_high, high_plain, number_again, hex_again, hex_high, decimal_word}
use Rattle.nvm_list.proofs.PartListing.{before_at, after_at, high_none}
use Rattle.nvm_list.proofs.PlainText.{IsPlain, IsPlainWord, both, words_again}
use Rattle.nvm_list.proofs.RangeLaws.{RangesFit}
use Rattle.nvm_list.proofs.RunListing.{listed}
use Rattle.nvm_trace.specs.Traceable.{IsDataOf, IsEndingOf, IsTraceableJob}
use Rattle.nvm_trace.specs.declared.traced_job.Ending.{Ending}
use Rattle.nvm_trace.specs.declared.traced_job.TracedJob.{TracedJob}
use Rattle.nvm_trace_text.specs.Expecting.{◌>>=◌, as_listed}
use Rattle.nvm_trace_text.specs.Head.{ended_with}
use Rattle.nvm_trace_text.specs.Lines.{field, end_time, identified, body_with, status_of, status, read_data, reply, ending, job_of, job}
use Rattle.nvm_trace_text.specs.Listing.{end_text, sent_text, time_of}
use Rattle.nvm_trace_text.specs.Marks.{before_mark, behind_mark}
use Rattle.nvm_trace_text.specs.Spelled.{AreBytes, BodyFits, StatusFits, StatusesFit, EndingFits, JobFits, EndsBeforeLast}
use Rattle.nvm_trace_text.specs.declared.expected.TraceExpected.{TraceExpected}
use Rattle.nvm_trace_text.specs.declared.expected.TraceExpected.TheVariants as expecting
use Rattle.nvm_trace_text.proofs.LineWords.{body_words, told_words, reply_words, front_words, line_words, told_spaced, spaced_words, split_words}
use Rattle.nvm_trace_text.proofs.MarkWords.{IsCut, IsUnmarked, cut_none, cut_here}
use Rattle.nvm_trace_text.proofs.SentWords.{IsFree, IsOther, other_by_length, runs_other, no_number, decimal_free, words_plain, no_plus, no_equals, sent_words, listable, sent_free, found, field_again, identified_again}

-- ---- when it ended

no_dash : (n : ℕ) → n < 2 ^ 64 → bytes_eq (decimal n) (codes "-") ≡ false
no_dash n fits =
    let read : number 18446744073709551615 (decimal n) ≡ Some n = number_again 18446744073709551615 n fits (omega arith) in
    false_from_ne_true (bytes_eq (decimal n) (codes "-")) (λ yes. no_number n (sym read ∙ ap (number 18446744073709551615) ((bytes_eq-Decides (decimal n) (codes "-")).0 yes)))

end_again : (e : Option Ending) (ws : List (List ℕ)) → IfSome e (λ x. x.time < 18446744073709551615) → end_time (end_text e ∷ ws) ≡ found (time_of e) ws
end_again None ws h = refl
end_again (Some e) ws h =
    let time : e.time < 18446744073709551615 = h in
    cond-false (bytes_eq (decimal e.time) (codes "-")) _ _ (no_dash e.time (omega (arith, time)))
    ∙ ap (λ (r : Result (ℕ × List (List ℕ)) TraceExpected). r >>= λ t. found (Some t.0) t.1) (field_again 0 18446744073709551614 expecting.Ended e.time ws (omega (arith, time)) (omega arith) (omega (arith, time)))

no_mark : IsOther (codes "-")
no_mark =
    record {
      plus = λ e. let n : 45 ≡ 43 = ap (λ (w : List ℕ). get_or w 0 0) e in absurd (omega (arith, n));
      equals = λ e. let n : 45 ≡ 61 = ap (λ (w : List ℕ). get_or w 0 0) e in absurd (omega (arith, n));
    }

end_free : (e : Option Ending) → IfSome e (λ x. x.time < 18446744073709551615) → IsFree (end_text e)
end_free None h = record { plain = record { some = omega arith; plain = (omega arith, tt) }; other = no_mark }
end_free (Some e) h = let time : e.time < 18446744073709551615 = h in decimal_free e.time (omega (arith, time))

-- ---- what came back

status_again : (s : Status) → StatusFits s → status (status_text s) ≡ Ok s
status_again s h =
    let sct : s.sct < 256 = h.0 in
    let none : All (λ b. is 47 b ≡ false) (decimal s.sct) = All-from_recursion (λ b. is 47 b ≡ false) (decimal s.sct) (high_none 47 (decimal s.sct) (omega arith) (decimal_high s.sct (omega (arith, sct)))) in
    let front : number 255 (before_first (is 47) (status_text s)) ≡ Some s.sct = ap (number 255) (before_at 47 (decimal s.sct) (hex2 s.sc) none) ∙ number_again 255 s.sct (omega (arith, sct)) (omega (arith, sct)) in
    let back : hex_byte (after_first (is 47) (status_text s)) ≡ Some s.sc = ap hex_byte (after_at 47 (decimal s.sct) (hex2 s.sc) none) ∙ hex_again s.sc h.1 in
    ap (λ (n : Option ℕ). status_of n (hex_byte (after_first (is 47) (status_text s)))) front ∙ ap (λ (n : Option ℕ). status_of (Some s.sct) n) back

status_free : (s : Status) → StatusFits s → IsFree (status_text s)
status_free s h =
    let sct : s.sct < 256 = h.0 in
    let long : length (status_text s) ≡ length (decimal s.sct) + 3 = length-append (decimal s.sct) (codes "/" ++ hex2 s.sc) in
    record {
      plain = record {
        some = omega (arith, long);
        plain = both IsPlain (decimal s.sct) (codes "/" ++ hex2 s.sc) (high_plain (decimal s.sct) (decimal_high s.sct (omega (arith, sct)))) (omega arith, high_plain (hex2 s.sc) (hex_high s.sc h.1));
      };
      other = other_by_length (status_text s) (λ e. absurd (omega (arith, long, e)));
    }

some_bytes : (size n : ℕ) → IsBlockSize size → n < 65536 → (0 < (n + 1) * size) × ((n + 1) * size < 2 ^ 64)
some_bytes size n (inl e) fits = rw e (omega arith, omega arith)
some_bytes size n (inr e) fits = rw e (omega arith, omega arith)

-- what holds of data that came back of a command on so many blocks
record IsDataRead (wanted : ℕ) (bytes : List ℕ) : Type 0 where
  free : IsFree (runs_text (runs bytes))
  again : read_data wanted (runs_text (runs bytes) ∷ []) ≡ Ok (Some bytes)

data_read : (size n : ℕ) (bytes : List ℕ) → RunsAreLongest → IsBlockSize size → n < 65536 → AreBytes bytes → length bytes ≡ (n + 1) * size → IsDataRead ((n + 1) * size) bytes
data_read size n bytes longest valid fits are long =
    let bounds = some_bytes size n valid fits in
    let l = listed ((n + 1) * size) bytes ((longest bytes (runs bytes)).1 refl) (recursion_from_All (λ b. b < 256) bytes are) long bounds.0 bounds.1 in
    record {
      free = record { plain = l.word; other = runs_other (runs bytes) };
      again = ap (λ (r : Result (List ℕ) Expected). as_listed r >>= λ bs. ended_with (Some bs) expecting.End []) l.again;
    }

-- what holds of an ending that was written
pub record IsToldAgain (size : ℕ) (body : Body) (e : Ending) : Type 0 where
  pub free : AllByRecursion IsFree (told_words e)
  pub again : reply size body (told_words e) ≡ Ok (e.statuses, e.payload)

pub told_again : (ns : Namespace) (body : Body) (time : ℕ) (s : Statuses) (p : Option (List ℕ)) → RunsAreLongest → IsBlockSize ns.block_size → BodyFits body → IsForEach body s → IfSome p (IsDataOf ns body)
    → StatusesFit s → IfSome p AreBytes → IsToldAgain ns.block_size body (record { time = time; statuses = s; payload = p })
told_again ns (Single c) time (One s) None longest valid body each is fits bytes =
    record {
      free = (status_free s fits, tt);
      again = ap (λ (r : Result Status TraceExpected). r >>= λ x. Ok (One x, None)) (status_again s fits);
    }
told_again ns (Single c) time (One s) (Some bs) longest valid body each is fits bytes =
    let nlb : c.nlb < 2 ^ 16 = body.fields.nlb in
    let wanted = (c.nlb + 1) * ns.block_size in
    let d = data_read ns.block_size c.nlb bs longest valid (omega (arith, nlb)) bytes is.1 in
    record {
      free = (status_free s fits, (d.free, tt));
      again =
          ap (λ (r : Result Status TraceExpected). r >>= λ x. read_data wanted (runs_text (runs bs) ∷ []) >>= λ b. Ok (One x, b)) (status_again s fits)
          ∙ ap (λ (r : Result (Option (List ℕ)) TraceExpected). r >>= λ b. Ok (One s, b)) d.again;
    }
told_again ns (Single c) time (Two s t) p longest valid body each is fits bytes = absurd each
told_again ns (Pair c d) time (One s) p longest valid body each is fits bytes = absurd each
told_again ns (Pair c d) time (Two s t) None longest valid body each is fits bytes =
    record {
      free = (status_free s fits.0, (status_free t fits.1, tt));
      again =
          ap (λ (r : Result Status TraceExpected). r >>= λ x. status (status_text t) >>= λ y. Ok (Two x y, None)) (status_again s fits.0)
          ∙ ap (λ (r : Result Status TraceExpected). r >>= λ y. Ok (Two s y, None)) (status_again t fits.1);
    }
told_again ns (Pair c d) time (Two s t) (Some bs) longest valid body each is fits bytes = absurd is

-- ---- the commands

-- what holds of a command or a pair that was written
pub record IsSent (size : ℕ) (body : Body) : Type 0 where
  pub first : Command
  pub second : Option (List ℕ)
  pub plain : AllByRecursion IsPlainWord (body_words body)
  pub unmarked : AllByRecursion (IsUnmarked 61) (body_words body)
  pub free : AllByRecursion IsFree (sent_words first)
  pub cut : (word : List ℕ) (ws : List (List ℕ)) → AllByRecursion IsPlain word → AllByRecursion IsFree ws
      → IsCut 43 (word ++ behind_spaces (ws ++ body_words body)) (word ++ behind_spaces (ws ++ sent_words first)) second
  pub read : identified size (sent_words first) ≡ Ok first
  pub again : body_with size first second ≡ Ok body

pub both_all : (P : List ℕ → Type 0) (xs ys : List (List ℕ)) → AllByRecursion P xs → AllByRecursion P ys → AllByRecursion P (xs ++ ys)
both_all P [] ys h k = k
both_all P (x ∷ xs) ys h k = (h.0, both_all P xs ys h.1 k)

single_sent : (size : ℕ) (c : Command) → RunsAreLongest → IsBlockSize size → IsListable size c → IsSent size (Single c)
single_sent size c longest valid h =
    let free = sent_free size c longest valid h in
    record {
      first = c;
      second = None;
      plain = words_plain (sent_words c) free;
      unmarked = no_equals (sent_words c) free;
      free = free;
      cut = λ word ws f fs. cut_none 43 word (ws ++ sent_words c) f (no_plus (ws ++ sent_words c) (both_all IsFree ws (sent_words c) fs free));
      read = identified_again size c longest valid h;
      again = refl;
    }

plus_plain : IsPlainWord (codes "+")
plus_plain = record { some = omega arith; plain = (omega arith, tt) }

plus_unmarked : IsUnmarked 61 (codes "+")
plus_unmarked = record { plain = plus_plain; other = λ e. let n : 43 ≡ 61 = ap (λ (w : List ℕ). get_or w 0 0) e in absurd (omega (arith, n)) }

pair_sent : (size : ℕ) (c d : Command) → RunsAreLongest → IsBlockSize size → IsListable size c → IsListable size d → IsSent size (Pair c d)
pair_sent size c d longest valid h k =
    let free = sent_free size c longest valid h in
    let more = sent_free size d longest valid k in
    let behind = codes "+" ∷ sent_words d in
    record {
      first = c;
      second = Some (32 ∷ sent_text d);
      plain = both_all IsPlainWord (sent_words c) behind (words_plain (sent_words c) free) (plus_plain, words_plain (sent_words d) more);
      unmarked = both_all (IsUnmarked 61) (sent_words c) behind (no_equals (sent_words c) free) (plus_unmarked, no_equals (sent_words d) more);
      free = free;
      cut = λ word ws f fs.
          let front = word ++ behind_spaces (ws ++ sent_words c) in
          let e : word ++ behind_spaces (ws ++ (sent_words c ++ behind)) ≡ front ++ 32 ∷ 43 ∷ 32 ∷ sent_text d =
          ap (λ (vs : List (List ℕ)). word ++ behind_spaces vs) (sym (append_assoc ws (sent_words c) behind)) ∙ split_words word (ws ++ sent_words c) behind in
          subst (λ (text : List ℕ). IsCut 43 text front (Some (32 ∷ sent_text d))) (sym e)
          (cut_here 43 word (ws ++ sent_words c) (sent_text d) f (no_plus (ws ++ sent_words c) (both_all IsFree ws (sent_words c) fs free)));
      read = identified_again size c longest valid h;
      again =
          ap (λ (ws : List (List ℕ)). identified size ws >>= λ x. Ok (Pair c x)) (spaced_words (sent_words d) (words_plain (sent_words d) more))
          ∙ ap (λ (r : Result Command TraceExpected). r >>= λ x. Ok (Pair c x)) (identified_again size d longest valid k);
    }

whole_of : (size : ℕ) (c : Command) → IsWholeBody size (Single c) → HoldsBody version.Two (Single c) → IsWhole size c
whole_of size c (inl whole) known = whole
whole_of size c (inr unknown) known = absurd (known unknown.op)

body_sent : (size : ℕ) (b : Body) → RunsAreLongest → RangesFit → IsBlockSize size → IsWholeBody size b → HoldsBody version.Two b → BodyFits b → IsSent size b
body_sent size (Single c) longest fit valid whole known fits = single_sent size c longest valid (listable size c fit (whole_of size c whole known) fits)
body_sent size (Pair c d) longest fit valid whole known fits =
    pair_sent size c d longest valid (listable size c fit whole.0 fits.0) (listable size d fit whole.1 fits.1)

-- ---- the reply

-- what holds of a reply that was written behind words
record IsReplied (size : ℕ) (body : Body) (word : List ℕ) (ws : List (List ℕ)) (e : Option Ending) : Type 0 where
  told : Option (List ℕ)
  plain : AllByRecursion IsPlainWord (reply_words e)
  cut : IsCut 61 (word ++ behind_spaces (ws ++ reply_words e)) (word ++ behind_spaces ws) told
  again : ending size body (time_of e) told ≡ Ok e

replied : (size : ℕ) (body : Body) (word : List ℕ) (ws : List (List ℕ)) (e : Option Ending) → AllByRecursion IsPlain word → AllByRecursion (IsUnmarked 61) ws
    → IfSome e (IsToldAgain size body) → IsReplied size body word ws e
replied size body word ws None f fs h =
    record {
      told = None;
      plain = tt;
      cut = subst (λ (vs : List (List ℕ)). IsCut 61 (word ++ behind_spaces vs) (word ++ behind_spaces ws) None) (sym (append-nil ws)) (cut_none 61 word ws f fs);
      again = refl;
    }
replied size body word ws (Some e) f fs h =
    let front = word ++ behind_spaces ws in
    let text = statuses_text e.statuses ++ payload_text e.payload in
    let plain : AllByRecursion IsPlainWord (told_words e) = words_plain (told_words e) h.free in
    let split : word ++ behind_spaces (ws ++ codes "=" ∷ told_words e) ≡ front ++ 32 ∷ 61 ∷ 32 ∷ text =
    split_words word ws (codes "=" ∷ told_words e) ∙ ap (λ (x : List ℕ). front ++ 32 ∷ 61 ∷ x) (told_spaced e) in
    let words : words_in (32 ∷ text) ≡ told_words e = ap words_in (sym (told_spaced e)) ∙ spaced_words (told_words e) plain in
    record {
      told = Some (32 ∷ text);
      plain = (record { some = omega arith; plain = (omega arith, tt) }, plain);
      cut = subst (λ (t : List ℕ). IsCut 61 t front (Some (32 ∷ text))) (sym split) (cut_here 61 word ws text f fs);
      again =
          ap (λ (vs : List (List ℕ)). reply size body vs >>= λ r. Ok (Some (record { time = e.time; statuses = r.0; payload = r.1 }))) words
          ∙ ap (λ (r : Result (Statuses × Option (List ℕ)) TraceExpected). r >>= λ x. Ok (Some (record { time = e.time; statuses = x.0; payload = x.1 }))) h.again;
    }

told_if_any : (ns : Namespace) (j : TracedJob) (e : Option Ending) → RunsAreLongest → IsBlockSize ns.block_size → BodyFits j.job.body → IfSome e (IsEndingOf ns j) → IfSome e EndingFits
    → IfSome e (IsToldAgain ns.block_size j.job.body)
told_if_any ns j None longest valid body h fits = tt
told_if_any ns j (Some e) longest valid body h fits = told_again ns j.job.body e.time e.statuses e.payload longest valid body h.statuses h.payload fits.statuses fits.payload

-- ---- the line

chained : (size : ℕ) (words : List (List ℕ)) (second told : Option (List ℕ)) (began host : ℕ) (time : Option ℕ) (r1 r2 r3 : List (List ℕ)) (c : Command) (b : Body) (e : Option Ending)
    → field 1 18446744073709551615 expecting.Began words ≡ found began r1 → end_time r1 ≡ found time r2 → field 1 64 expecting.Host r2 ≡ found host r3
    → identified size r3 ≡ Ok c → body_with size c second ≡ Ok b → ending size b time told ≡ Ok e
    → job_of size words second told ≡ Ok (record { job = record { host = host; body = b }; began = began; ended = e })
unfolding job_of
chained size words second told began host time r1 r2 r3 c b e p q r s t u =
    ap (λ (x : Result (ℕ × List (List ℕ)) TraceExpected). x >>= λ n. end_time n.1 >>= λ m. field 1 64 expecting.Host m.1 >>= λ h. identified size h.1 >>= λ d. body_with size d second >>= λ y. ending size y m.0 told >>= λ z. Ok (record { job = record { host = h.0; body = y }; began = n.0; ended = z })) p
    ∙ ap (λ (x : Result (Option ℕ × List (List ℕ)) TraceExpected). x >>= λ m. field 1 64 expecting.Host m.1 >>= λ h. identified size h.1 >>= λ d. body_with size d second >>= λ y. ending size y m.0 told >>= λ z. Ok (record { job = record { host = h.0; body = y }; began = began; ended = z })) q
    ∙ ap (λ (x : Result (ℕ × List (List ℕ)) TraceExpected). x >>= λ h. identified size h.1 >>= λ d. body_with size d second >>= λ y. ending size y time told >>= λ z. Ok (record { job = record { host = h.0; body = y }; began = began; ended = z })) r
    ∙ ap (λ (x : Result Command TraceExpected). x >>= λ d. body_with size d second >>= λ y. ending size y time told >>= λ z. Ok (record { job = record { host = host; body = y }; began = began; ended = z })) s
    ∙ ap (λ (x : Result Body TraceExpected). x >>= λ y. ending size y time told >>= λ z. Ok (record { job = record { host = host; body = y }; began = began; ended = z })) t
    ∙ ap (λ (x : Result (Option Ending) TraceExpected). x >>= λ z. Ok (record { job = record { host = host; body = b }; began = began; ended = z })) u

cut_job : (size : ℕ) (line sent front : List ℕ) (told second : Option (List ℕ)) → IsCut 61 line sent told → IsCut 43 sent front second → job size line ≡ job_of size (words_in front) second told
cut_job size line sent front told second h k =
    ap (λ (s : List ℕ). job_of size (words_in (before_mark 43 s)) (behind_mark 43 s) (behind_mark 61 line)) h.before
    ∙ ap (λ (o : Option (List ℕ)). job_of size (words_in (before_mark 43 sent)) (behind_mark 43 sent) o) h.after
    ∙ ap (λ (s : List ℕ). job_of size (words_in s) (behind_mark 43 sent) told) k.before
    ∙ ap (λ (o : Option (List ℕ)). job_of size (words_in front) o told) k.after

-- what holds of a job that was written
pub record IsJobAgain (size : ℕ) (j : TracedJob) : Type 0 where
  pub word : IsPlainWord (decimal j.began)
  pub plain : AllByRecursion IsPlainWord (line_words j)
  pub read : job size (decimal j.began ++ behind_spaces (line_words j)) ≡ Ok j

pub job_again : (ns : Namespace) (j : TracedJob) → RunsAreLongest → RangesFit → IsBlockSize ns.block_size → IsTraceableJob ns j → JobFits j → EndsBeforeLast j → IsJobAgain ns.block_size j
job_again ns j longest fit valid h fits ends =
    let size = ns.block_size in
    let body = j.job.body in
    let low : 1 ≤ j.began = h.began in
    let began : j.began < 2 ^ 64 = fits.began in
    let one : 1 ≤ j.job.host = h.fits.host in
    let most : j.job.host ≤ 64 = h.fits.host_end in
    let word : IsPlainWord (decimal j.began) = decimal_word j.began began in
    let sent = body_sent size body longest fit valid h.fits.body h.known fits.body in
    let end : IsFree (end_text j.ended) = end_free j.ended ends in
    let host : IsFree (decimal j.job.host) = decimal_free j.job.host (omega (arith, most)) in
    let fs : AllByRecursion IsFree (front_words j []) = (end, (host, tt)) in
    let unmarked : AllByRecursion (IsUnmarked 61) (front_words j (body_words body)) = both_all (IsUnmarked 61) (front_words j []) (body_words body) (no_equals (front_words j []) fs) sent.unmarked in
    let reply = replied size body (decimal j.began) (front_words j (body_words body)) j.ended word.plain unmarked (told_if_any ns j j.ended longest valid fits.body h.ended fits.ended) in
    let all : AllByRecursion IsPlainWord (front_words j (sent_words sent.first)) = words_plain (front_words j (sent_words sent.first)) (both_all IsFree (front_words j []) (sent_words sent.first) fs sent.free) in
    record {
      word = word;
      plain = both_all IsPlainWord (front_words j (body_words body)) (reply_words j.ended)
          (both_all IsPlainWord (front_words j []) (body_words body) (words_plain (front_words j []) fs) sent.plain) reply.plain;
      read =
          cut_job size (decimal j.began ++ behind_spaces (line_words j)) (decimal j.began ++ behind_spaces (front_words j (body_words body))) (decimal j.began ++ behind_spaces (front_words j (sent_words sent.first))) reply.told sent.second
          reply.cut (sent.cut (decimal j.began) (front_words j []) word.plain fs)
          ∙ ap (λ (ws : List (List ℕ)). job_of size ws sent.second reply.told) (words_again (decimal j.began) (front_words j (sent_words sent.first)) word all)
          ∙ chained size (decimal j.began ∷ front_words j (sent_words sent.first)) sent.second reply.told j.began j.job.host (time_of j.ended)
          (front_words j (sent_words sent.first)) (decimal j.job.host ∷ sent_words sent.first) (sent_words sent.first) sent.first body j.ended
          (field_again 1 18446744073709551615 expecting.Began j.began (front_words j (sent_words sent.first)) began low (omega (arith, began)))
          (end_again j.ended (decimal j.job.host ∷ sent_words sent.first) ends)
          (field_again 1 64 expecting.Host j.job.host (sent_words sent.first) (omega (arith, most)) one most)
          sent.read sent.again reply.again;
    }
