-- Whether two done jobs are the same is decided, and whether two records are: by the numbers that spell the codes by which the logic
-- distinguishes such values.
use Rattle.std.proofs.Common.{◌≡◌, ℕ, zero, suc, List, [], ◌∷◌, refl, sym, ap, ◌∙◌, nat_eq}
use Rattle.std.proofs.lemmas.Bool.Decides.{Decides-eqb}
use Rattle.std.proofs.lemmas.Slice.Eq.{slice_eq-Decides}
use Rattle.std.specs.Cmp.Lexicographic.{pointwise}
use native.Mathlib.Nat.{suc-ne-zero}
use base.Stored.{Gv, gnil, gnum, gcons}
use Rattle.nvm_audit.specs.contracts.done_job.DoneJob.{the_row as done_job}
use Rattle.nvm_audit.specs.contracts.record.Record.{the_row as recorded}
use Rattle.nvm_audit.specs.RecordedJob.{RecordedJob}
use Rattle.nvm_audit.specs.RecordView.{RecordView}
use Rattle.nvm_audit.proofs.Decided.{IsDecided, by_test, with_it}

abbrev first_of : ℕ → List ℕ → ℕ
first_of n [] = n
first_of n (x ∷ xs) = x

abbrev pred : ℕ → ℕ
pred zero = zero
pred (suc n) = n

abbrev rest_of : List ℕ → List ℕ
rest_of [] = []
rest_of (x ∷ xs) = xs

zero_is_one : {xs ys : List ℕ} → (0 ∷ xs) ≡ (1 ∷ ys) → ⊥
zero_is_one e = suc-ne-zero 0 (sym (ap (first_of 0) e))

zero_is_two : {xs ys : List ℕ} → (0 ∷ xs) ≡ (2 ∷ ys) → ⊥
zero_is_two e = suc-ne-zero 1 (sym (ap (first_of 0) e))

one_is_two : {xs ys : List ℕ} → (1 ∷ xs) ≡ (2 ∷ ys) → ⊥
one_is_two e = suc-ne-zero 0 (ap pred (sym (ap (first_of 0) e)))

-- the numbers of a code, before these
abbrev spelled : Gv → List ℕ → List ℕ
spelled gnil rest = 0 ∷ rest
spelled (gnum n) rest = 1 ∷ n ∷ rest
spelled (gcons a b) rest = 2 ∷ spelled a (spelled b rest)

-- Codes that are spelled alike are one, and so is what follows them.
one_code : (a b : Gv) (xs ys : List ℕ) → spelled a xs ≡ spelled b ys → (a ≡ b) × (xs ≡ ys)
one_code gnil gnil xs ys e = (refl, ap rest_of e)
one_code gnil (gnum n) xs ys e = absurd (zero_is_one e)
one_code gnil (gcons c d) xs ys e = absurd (zero_is_two e)
one_code (gnum m) gnil xs ys e = absurd (zero_is_one (sym e))
one_code (gnum m) (gnum n) xs ys e = (ap gnum (ap (λ l. first_of 0 (rest_of l)) e), ap (λ l. rest_of (rest_of l)) e)
one_code (gnum m) (gcons c d) xs ys e = absurd (one_is_two e)
one_code (gcons a b) gnil xs ys e = absurd (zero_is_two (sym e))
one_code (gcons a b) (gnum n) xs ys e = absurd (one_is_two (sym e))
one_code (gcons a b) (gcons c d) xs ys e =
    let first = one_code a c (spelled b xs) (spelled d ys) (ap rest_of e) in
    let second = one_code b d xs ys first.1 in
    (ap (λ (x : Gv). gcons x b) first.0 ∙ ap (gcons c) second.0, second.1)

same_numbers : (xs ys : List ℕ) → IsDecided (xs ≡ ys)
same_numbers xs ys = by_test (pointwise nat_eq xs ys) (slice_eq-Decides Decides-eqb xs ys (pointwise nat_eq xs ys) refl)

-- codes are one exactly where their numbers are
same_codes : (a b : Gv) → IsDecided (a ≡ b)
same_codes a b =
    with_it (λ e. (one_code a b [] [] e).0) (ap (λ (code : Gv). spelled code [])) (same_numbers (spelled a []) (spelled b []))

pub same_done_jobs : (a b : RecordedJob) → IsDecided (a ≡ b)
same_done_jobs a b =
    with_it (done_job.coded.inj a b) (ap done_job.coded.code) (same_codes (done_job.coded.code a) (done_job.coded.code b))

pub same_records : (a b : RecordView) → IsDecided (a ≡ b)
same_records a b =
    with_it (recorded.coded.inj a b) (ap recorded.coded.code) (same_codes (recorded.coded.code a) (recorded.coded.code b))
