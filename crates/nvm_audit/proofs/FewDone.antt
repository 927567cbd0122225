-- Where each job was done once, no worker did more of them than there are.
use Rattle.std.proofs.Common.{◌≡◌, ℕ, zero, suc, ◌+◌, ◌<◌, ◌≤◌, List, [], ◌∷◌, length, cond, nat_eq, refl, ap, subst, arith, inl, inr}
use Rattle.std.proofs.lemmas.Bool.{cases_eq}
use Rattle.std.proofs.lemmas.Bool.Decides.{Decides-eqb}
use Rattle.std.proofs.lemmas.List.Sums.{sum_by-cons}
use Rattle.std.specs.List.{sum_by, count_by}
use mathlib.Core.Option.{some-injective}
use Rattle.nvm_record.specs.Lists.{IsAt}
use Rattle.nvm_audit.specs.LawfulRecord.{IsLawfulRecord}
use Rattle.nvm_audit.specs.RecordedJob.{RecordedJob}
use Rattle.nvm_audit.specs.RecordView.{RecordView}
use Rattle.nvm_audit.proofs.Standing.{none_stands, below}

-- the sum of the first n
abbrev total : (ℕ → ℕ) → ℕ → ℕ
total f zero = 0
total f (suc n) = total f n + f n

at_most : (f : ℕ → ℕ) (n : ℕ) → ((k : ℕ) → k < n → f k ≤ 1) → total f n ≤ n
at_most f zero each = omega arith
at_most f (suc n) each =
    let rest = at_most f n (λ k lt. each k (omega (arith, lt))) in
    let last = each n (omega arith) in
    omega (arith, rest, last)

added : (f g h : ℕ → ℕ) (n : ℕ) → ((k : ℕ) → h k ≡ f k + g k) → total h n ≡ total f n + total g n
added f g h zero each = omega arith
added f g h (suc n) each =
    let rest = added f g h n each in
    let last = each n in
    omega (arith, rest, last)

-- one of them counts
has_one : (f : ℕ → ℕ) (n k : ℕ) → k < n → f k ≡ 1 → 1 ≤ total f n
has_one f zero k lt one = absurd (omega arith)
has_one f (suc n) k lt one = elim (cases_eq k n) [
  | inl same ↦
      let last : f n ≡ 1 = subst (λ (m : ℕ). f m ≡ 1) same one in
      omega (arith, last)
  | inr other ↦
      let before : k < n = omega (arith, other) in
      let rest = has_one f n k before one in
      omega (arith, rest)
]

-- whether it is a job of this number, as 1 or 0
abbrev counts : ℕ → RecordedJob → ℕ
counts number d = cond (nat_eq d.job number) 1 0

abbrev count_in : List RecordedJob → ℕ → ℕ
count_in work number = count_by (λ d. nat_eq d.job number) work

all_counted : (n : ℕ) (work : List RecordedJob) → ((k : ℕ) (d : RecordedJob) → IsAt work k d → d.job < n)
    → length work ≤ total (count_in work) n
all_counted n [] known = omega arith
all_counted n (d ∷ ds) known =
    let rest = all_counted n ds (λ k e at. known (suc k) e at) in
    let sum = added (λ number. counts number d) (count_in ds) (count_in (d ∷ ds)) n (λ number. sum_by-cons (counts number) d ds) in
    let itself : counts d.job d ≡ 1 = ap (λ b. cond b 1 0) ((Decides-eqb d.job d.job).1 refl) in
    let one = has_one (λ number. counts number d) n d.job (known 0 d refl) itself in
    omega (arith, rest, sum, one)

module _ {A : Type 0} (f : A → ℕ) where
  one_of_sum : (xs : List A) (i : ℕ) (x : A) → IsAt xs i x → f x ≤ sum_by f xs
  one_of_sum [] i x at = absurd (none_stands i x at)
  one_of_sum (y ∷ ys) zero x at =
      let sum = sum_by-cons f y ys in
      let same : f y ≡ f x = ap f (some-injective y x at) in
      omega (arith, sum, same)
  one_of_sum (y ∷ ys) (suc i) x at =
      let sum = sum_by-cons f y ys in
      let rest = one_of_sum ys i x at in
      omega (arith, sum, rest)

pub few_done : (r : RecordView) (worker : ℕ) (work : List RecordedJob) → IsLawfulRecord r → IsAt r.done worker work
    → length work ≤ length r.jobs
few_done r worker work lawful there =
    let most = all_counted (length r.jobs) work
    (λ k d at. let its = (lawful.shapes worker work k d there at).its in below r.jobs d.job _ its) in
    let few = at_most (count_in work) (length r.jobs)
    (λ number lt.
    let once = lawful.once number lt in
    let part = one_of_sum (λ (w : List RecordedJob). count_by (λ d. nat_eq d.job number) w) r.done worker work there in
    omega (arith, once, part)) in
    omega (arith, most, few)
