-- The first job with an unknown opcode 09h.
use Rattle.std.proofs.Common.{◌≡◌, inl, inr, ℕ, ◌+◌, ◌<◌, List, length, get_or, sym, subst, arith}
use Rattle.std.proofs.lemmas.Bool.{cases_lt, cases_order}
use Rattle.nvm_record.specs.Lists.{IsAt}
use Rattle.nvm_plan.specs.declared.job.Job.{Job}
use Rattle.nvm_file.specs.Upgrade.{AreKnown, HasUnknown, IsFirstUnknown}
use Rattle.nvm_file.proofs.Places.{below_length, read_at}

-- No job before this number has one.
abbrev pub KnownBefore : List Job → ℕ → Type 0
KnownBefore jobs number = (earlier : ℕ) (job : Job) → earlier < number → IsAt jobs earlier job → ¬ (HasUnknown job.body)

-- nor does the one of this number
pub known_on : (jobs : List Job) (number : ℕ) (d : Job) → KnownBefore jobs number → ¬ (HasUnknown (get_or jobs number d).body)
    → KnownBefore jobs (number + 1)
known_on jobs number d before here earlier job below at unknown =
    elim (cases_lt earlier number) [
      | inl less ↦ before earlier job less at unknown
      | inr above ↦
          let same : earlier ≡ number = omega (arith, above, below) in
          here (subst (λ j. HasUnknown j.body) (sym (read_at jobs number job d (subst (λ n. IsAt jobs n job) same at))) unknown)
    ]

-- none has
pub all_known : (jobs : List Job) (number : ℕ) → length jobs ≡ number → KnownBefore jobs number → AreKnown jobs
all_known jobs number end before place job at = before place job (subst (λ n. place < n) end (below_length jobs place job at)) at

-- Two numbers can't both be the first's.
pub one_first : (jobs : List Job) (m n : ℕ) → IsFirstUnknown jobs m → IsFirstUnknown jobs n → m ≡ n
one_first jobs m n f g =
    elim (cases_order m n) [
      | inl same ↦ same
      | inr (inl less) ↦ absurd (g.first m f.job less f.there f.unknown)
      | inr (inr more) ↦ absurd (f.first n g.job more g.there g.unknown)
    ]

-- Where no job has one there is no first.
pub none_first : (jobs : List Job) (number : ℕ) → AreKnown jobs → ¬ (IsFirstUnknown jobs number)
none_first jobs number known f = known number f.job f.there f.unknown
