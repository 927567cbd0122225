-- Noting where done jobs are, one after the other.
use Rattle.std.proofs.Common.{◌≡◌, nat_eq, ℕ, ◌+◌, ◌<◌, List, Bool, true, false, length, refl, sym, ◌∙◌, subst, arith, below_more}
use Rattle.std.proofs.Math.ListN.{set}
use Rattle.std.proofs.lemmas.Bool.{eqb-true, eqb-false}
use Rattle.std.proofs.lemmas.List.{length-set}
use Rattle.nvm_record.specs.Lists.{IsAt}
use Rattle.nvm_audit.specs.RecordedJob.{RecordedJob}
use Rattle.nvm_audit.proofs.Counting.{at_set_same, at_set_other}
use Rattle.nvm_audit.proofs.Standing.{one_there}
use Rattle.nvm_audit.specs.DonePlaces.{IsDonePlace, IsNoted}
use Rattle.nvm_audit.specs.Inside.Noted.{AreNoted}
use Rattle.nvm_audit.specs.declared.done_jobs.DonePlace.{DonePlace}

module _ (done : List (List RecordedJob)) where
  noted_here : (places : List DonePlace) (number : ℕ) (it : DonePlace) → number < length places → IsDonePlace done number it
      → IsNoted done (set places number it) number
  noted_here places number it lt is = record { there = it; noted = at_set_same places number it lt; is = is }

  -- What is noted of a job stays noted, or another place of the same number is.
  noted_still : (places : List DonePlace) (at : ℕ) (it : DonePlace) → at < length places → IsDonePlace done at it → (number : ℕ)
      → IsNoted done places number → IsNoted done (set places at it) number
  noted_still places at it lt is number noted = by (nat_eq number at) refl
    where
      by : (b : Bool) → nat_eq number at ≡ b → IsNoted done (set places at it) number
      by true e =
          subst (λ (n : ℕ). IsNoted done (set places at it) n) (sym (eqb-true number at e)) (noted_here places at it lt is)
      by false e = record {
        there = noted.there;
        noted = at_set_other places at number it noted.there (eqb-false number at e) noted.noted;
        is = noted.is;
      }

  -- Of the first done jobs of one worker it is noted where they are, and what was noted before still is.
  pub record IsNoting (work : List RecordedJob) (old places : List DonePlace) (count : ℕ) : Type 0 where
    pub as_long : length places ≡ length old
    pub kept : (number : ℕ) → IsNoted done old number → IsNoted done places number
    pub noted : (place : ℕ) → place < count → (d : RecordedJob) → IsAt work place d → IsNoted done places d.job

  pub none_noted : (work : List RecordedJob) (places : List DonePlace) → IsNoting work places places 0
  none_noted work places = record {
    as_long = refl;
    kept = λ number noted. noted;
    noted = λ place lt. absurd (omega arith);
  }

  pub one_more_noted : (work : List RecordedJob) (old places : List DonePlace) (d : RecordedJob) (it : DonePlace)
      → IsNoting work old places it.place → IsAt done it.worker work → IsAt work it.place d → d.job < length old
      → IsNoting work old (set places d.job it) (it.place + 1)
  one_more_noted work old places d it so_far by there lt =
      let lt' : d.job < length places = omega (arith, so_far.as_long) in
      let is : IsDonePlace done d.job it = record { work = work; its = d; by = by; there = there; number_is = refl } in
      let still = noted_still places d.job it lt' is in
      record {
        as_long = length-set places d.job it ∙ so_far.as_long;
        kept = λ number noted. still number (so_far.kept number noted);
        noted =
            below_more (λ (place : ℕ). (e : RecordedJob) → IsAt work place e → IsNoted done (set places d.job it) e.job) it.place
            (λ place below e in'. still e.job (so_far.noted place below e in'))
            (λ e in'.
            subst (λ (x : RecordedJob). IsNoted done (set places d.job it) x.job) (one_there work it.place d e there in')
            (noted_here places d.job it lt' is));
      }

  -- The done jobs of one worker more.
  pub one_more_worker : (worker : ℕ) (work : List RecordedJob) (old new : List DonePlace) → IsAt done worker work → AreNoted worker done old
      → ((number : ℕ) → IsNoted done old number → IsNoted done new number)
      → ((place : ℕ) (d : RecordedJob) → IsAt work place d → IsNoted done new d.job) → AreNoted (worker + 1) done new
  one_more_worker worker work old new its so_far kept noted = λ w other place d lt by there.
      below_more (λ (v : ℕ). (work' : List RecordedJob) → IsAt done v work' → IsAt work' place d → IsNoted done new d.job) worker
      (λ v below work' by' there'. kept d.job (so_far v work' place d below by' there'))
      (λ work' by' there'. noted place d (subst (λ (x : List RecordedJob). IsAt x place d) (one_there done worker work' work by' its) there'))
      w lt other by there
