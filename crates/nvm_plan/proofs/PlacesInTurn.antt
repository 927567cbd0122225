-- From a list of hosts in turn to the order of the jobs, and back.
use Rattle.std.proofs.Common.{◌≡◌, inl, inr, ℕ, suc, ◌<◌, List, [], ◌∷◌, length, get_or, take, map, refl, ap, sym, ◌∙◌, arith}
use Rattle.std.specs.Prelude.{◌↔◌, ◌==◌}
use Rattle.std.specs.List.{filter}
use Rattle.std.proofs.lemmas.Bool.{cases_lt, cases_eq, cases_Bool}
use Rattle.std.proofs.lemmas.List.{length-map, take-map}
use Rattle.std.proofs.lemmas.List.Sums.{length-filter}
use Rattle.nvm_plan.specs.declared.job.Job.{Job}
use Rattle.nvm_plan.specs.Jobs.{bodies_of, IsJobOf, StandsBefore}
use Rattle.nvm_plan.proofs.Standing.{at_within, at_value, at_read}
use Rattle.nvm_plan.proofs.TurnOrder.{times, round, IsInTurn, before_not_after}

-- the host of each job
abbrev pub hosts_of : List Job → List ℕ
hosts_of jobs = map (λ job. job.host) jobs

pub length_of_bodies : (h : ℕ) (jobs : List Job) → length (bodies_of h jobs) ≡ times h (hosts_of jobs)
length_of_bodies h jobs = length-map (filter (λ job. job.host == h) jobs) (λ job. job.body) ∙ counted jobs
  where
    counted : (jobs : List Job) → length (filter (λ job. job.host == h) jobs) ≡ times h (hosts_of jobs)
    counted [] = refl
    counted (j ∷ js) =
        let rest = counted js in
        let step = length-filter (λ x. x == h) (hosts_of (j ∷ js)) in
        let step_rest = length-filter (λ x. x == h) (hosts_of js) in
        elim (cases_Bool (j.host == h)) [
          | inl t ↦ rw t (ap suc (rest ∙ sym step_rest)) ∙ step
          | inr f ↦ rw f (rest ∙ sym step_rest) ∙ step
        ]

bodies_before : (h : ℕ) (jobs : List Job) (p : ℕ) → length (bodies_of h (take p jobs)) ≡ times h (take p (hosts_of jobs))
bodies_before h jobs p = length_of_bodies h (take p jobs) ∙ ap (times h) (sym (take-map (λ job. job.host) p jobs))

-- what a job's number is
number_is : (h k : ℕ) (jobs : List Job) (p : ℕ) → IsJobOf h k jobs p
    → (p < length (hosts_of jobs)) × (get_or (hosts_of jobs) p 0 ≡ h) × (round (hosts_of jobs) p ≡ k)
number_is h k jobs p j =
    let here : get_or (hosts_of jobs) p 0 ≡ h = at_value (hosts_of jobs) p h 0 j.there in
    (at_within (hosts_of jobs) p h j.there, here, rw here (sym (bodies_before h jobs p) ∙ j.before))

-- jobs in turn are in the order of their numbers and hosts
pub order_of_turns : (jobs : List Job) → IsInTurn (hosts_of jobs)
    → (h k i l p q : ℕ) → IsJobOf h k jobs p → IsJobOf i l jobs q → (p < q) ↔ StandsBefore k h l i
order_of_turns jobs turn h k i l p q a b =
    let at_p = number_is h k jobs p a in
    let at_q = number_is i l jobs q b in
    let forward : p < q → StandsBefore k h l i = λ lower.
    let stands = turn p q lower at_q.0 in
    rw (at_p.2, at_p.1, at_q.2, at_q.1) at stands in
    let back : q < p → StandsBefore l i k h = λ lower.
    let stands = turn q p lower at_p.0 in
    rw (at_q.2, at_q.1, at_p.2, at_p.1) at stands in
    let same : p ≡ q → StandsBefore k h l i → ⊥ = λ e stands.
    let one = number_is h k jobs q (rw e at a) in
    let same_host : h ≡ i = sym one.1 ∙ at_q.1 in
    let same_number : k ≡ l = sym one.2 ∙ at_q.2 in
    let itself : StandsBefore l i l i = rw (same_host, same_number) at stands in
    before_not_after l i l i itself itself in (
      forward,
      λ stands. elim (cases_lt p q) [
        | inl lower ↦ lower
        | inr above ↦ elim (cases_eq p q) [
          | inl e ↦ absurd (same e stands)
          | inr other ↦ absurd (before_not_after k h l i stands (back (omega (arith, above, other))))
        ]
      ],
    )

-- and jobs in that order are in turn
pub turns_of_order : (jobs : List Job)
    → ((h k i l p q : ℕ) → IsJobOf h k jobs p → IsJobOf i l jobs q → (p < q) ↔ StandsBefore k h l i)
    → IsInTurn (hosts_of jobs)
turns_of_order jobs order p q lower inside =
    let hs = hosts_of jobs in
    let at : (r : ℕ) → r < length hs → IsJobOf (get_or hs r 0) (round hs r) jobs r = λ r within.
    record { there = at_read hs r 0 within; before = bodies_before (get_or hs r 0) jobs r } in
    (order (get_or hs p 0) (round hs p) (get_or hs q 0) (round hs q) p q (at p (omega arith)) (at q inside)).0 lower
