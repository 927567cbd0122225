-- Where a job is, and whose commands it has.
use Rattle.std.proofs.Common.{◌≡◌, inl, inr, ℕ, zero, suc, ◌+◌, ◌-◌, ◌<◌, List, [], ◌∷◌, length, get_or, take, refl, ap, sym, ◌∙◌, subst, arith}
use mathlib.Core.Option.{some}
use Rattle.std.specs.List.{All, Contains, flat_map}
use Rattle.std.proofs.lemmas.Bool.{cases_lt, cases_eq}
use Rattle.std.proofs.lemmas.List.Elements.{All-weaker, All-contains, All-contains_itself, Contains-append_left, Contains-append_right}
use Rattle.nvm_record.specs.Entry.{IsWhole}
use Rattle.nvm_record.specs.Lists.{IsAt}
use Rattle.nvm_record.specs.declared.command.Command.{Command}
use Rattle.nvm_plan.specs.declared.job.Body.{Body}
use Rattle.nvm_plan.specs.declared.job.Job.{Job}
use Rattle.nvm_plan.specs.Jobs.{commands_of, IsPairing, bodies_of, IsJobOf, StandsBefore, IsJobList, IsOfHosts}
use Rattle.nvm_plan.proofs.Standing.{at_within, at_value, at_read}
use Rattle.nvm_plan.proofs.OnePairing.{one_pairing_alone}
use Rattle.nvm_plan.proofs.TurnOrder.{before_not_after}
use Rattle.nvm_plan.proofs.OneOrder.{bodies_this, bodies_other}

-- where the host's job of the number is
pub record HasPlace (h number : ℕ) (body : Body) (jobs : List Job) : Type 0 where
  pub place : ℕ
  pub stands : IsJobOf h number jobs place
  pub job : IsAt jobs place (record { host = h; body = body })

one_further : (h number more : ℕ) (body : Body) (j : Job) (js : List Job) → (p : HasPlace h number body js)
    → length (bodies_of h (j ∷ take p.place js)) ≡ more → HasPlace h more body (j ∷ js)
one_further h number more body j js p counted =
    record {
      place = suc p.place;
      stands = record { there = p.stands.there; before = counted };
      job = p.job;
    }

pub place_of : (h : ℕ) (body : Body) (jobs : List Job) (number : ℕ) → IsAt (bodies_of h jobs) number body → HasPlace h number body jobs
place_of h body [] number is = absurd (cc)
place_of h body (j ∷ js) number is =
    elim (cases_eq j.host h) [
      | inl mine ↦ this (λ n at. place_of h body js n at) number mine (rw (bodies_this h j js mine) at is)
      | inr other ↦
          let p = place_of h body js number (rw (bodies_other h j js other) at is) in
          one_further h number number body j js p (ap length (bodies_other h j (take p.place js) other) ∙ p.stands.before)
    ]
  where
    this : ((n : ℕ) → IsAt (bodies_of h js) n body → HasPlace h n body js) → (number : ℕ) → j.host ≡ h → IsAt (j.body ∷ bodies_of h js) number body → HasPlace h number body (j ∷ js)
    this later zero mine is =
        let same : j.body ≡ body = cc in
        record {
          place = zero;
          stands = record { there = ap (λ x. some x) mine; before = refl };
          job = λ i. some (record { host = mine i; body = same i });
        }
    this later (suc n) mine is =
        let p = later n is in
        one_further h n (suc n) body j js p (ap length (bodies_this h j (take p.place js) mine) ∙ ap suc p.stands.before)

-- each of a host's jobs is found somewhere
pub stands_somewhere : (hosts : List (List Command)) (jobs : List Job) (place : ℕ) (commands : List Command) (bodies : List Body) (number : ℕ) (body : Body)
    → IsJobList hosts jobs → IsAt hosts place commands → IsPairing commands bodies → IsAt bodies number body
    → (there : ℕ) × IsJobOf (place + 1) number jobs there × IsAt jobs there (record { host = place + 1; body = body })
stands_somewhere hosts jobs place commands bodies number body all is pairing at =
    let same = one_pairing_alone commands bodies (bodies_of (place + 1) jobs) pairing (all.each place commands is) in
    let p = place_of (place + 1) body jobs number (rw same at at) in
    (p.place, p.stands, p.job)

-- and nowhere else
pub stands_once : (hosts : List (List Command)) (jobs : List Job) (h number p q : ℕ) → IsJobList hosts jobs
    → IsJobOf h number jobs p → IsJobOf h number jobs q → p ≡ q
stands_once hosts jobs h number p q all a b =
    let not_itself : StandsBefore number h number h → ⊥ = λ s. before_not_after number h number h s s in
    elim (cases_lt p q) [
      | inl lower ↦ absurd (not_itself ((all.order h number h number p q a b).0 lower))
      | inr above ↦ elim (cases_lt q p) [
        | inl lower ↦ absurd (not_itself ((all.order h number h number q p b a).0 lower))
        | inr below ↦ omega arith
      ]
    ]

contains_later : {X : Type 0} (y : X) (xs : List X) (x : X) → Contains xs x → Contains (y ∷ xs) x
contains_later y xs x h = Contains-append_right (y ∷ []) xs x h

-- a job's body is among its host's
body_among : (jobs : List Job) (p : ℕ) (d : Job) → p < length jobs → Contains (bodies_of (get_or jobs p d).host jobs) (get_or jobs p d).body
body_among [] p d inside = absurd (omega arith)
body_among (j ∷ js) zero d inside = rw (bodies_this j.host j js refl) (zero, omega arith, refl)
body_among (j ∷ js) (suc p) d inside =
    let h = (get_or js p d).host in
    let body = (get_or js p d).body in
    let rest = body_among js p d (omega arith) in
    elim (cases_eq j.host h) [
      | inl mine ↦ rw (bodies_this h j js mine) (contains_later j.body (bodies_of h js) body rest)
      | inr other ↦ rw (bodies_other h j js other) rest
    ]

-- and a body's commands are among those of all bodies
commands_among : (bodies : List Body) (p : ℕ) (d : Body) → p < length bodies → All (Contains (flat_map commands_of bodies)) (commands_of (get_or bodies p d))
commands_among [] p d inside = absurd (omega arith)
commands_among (b ∷ bs) zero d inside =
    All-weaker (Contains (commands_of b)) (Contains (flat_map commands_of (b ∷ bs))) (λ x h. Contains-append_left (commands_of b) (flat_map commands_of bs) x h)
    (commands_of b) (All-contains_itself (commands_of b))
commands_among (b ∷ bs) (suc p) d inside =
    All-weaker (Contains (flat_map commands_of bs)) (Contains (flat_map commands_of (b ∷ bs))) (λ x h. Contains-append_right (commands_of b) (flat_map commands_of bs) x h)
    (commands_of (get_or bs p d)) (commands_among bs p d (omega arith))

pub all_of_hosts : (hosts : List (List Command)) (jobs : List Job) → IsJobList hosts jobs → All (IsOfHosts hosts) jobs
all_of_hosts hosts jobs all p d inside =
    let j = get_or jobs p d in
    let known = all.known p d inside in
    let place = j.host - 1 in
    let number : j.host ≡ place + 1 = omega (arith, known.0) in
    let listed = at_read hosts place [] (omega (arith, known.0, known.1)) in
    let theirs = get_or hosts place [] in
    let pairing = subst (λ h. IsPairing theirs (bodies_of h jobs)) (sym number) (all.each place theirs listed) in
    let among = body_among jobs p d inside in
    let its = commands_among (bodies_of j.host jobs) among.0 j.body among.1 in
    let same = among.2 in
    record {
      place = place;
      number = number;
      theirs = theirs;
      listed = listed;
      commands = rw (same, pairing.whole) at its;
      body = rw same at (pairing.paired among.0 j.body among.1);
    }

-- so they are whole where the hosts' commands are
pub all_whole : (size : ℕ) (hosts : List (List Command)) (jobs : List Job) → All (λ commands. All (IsWhole size) commands) hosts → IsJobList hosts jobs
    → All (λ j. All (IsWhole size) (commands_of j.body)) jobs
all_whole size hosts jobs whole all =
    All-weaker (IsOfHosts hosts) (λ j. All (IsWhole size) (commands_of j.body)) (λ j made. each j made) jobs (all_of_hosts hosts jobs all)
  where
    each : (j : Job) → IsOfHosts hosts j → All (IsWhole size) (commands_of j.body)
    each j made =
        let inside = at_within hosts made.place made.theirs made.listed in
        let same = at_value hosts made.place made.theirs made.theirs made.listed in
        let theirs = rw same at (whole made.place made.theirs inside) in
        All-weaker (Contains made.theirs) (IsWhole size) (λ c h. All-contains (IsWhole size) made.theirs c theirs h) (commands_of j.body) made.commands
