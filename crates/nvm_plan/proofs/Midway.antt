-- Midway: the jobs so far, with the jobs of what is left to the waiting hosts, are those of all commands.
use Rattle.std.proofs.Common.{◌≡◌, ◌≢◌, inl, inr, ℕ, zero, suc, ◌+◌, ◌<◌, ◌≤◌, true, false, cond, List, [], ◌∷◌, ◌++◌, length, map, refl, ap, sym, ◌∙◌, subst, arith, append_assoc}
use Rattle.std.specs.Prelude.{◌==◌}
use Rattle.std.specs.List.{All, AllByRecursion, filter, enumerate_from, range_with_len}
use Rattle.std.proofs.lemmas.Bool.{cases_eq, eq-eqb, ne_eqb}
use Rattle.std.proofs.lemmas.List.{append-nil, map_push, map-append}
use Rattle.std.proofs.lemmas.List.Elements.{All-nil, All-push, filter-append}
use Rattle.nvm_record.specs.Lists.{IsAt}
use Rattle.nvm_record.specs.declared.command.Command.{Command}
use Rattle.nvm_plan.specs.declared.job.Body.{Body}
use Rattle.nvm_plan.specs.declared.job.Job.{Job}
use Rattle.nvm_plan.specs.Jobs.{bodies_of, IsPairing, IsJobList}
use Rattle.nvm_plan.proofs.OnePairing.{pairing_none}
use Rattle.nvm_plan.proofs.TurnOrder.{times}
use Rattle.nvm_plan.proofs.TurnSteps.{BeforeEach, AreWaiting, all_append, two_hosts, waiting_rest, waiting_next, waiting_first}
use Rattle.nvm_plan.proofs.PlacesInTurn.{hosts_of, order_of_turns}
use Rattle.nvm_plan.proofs.WaitingHosts.{Queue}

-- what is left of the host's commands
abbrev pub left_of : ℕ → Queue → List Command
left_of h [] = []
left_of h (w ∷ ws) = cond (w.0 == h) w.1 (left_of h ws)

-- the hosts that wait
abbrev pub waiting_hosts : Queue → List ℕ
waiting_hosts queue = map (λ w. w.0) queue

abbrev pub IsKnown : ℕ → ℕ → Type 0
IsKnown hosts h = (0 < h) × (h ≤ hosts)

pub record IsMidway (all : List (List Command)) (queue : Queue) (jobs : List Job) : Type 0 where
  pub left : (place : ℕ) (commands : List Command) → IsAt all place commands → (rest : List Body)
      → IsPairing (left_of (place + 1) queue) rest → IsPairing commands (bodies_of (place + 1) jobs ++ rest)
  pub known : All (λ job. IsKnown (length all) job.host) jobs
  pub waiting_known : AllByRecursion (λ w. IsKnown (length all) w.0) queue
  pub turns : AreWaiting (hosts_of jobs) (waiting_hosts queue)

left_here : (h : ℕ) (cs : List Command) (queue : Queue) → left_of h ((h, cs) ∷ queue) ≡ cs
left_here h cs queue = rw (eq-eqb h h refl) refl

left_elsewhere : (h w : ℕ) (cs : List Command) (queue : Queue) → w ≢ h → left_of h ((w, cs) ∷ queue) ≡ left_of h queue
left_elsewhere h w cs queue other = rw (ne_eqb w h other) refl

-- a host that waits after another one is another host
nothing_left : (done : List ℕ) (h : ℕ) (queue : Queue) → BeforeEach done (times h done) h (waiting_hosts queue) → left_of h queue ≡ []
nothing_left done h [] b = refl
nothing_left done h (w ∷ ws) b =
    rw (ne_eqb w.0 h (λ e. two_hosts done h w.0 b.0 (sym e))) (nothing_left done h ws b.1)

left_push_here : (done : List ℕ) (h : ℕ) (cs : List Command) (queue : Queue) → BeforeEach done (times h done) h (waiting_hosts queue)
    → left_of h (queue ++ (h, cs) ∷ []) ≡ cs
left_push_here done h cs [] b = left_here h cs []
left_push_here done h cs (w ∷ ws) b =
    rw (ne_eqb w.0 h (λ e. two_hosts done h w.0 b.0 (sym e))) (left_push_here done h cs ws b.1)

left_push_elsewhere : (h w : ℕ) (cs : List Command) (queue : Queue) → w ≢ h → left_of h (queue ++ (w, cs) ∷ []) ≡ left_of h queue
left_push_elsewhere h w cs [] other = left_elsewhere h w cs [] other
left_push_elsewhere h w cs (v ∷ vs) other = ap (cond (v.0 == h) v.1) (left_push_elsewhere h w cs vs other)

abbrev pub job : ℕ → Body → Job
job h body = record { host = h; body = body }

bodies_push : (h w : ℕ) (body : Body) (jobs : List Job)
    → bodies_of h (jobs ++ job w body ∷ []) ≡ bodies_of h jobs ++ cond (w == h) (body ∷ []) []
bodies_push h w body jobs =
    ap (map (λ j. j.body)) (filter-append (λ j. j.host == h) jobs (job w body ∷ []))
    ∙ map-append (λ j. j.body) (filter (λ j. j.host == h) jobs) (cond (w == h) (job w body ∷ []) [])
    ∙ elim (w == h) as (λ b. bodies_of h jobs ++ map (λ j. j.body) (cond b (job w body ∷ []) []) ≡ bodies_of h jobs ++ cond b (body ∷ []) [])
    [ true ↦ refl | false ↦ refl ]

bodies_here : (h : ℕ) (body : Body) (jobs : List Job) (rest : List Body)
    → bodies_of h (jobs ++ job h body ∷ []) ++ rest ≡ bodies_of h jobs ++ body ∷ rest
bodies_here h body jobs rest =
    let pushed = bodies_push h h body jobs in
    rw (pushed, eq-eqb h h refl) (append_assoc (bodies_of h jobs) (body ∷ []) rest)

bodies_elsewhere : (h w : ℕ) (body : Body) (jobs : List Job) → w ≢ h → bodies_of h (jobs ++ job w body ∷ []) ≡ bodies_of h jobs
bodies_elsewhere h w body jobs other =
    let pushed = bodies_push h w body jobs in
    rw (pushed, ne_eqb w h other) (append-nil (bodies_of h jobs))

hosts_push : (jobs : List Job) (h : ℕ) (body : Body) → hosts_of (jobs ++ job h body ∷ []) ≡ hosts_of jobs ++ h ∷ []
hosts_push jobs h body = map_push (λ j. j.host) jobs (job h body)

waiting_push : (queue : Queue) (h : ℕ) (cs : List Command) → waiting_hosts (queue ++ (h, cs) ∷ []) ≡ waiting_hosts queue ++ h ∷ []
waiting_push queue h cs = map_push (λ w. w.0) queue (h, cs)

-- What completes what is left to the hosts completes the whole.
abbrev pub Completes : List Command → List Command → List Body → Type 0
Completes whole left front = (rest : List Body) → IsPairing left rest → IsPairing whole (front ++ rest)

-- the first host does its next job, and waits again
pub midway_next : (all : List (List Command)) (h : ℕ) (cs left : List Command) (queue : Queue) (jobs : List Job) (body : Body)
    → IsMidway all ((h, cs) ∷ queue) jobs → ((rest : List Body) → IsPairing left rest → IsPairing cs (body ∷ rest))
    → IsMidway all (queue ++ (h, left) ∷ []) (jobs ++ job h body ∷ [])
midway_next all h cs left queue jobs body m made =
    record {
      left = λ place commands is.
          let before : Completes commands (left_of (place + 1) ((h, cs) ∷ queue)) (bodies_of (place + 1) jobs) = m.left place commands is in
          elim (cases_eq h (place + 1)) [
            | inl e ↦
                subst (λ i. Completes commands (left_of i ((h, cs) ∷ queue)) (bodies_of i jobs)
                → Completes commands (left_of i (queue ++ (h, left) ∷ [])) (bodies_of i (jobs ++ job h body ∷ []))) e (here commands) before
            | inr other ↦ elsewhere (place + 1) other commands before
          ];
      known = All-push (λ j. IsKnown (length all) j.host) jobs (job h body) m.known m.waiting_known.0;
      waiting_known = all_append (λ w. IsKnown (length all) w.0) queue (h, left) m.waiting_known.1 m.waiting_known.0;
      turns = rw (hosts_push jobs h body, waiting_push queue h left) (waiting_next (hosts_of jobs) h (waiting_hosts queue) m.turns);
    }
  where
    here : (commands : List Command) → Completes commands (left_of h ((h, cs) ∷ queue)) (bodies_of h jobs)
        → Completes commands (left_of h (queue ++ (h, left) ∷ [])) (bodies_of h (jobs ++ job h body ∷ []))
    here commands before rest paired =
        let mine = rw (left_push_here (hosts_of jobs) h left queue m.turns.queue.0) at paired in
        rw (bodies_here h body jobs rest) (before (body ∷ rest) (rw (left_here h cs queue) (made rest mine)))

    elsewhere : (i : ℕ) → h ≢ i → (commands : List Command) → Completes commands (left_of i ((h, cs) ∷ queue)) (bodies_of i jobs)
        → Completes commands (left_of i (queue ++ (h, left) ∷ [])) (bodies_of i (jobs ++ job h body ∷ []))
    elsewhere i other commands before rest paired =
        let its = rw (left_push_elsewhere i h left queue other) at paired in
        rw (bodies_elsewhere i h body jobs other) (before rest (rw (left_elsewhere i h cs queue other) its))

-- the first host has no command left
pub midway_done : (all : List (List Command)) (h : ℕ) (cs : List Command) (queue : Queue) (jobs : List Job)
    → IsMidway all ((h, cs) ∷ queue) jobs → cs ≡ [] → IsMidway all queue jobs
midway_done all h cs queue jobs m none =
    record {
      left = λ place commands is.
          let before : Completes commands (left_of (place + 1) ((h, cs) ∷ queue)) (bodies_of (place + 1) jobs) = m.left place commands is in
          elim (cases_eq h (place + 1)) [
            | inl e ↦
                subst (λ i. Completes commands (left_of i ((h, cs) ∷ queue)) (bodies_of i jobs)
                → Completes commands (left_of i queue) (bodies_of i jobs)) e (here commands) before
            | inr other ↦ elsewhere (place + 1) other commands before
          ];
      known = m.known;
      waiting_known = m.waiting_known.1;
      turns = waiting_rest (hosts_of jobs) h (waiting_hosts queue) m.turns;
    }
  where
    here : (commands : List Command) → Completes commands (left_of h ((h, cs) ∷ queue)) (bodies_of h jobs)
        → Completes commands (left_of h queue) (bodies_of h jobs)
    here commands before rest paired =
        let nothing = rw (nothing_left (hosts_of jobs) h queue m.turns.queue.0) at paired in
        before rest (rw (left_here h cs queue, none) nothing)

    elsewhere : (i : ℕ) → h ≢ i → (commands : List Command) → Completes commands (left_of i ((h, cs) ∷ queue)) (bodies_of i jobs)
        → Completes commands (left_of i queue) (bodies_of i jobs)
    elsewhere i other commands before rest paired = before rest (rw (left_elsewhere i h cs queue other) paired)

-- no host waits
pub midway_last : (all : List (List Command)) (jobs : List Job) → IsMidway all [] jobs → IsJobList all jobs
midway_last all jobs m =
    record {
      each = λ place commands is. rw append-nil at (m.left place commands is [] pairing_none);
      known = m.known;
      order = order_of_turns jobs m.turns.turn;
    }

-- all hosts wait
pub midway_first : (all : List (List Command)) → IsMidway all (enumerate_from 1 all) []
midway_first all =
    record {
      left = λ place commands is rest paired.
          let same : place + 1 ≡ 1 + place = omega arith in
          let whole = ap (λ h. left_of h (enumerate_from 1 all)) same ∙ first_left 1 place all commands is in
          rw whole at paired;
      known = All-nil (λ j. IsKnown (length all) j.host);
      waiting_known = numbers_known 1 all (length all) (omega arith) (omega arith);
      turns = rw (numbers 1 all) (waiting_first 1 (length all));
    }
  where
    first_left : (a place : ℕ) (hosts : List (List Command)) (commands : List Command) → IsAt hosts place commands
        → left_of (a + place) (enumerate_from a hosts) ≡ commands
    first_left a place [] commands is = cc
    first_left a zero (cs ∷ hosts) commands is =
        let here : a + 0 ≡ a = omega arith in
        let its : cs ≡ commands = cc in
        ap (λ h. left_of h (enumerate_from a (cs ∷ hosts))) here ∙ left_here a cs (enumerate_from (a + 1) hosts) ∙ its
    first_left a (suc place) (cs ∷ hosts) commands is =
        let there : a + suc place ≡ a + 1 + place = omega arith in
        let other : a ≢ a + 1 + place = λ e. omega arith in
        ap (λ h. left_of h (enumerate_from a (cs ∷ hosts))) there
        ∙ left_elsewhere (a + 1 + place) a cs (enumerate_from (a + 1) hosts) other
        ∙ first_left (a + 1) place hosts commands is

    numbers : (a : ℕ) (hosts : List (List Command)) → waiting_hosts (enumerate_from a hosts) ≡ range_with_len a (length hosts)
    numbers a [] = refl
    numbers a (cs ∷ hosts) = ap (λ (xs : List ℕ). a ∷ xs) (numbers (a + 1) hosts)

    numbers_known : (a : ℕ) (hosts : List (List Command)) (n : ℕ) → 0 < a → a + length hosts ≤ n + 1
        → AllByRecursion (λ w. IsKnown n w.0) (enumerate_from a hosts)
    numbers_known a [] n low high = tt
    numbers_known a (cs ∷ hosts) n low high = ((low, omega arith), numbers_known (a + 1) hosts n (omega arith) (omega arith))
