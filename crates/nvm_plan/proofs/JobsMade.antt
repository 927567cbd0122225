-- The hosts' commands have a pairing each, and a job list.
use Rattle.std.proofs.Common.{◌≡◌, ◌≢◌, ◌⊎◌, inl, inr, ℕ, zero, suc, ◌+◌, ◌*◌, ◌<◌, ◌≤◌, List, [], ◌∷◌, ◌++◌, length, refl, arith}
use Rattle.std.specs.List.{All, sum_by, enumerate_from}
use Rattle.std.proofs.lemmas.Bool.{cases_Bool}
use Rattle.std.proofs.lemmas.List.{length_push}
use Rattle.std.proofs.lemmas.List.Sums.{sum_by-cons, sum_by_push, sum_by-le}
use Rattle.nvm_record.specs.declared.op.Fuse.{Fuse}
use Rattle.nvm_record.specs.declared.op.Fuse.TheVariants.{Normal, First, Second, Reserved}
use Rattle.nvm_record.specs.declared.command.Command.{Command}
use Rattle.nvm_plan.specs.declared.job.Body.{Body}
use Rattle.nvm_plan.specs.declared.job.Body.TheVariants.{Single, Pair}
use Rattle.nvm_plan.specs.declared.job.Job.{Job}
use Rattle.nvm_plan.specs.Profile.{is_in_profile, IsFusedPair}
use Rattle.nvm_plan.specs.Jobs.{IsPairing, IsJobList}
use Rattle.nvm_plan.proofs.OnePairing.{pairing_none, pairing_pair, pairing_last, pairing_single}
use Rattle.nvm_plan.proofs.WaitingHosts.{Queue}
use Rattle.nvm_plan.proofs.OneOrder.{one_job_list_alone}
use Rattle.nvm_plan.proofs.Midway.{job, IsMidway, midway_first, midway_next, midway_done, midway_last}

is_first : (f : Fuse) → (f ≡ First) ⊎ (f ≢ First)
is_first Normal = inr (λ e. cc)
is_first First = inl refl
is_first Second = inr (λ e. cc)
is_first Reserved = inr (λ e. cc)

is_second : (f : Fuse) → (f ≡ Second) ⊎ (f ≢ Second)
is_second Normal = inr (λ e. cc)
is_second First = inr (λ e. cc)
is_second Second = inl refl
is_second Reserved = inr (λ e. cc)

-- two commands are a fused pair or they aren't
fused_or_not : (c d : Command) → IsFusedPair c d ⊎ (¬ (IsFusedPair c d))
fused_or_not c d =
    elim (is_first c.fuse) [
      | inr no_first ↦ inr (λ p. no_first p.first)
      | inl first ↦ elim (is_second d.fuse) [
        | inr no_second ↦ inr (λ p. no_second p.second)
        | inl second ↦ elim (cases_Bool (is_in_profile c.op)) [
          | inr not_c ↦ inr (λ p. cc (p.first_op, not_c))
          | inl c_op ↦ elim (cases_Bool (is_in_profile d.op)) [
            | inr not_d ↦ inr (λ p. cc (p.second_op, not_d))
            | inl d_op ↦ inl (record { first = first; second = second; first_op = c_op; second_op = d_op })
          ]
        ]
      ]
    ]

-- a front of the commands that makes a job with the jobs of the rest
pub record HasFront (commands : List Command) : Type 0 where
  pub body : Body
  pub left : List Command
  pub shorter : length left < length commands
  pub makes : (rest : List Body) → IsPairing left rest → IsPairing commands (body ∷ rest)

front_of : (c : Command) (cs : List Command) → HasFront (c ∷ cs)
front_of c [] = record { body = Single c; left = []; shorter = omega arith; makes = pairing_last c }
front_of c (d ∷ cs) =
    elim (fused_or_not c d) [
      | inl pair ↦ record { body = Pair c d; left = cs; shorter = omega arith; makes = λ rest h. pairing_pair c d cs rest pair h }
      | inr no_pair ↦ record { body = Single c; left = d ∷ cs; shorter = omega arith; makes = λ rest h. pairing_single c d cs rest no_pair h }
    ]

pairing_within : (most : ℕ) (commands : List Command) → length commands ≤ most → (bodies : List Body) × IsPairing commands bodies
pairing_within most [] few = ([], pairing_none)
pairing_within zero (c ∷ cs) few = absurd (omega arith)
pairing_within (suc most) (c ∷ cs) few =
    let front = front_of c cs in
    let rest = pairing_within most front.left (omega (arith, front.shorter)) in
    (front.body ∷ rest.0, front.makes rest.0 rest.1)

pub some_pairing : (commands : List Command) → (bodies : List Body) × IsPairing commands bodies
some_pairing commands = pairing_within (length commands) commands (omega arith)

-- how much waits: each host with each of its commands, and the commands alone
abbrev pub waiting_size : Queue → ℕ
waiting_size queue = sum_by (λ (w : ℕ × List Command). length w.1 + 1) queue

abbrev pub waiting_commands : Queue → ℕ
waiting_commands queue = sum_by (λ (w : ℕ × List Command). length w.1) queue

-- a job list that goes on from these jobs, with no more jobs than commands that wait
pub record HasJobList (all : List (List Command)) (most : ℕ) : Type 0 where
  pub jobs : List Job
  pub are : IsJobList all jobs
  pub few : length jobs ≤ most

more_room : (all : List (List Command)) (n m : ℕ) → n ≤ m → HasJobList all n → HasJobList all m
more_room all n m h made = record { jobs = made.jobs; are = made.are; few = omega (arith, h, made.few) }

-- made from midway on, with a bound on what waits
job_list_within : (most : ℕ) (all : List (List Command)) (queue : Queue) (jobs : List Job) → waiting_size queue ≤ most
    → IsMidway all queue jobs → HasJobList all (length jobs + waiting_commands queue)
job_list_within most all [] jobs few m = record { jobs = jobs; are = midway_last all jobs m; few = omega arith }
job_list_within zero all (w ∷ ws) jobs few m = absurd (omega (arith, few, sum_by-cons (λ (v : ℕ × List Command). length v.1 + 1) w ws))
job_list_within (suc most) all ((h, []) ∷ ws) jobs few m =
    let smaller = sum_by-cons (λ (v : ℕ × List Command). length v.1 + 1) (h, []) ws in
    let same = sum_by-cons (λ (v : ℕ × List Command). length v.1) (h, []) ws in
    more_room all (length jobs + waiting_commands ws) (length jobs + waiting_commands ((h, []) ∷ ws)) (omega (arith, same))
    (job_list_within most all ws jobs (omega (arith, few, smaller)) (midway_done all h [] ws jobs m refl))
job_list_within (suc most) all ((h, c ∷ cs) ∷ ws) jobs few m =
    let front = front_of c cs in
    let more = jobs ++ job h front.body ∷ [] in
    let queue = ws ++ (h, front.left) ∷ [] in
    let size = λ (v : ℕ × List Command). length v.1 + 1 in
    let left = λ (v : ℕ × List Command). length v.1 in
    let smaller : waiting_size queue ≤ most = omega (arith, few, front.shorter, sum_by-cons size (h, c ∷ cs) ws, sum_by_push size ws (h, front.left)) in
    let room : length more + waiting_commands queue ≤ length jobs + waiting_commands ((h, c ∷ cs) ∷ ws) =
    omega (arith, length_push jobs (job h front.body), front.shorter, sum_by-cons left (h, c ∷ cs) ws, sum_by_push left ws (h, front.left)) in
    more_room all (length more + waiting_commands queue) (length jobs + waiting_commands ((h, c ∷ cs) ∷ ws)) room
    (job_list_within most all queue more smaller (midway_next all h (c ∷ cs) front.left ws jobs front.body m front.makes))

all_commands : (a : ℕ) (hosts : List (List Command)) → waiting_commands (enumerate_from a hosts) ≡ sum_by length hosts
all_commands a [] = refl
all_commands a (cs ∷ hosts) =
    omega (arith, sum_by-cons (λ (v : ℕ × List Command). length v.1) (a, cs) (enumerate_from (a + 1) hosts), sum_by-cons length cs hosts, all_commands (a + 1) hosts)

made_list : (hosts : List (List Command)) → HasJobList hosts (waiting_commands (enumerate_from 1 hosts))
made_list hosts =
    more_room hosts (0 + waiting_commands (enumerate_from 1 hosts)) (waiting_commands (enumerate_from 1 hosts)) (omega arith)
    (job_list_within (waiting_size (enumerate_from 1 hosts)) hosts (enumerate_from 1 hosts) [] (omega arith) (midway_first hosts))

pub some_job_list : (hosts : List (List Command)) → (jobs : List Job) × IsJobList hosts jobs
some_job_list hosts = ((made_list hosts).jobs, (made_list hosts).are)

-- the job list, which is the one that was made, has no more jobs than there are commands
pub no_more_jobs : (hosts : List (List Command)) (jobs : List Job) → IsJobList hosts jobs → length jobs ≤ sum_by length hosts
no_more_jobs hosts jobs list =
    let made = made_list hosts in
    let same : jobs ≡ made.jobs = one_job_list_alone hosts jobs made.jobs list made.are in
    rw same (omega (arith, made.few, all_commands 1 hosts))

pub few_jobs : (hosts : List (List Command)) (jobs : List Job) (most : ℕ) → All (λ commands. length commands ≤ most) hosts → IsJobList hosts jobs
    → length jobs ≤ length hosts * most
few_jobs hosts jobs most few list = omega (arith, no_more_jobs hosts jobs list, sum_by-le length most hosts few)
