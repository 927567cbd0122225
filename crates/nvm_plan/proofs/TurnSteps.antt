-- Hosts that wait for their turn: the jobs so far are in turn, and each waiting host's next job comes
-- after them, in the order in which the hosts wait.
use Rattle.std.proofs.Common.{◌≡◌, ◌≢◌, inl, inr, ℕ, zero, suc, ◌+◌, ◌<◌, List, [], ◌∷◌, ◌++◌, refl, arith}
use Rattle.std.specs.List.{AllByRecursion, range_with_len}
use Rattle.nvm_plan.specs.Jobs.{StandsBefore}
use Rattle.nvm_plan.proofs.TurnOrder.{times, times_same, times_other, before_trans, before_next, before_not_after, IsInTurn, AllBefore, in_turn_push, all_before_push, all_before_weaker}

-- Job k of host h comes before the next job of each of these.
abbrev pub BeforeEach : List ℕ → ℕ → ℕ → List ℕ → Type 0
BeforeEach done k h ws = AllByRecursion (λ w. StandsBefore k h (times w done) w) ws

-- The next job of each of these comes before job k of host h.
abbrev pub EachBefore : List ℕ → ℕ → ℕ → List ℕ → Type 0
EachBefore done k h ws = AllByRecursion (λ w. StandsBefore (times w done) w k h) ws

-- the jobs so far come before the next job of each
abbrev pub AllBeforeEach : List ℕ → List ℕ → Type 0
AllBeforeEach done ws = AllByRecursion (λ w. AllBefore done (times w done) w) ws

-- the next jobs come in the order of the queue
abbrev pub IsQueue : List ℕ → List ℕ → Type 0
IsQueue done [] = Unit {0}
IsQueue done (w ∷ ws) = BeforeEach done (times w done) w ws × IsQueue done ws

-- and before the first host's job after its next one
abbrev pub IsOneRound : List ℕ → List ℕ → Type 0
IsOneRound done [] = Unit {0}
IsOneRound done (w ∷ ws) = EachBefore done (times w done + 1) w ws

pub record AreWaiting (done waiting : List ℕ) : Type 0 where
  pub turn : IsInTurn done
  pub later : AllBeforeEach done waiting
  pub queue : IsQueue done waiting
  pub one_round : IsOneRound done waiting

pub all_append : {X : Type 0} (P : X → Type 0) (xs : List X) (y : X) → AllByRecursion P xs → P y → AllByRecursion P (xs ++ y ∷ [])
all_append P [] y h p = (p, tt)
all_append P (x ∷ xs) y h p = (h.0, all_append P xs y h.1 p)

-- hosts one of which waits before the other are two
pub two_hosts : (done : List ℕ) (w v : ℕ) → StandsBefore (times w done) w (times v done) v → w ≢ v
two_hosts done w v h e =
    let k : StandsBefore (times v done) v (times v done) v = rw e at h in
    before_not_after (times v done) v (times v done) v k k

-- so its next job stays the same where the other has done its own
same_next : (done : List ℕ) (w v : ℕ) → StandsBefore (times w done) w (times v done) v → times v (done ++ w ∷ []) ≡ times v done
same_next done w v h = times_other v w done (two_hosts done w v h)

step_later : (done : List ℕ) (w : ℕ) (ws : List ℕ) → BeforeEach done (times w done) w ws → AllBeforeEach done ws
    → AllBeforeEach (done ++ w ∷ []) ws
step_later done w [] b h = tt
step_later done w (v ∷ vs) b h =
    (rw (same_next done w v b.0) (all_before_push done w (times v done) v h.0 b.0), step_later done w vs b.1 h.1)

step_before_each : (done : List ℕ) (w k h : ℕ) (ws : List ℕ) → BeforeEach done (times w done) w ws → BeforeEach done k h ws
    → BeforeEach (done ++ w ∷ []) k h ws
step_before_each done w k h [] b e = tt
step_before_each done w k h (v ∷ vs) b e = (rw (same_next done w v b.0) e.0, step_before_each done w k h vs b.1 e.1)

step_each_before : (done : List ℕ) (w k h : ℕ) (ws : List ℕ) → BeforeEach done (times w done) w ws → EachBefore done k h ws
    → EachBefore (done ++ w ∷ []) k h ws
step_each_before done w k h [] b e = tt
step_each_before done w k h (v ∷ vs) b e = (rw (same_next done w v b.0) e.0, step_each_before done w k h vs b.1 e.1)

step_queue : (done : List ℕ) (w : ℕ) (ws : List ℕ) → BeforeEach done (times w done) w ws → IsQueue done ws
    → IsQueue (done ++ w ∷ []) ws
step_queue done w [] b q = tt
step_queue done w (v ∷ vs) b q =
    (rw (same_next done w v b.0) (step_before_each done w (times v done) v vs b.1 q.0), step_queue done w vs b.1 q.1)

queue_push : (done : List ℕ) (ws : List ℕ) (w : ℕ) → IsQueue done ws → EachBefore done (times w done) w ws → IsQueue done (ws ++ w ∷ [])
queue_push done [] w q e = (tt, tt)
queue_push done (v ∷ vs) w q e =
    (all_append (λ x. StandsBefore (times v done) v (times x done) x) vs w q.0 e.0, queue_push done vs w q.1 e.1)

each_before_weaker : (done : List ℕ) (k h l i : ℕ) (ws : List ℕ) → StandsBefore k h l i → EachBefore done k h ws → EachBefore done l i ws
each_before_weaker done k h l i [] s e = tt
each_before_weaker done k h l i (v ∷ vs) s e = (before_trans (times v done) v k h l i e.0 s, each_before_weaker done k h l i vs s e.1)

-- the first host leaves the queue
pub waiting_rest : (done : List ℕ) (w : ℕ) (ws : List ℕ) → AreWaiting done (w ∷ ws) → AreWaiting done ws
waiting_rest done w [] a = record { turn = a.turn; later = tt; queue = tt; one_round = tt }
waiting_rest done w (v ∷ vs) a =
    record {
      turn = a.turn;
      later = a.later.1;
      queue = a.queue.1;
      one_round = each_before_weaker done (times w done + 1) w (times v done + 1) v vs (before_next (times w done) w (times v done) v a.queue.0.0) a.one_round.1;
    }

-- the first host does its next job, and waits again
pub waiting_next : (done : List ℕ) (w : ℕ) (ws : List ℕ) → AreWaiting done (w ∷ ws) → AreWaiting (done ++ w ∷ []) (ws ++ w ∷ [])
waiting_next done w ws a =
    let all = done ++ w ∷ [] in
    let once_more = times_same w done in
    let next : StandsBefore (times w done) w (times w done + 1) w = inl (omega arith) in
    let others = step_each_before done w (times w done + 1) w ws a.queue.0 a.one_round in
    record {
      turn = in_turn_push done w a.turn a.later.0;
      later =
          all_append (λ v. AllBefore all (times v all) v) ws w (step_later done w ws a.queue.0 a.later.1)
          (rw once_more (all_before_push done w (times w done + 1) w (all_before_weaker done (times w done) w (times w done + 1) w a.later.0 next) next));
      queue = queue_push all ws w (step_queue done w ws a.queue.0 a.queue.1) (rw once_more others);
      one_round = next_round done w ws a;
    }
  where
    next_round : (done : List ℕ) (w : ℕ) (ws : List ℕ) → AreWaiting done (w ∷ ws) → IsOneRound (done ++ w ∷ []) (ws ++ w ∷ [])
    next_round done w [] a = tt
    next_round done w (v ∷ vs) a =
        let all = done ++ w ∷ [] in
        let shifted = before_next (times w done) w (times v done) v a.queue.0.0 in
        let rest = each_before_weaker done (times w done + 1) w (times v done + 1) v vs shifted a.one_round.1 in
        rw (same_next done w v a.queue.0.0)
        (all_append (λ x. StandsBefore (times x all) x (times v done + 1) v) vs w
        (step_each_before done w (times v done + 1) v vs a.queue.0.1 rest)
        (rw (times_same w done) shifted))

-- at first all hosts wait, in their order
pub waiting_first : (a n : ℕ) → AreWaiting [] (range_with_len a n)
waiting_first a n =
    record {
      turn = λ p q lower inside. absurd (omega (arith, inside));
      later = later a n;
      queue = queue a n;
      one_round = one_round a n;
    }
  where
    later : (a n : ℕ) → AllBeforeEach [] (range_with_len a n)
    later a zero = tt
    later a (suc n) = (λ p inside. absurd (omega (arith, inside)), later (a + 1) n)

    after : (a b n : ℕ) → a < b → BeforeEach [] 0 a (range_with_len b n)
    after a b zero lower = tt
    after a b (suc n) lower = (inr (refl, lower), after a (b + 1) n (omega arith))

    queue : (a n : ℕ) → IsQueue [] (range_with_len a n)
    queue a zero = tt
    queue a (suc n) = (after a (a + 1) n (omega arith), queue (a + 1) n)

    first_round : (a b n : ℕ) → EachBefore [] 1 a (range_with_len b n)
    first_round a b zero = tt
    first_round a b (suc n) = (inl (omega arith), first_round a (b + 1) n)

    one_round : (a n : ℕ) → IsOneRound [] (range_with_len a n)
    one_round a zero = tt
    one_round a (suc n) = first_round a (a + 1) n
