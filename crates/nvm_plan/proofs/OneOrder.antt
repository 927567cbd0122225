-- The hosts' commands have one job list.
use Rattle.std.proofs.Common.{◌≡◌, ◌≢◌, inl, inr, ℕ, zero, suc, ◌+◌, ◌<◌, ◌≤◌, List, [], ◌∷◌, ◌++◌, length, get_or, refl, sym, ◌∙◌, subst, arith, append_assoc}
use Rattle.std.specs.Prelude.{◌==◌}
use Rattle.std.specs.List.{All}
use Rattle.std.proofs.lemmas.Bool.{cases_lt, cases_eq, eq-eqb, ne_eqb}
use Rattle.std.proofs.lemmas.List.Elements.{All-head, All-tail}
use Rattle.std.proofs.lemmas.List.Sums.{length-filter}
use Rattle.nvm_record.specs.declared.command.Command.{Command}
use Rattle.nvm_plan.specs.declared.job.Job.{Job}
use Rattle.nvm_plan.specs.Jobs.{bodies_of, IsJobList, StandsBefore}
use Rattle.nvm_plan.proofs.OnePairing.{one_pairing_alone}
use Rattle.nvm_plan.proofs.Standing.{at_read}
use Rattle.nvm_plan.proofs.TurnOrder.{times, times_other, before_not_after, IsInTurn, in_turn_pair}
use Rattle.nvm_plan.proofs.PlacesInTurn.{hosts_of, turns_of_order, length_of_bodies}

times_cons_other : (h x : ℕ) (hs : List ℕ) → x ≢ h → times h (x ∷ hs) ≡ times h hs
times_cons_other h x hs other =
    sym (length-filter (λ y. y == h) (x ∷ hs)) ∙ rw (ne_eqb x h other) (length-filter (λ y. y == h) hs)

-- a host that comes again later, as its next job, comes after x
later_job : (front : List ℕ) (x h : ℕ) (between after : List ℕ) → IsInTurn (front ++ x ∷ (between ++ after)) → times h (front ++ x ∷ between) ≡ times h front
    → 0 < times h after → StandsBefore (times x front) x (times h front) h
later_job front x h between [] turn none again = absurd (omega (arith, again))
later_job front x h between (y ∷ ys) turn none again =
    elim (cases_eq y h) [
      | inl e ↦
          let stands = in_turn_pair front x between y ys turn in
          let its : StandsBefore (times x front) x (times h (front ++ x ∷ between)) h = subst (λ z. StandsBefore (times x front) x (times z (front ++ x ∷ between)) z) e stands in
          rw none at its
      | inr other ↦
          let regroup : between ++ y ∷ ys ≡ (between ++ y ∷ []) ++ ys = sym (append_assoc between (y ∷ []) ys) in
          let near : front ++ x ∷ (between ++ y ∷ []) ≡ (front ++ x ∷ between) ++ y ∷ [] = sym (append_assoc front (x ∷ between) (y ∷ [])) in
          later_job front x h (between ++ y ∷ []) ys (rw regroup at turn)
          (rw near (times_other h y (front ++ x ∷ between) other ∙ none))
          (rw (times_cons_other h y ys other) at again)
    ]

pub bodies_this : (h : ℕ) (x : Job) (xs : List Job) → x.host ≡ h → bodies_of h (x ∷ xs) ≡ x.body ∷ bodies_of h xs
bodies_this h x xs e = rw (eq-eqb x.host h e) refl

pub bodies_other : (h : ℕ) (x : Job) (xs : List Job) → x.host ≢ h → bodies_of h (x ∷ xs) ≡ bodies_of h xs
bodies_other h x xs other = rw (ne_eqb x.host h other) refl

same_job : (x y : Job) → x.host ≡ y.host → x.body ≡ y.body → x ≡ y
same_job x y p q = λ i. record { host = p i; body = q i }

-- a host's bodies after the first jobs of two lists, which are of one host
same_tail : (h : ℕ) (x y : Job) (xs ys : List Job) → x.host ≡ y.host → bodies_of h (x ∷ xs) ≡ bodies_of h (y ∷ ys)
    → bodies_of h xs ≡ bodies_of h ys
same_tail h x y xs ys same e =
    elim (cases_eq x.host h) [
      | inl mine ↦ cc (bodies_this h x xs mine, bodies_this h y ys (sym same ∙ mine))
      | inr other ↦ sym (bodies_other h x xs other) ∙ e ∙ bodies_other h y ys (λ its. other (same ∙ its))
    ]

-- Where lists that have the same bodies begin with jobs of two hosts, the one's host comes again later in the other.
comes_later : (front : List ℕ) (x y : Job) (xs ys : List Job) → IsInTurn (front ++ hosts_of (x ∷ xs)) → bodies_of y.host (x ∷ xs) ≡ bodies_of y.host (y ∷ ys)
    → x.host ≢ y.host → StandsBefore (times x.host front) x.host (times y.host front) y.host
comes_later front x y xs ys turn e other =
    let again : bodies_of y.host xs ≡ y.body ∷ bodies_of y.host ys = sym (bodies_other y.host x xs other) ∙ e ∙ bodies_this y.host y ys refl in
    let some : 0 < length (bodies_of y.host xs) = rw again (omega arith) in
    later_job front x.host y.host [] (hosts_of xs) turn (times_other y.host x.host front other) (omega (arith, some, length_of_bodies y.host xs))

-- two lists that go on from the same front
same_rest : (front : List ℕ) (xs ys : List Job) → IsInTurn (front ++ hosts_of xs) → IsInTurn (front ++ hosts_of ys)
    → ((h : ℕ) → bodies_of h xs ≡ bodies_of h ys) → xs ≡ ys
same_rest front [] [] a b e = refl
same_rest front [] (y ∷ ys) a b e = cc (e y.host, bodies_this y.host y ys refl)
same_rest front (x ∷ xs) [] a b e = cc (e x.host, bodies_this x.host x xs refl)
same_rest front (x ∷ xs) (y ∷ ys) a b e =
    elim (cases_eq x.host y.host) [
      | inl same ↦
          let heads : x.body ≡ y.body = cc (e x.host, bodies_this x.host x xs refl, bodies_this x.host y ys (sym same)) in
          let first : x ≡ y = same_job x y same heads in
          let shift : (js : List Job) → front ++ x.host ∷ hosts_of js ≡ (front ++ x.host ∷ []) ++ hosts_of js = λ js. sym (append_assoc front (x.host ∷ []) (hosts_of js)) in
          let turn_x = rw (shift xs) at a in
          let turn_y = rw (shift ys) at (rw (← same) at b) in
          let rest = same_rest (front ++ x.host ∷ []) xs ys turn_x turn_y (λ h. same_tail h x y xs ys same (e h)) in
          cc
      | inr other ↦
          let x_first = comes_later front x y xs ys a (e y.host) other in
          let y_first = comes_later front y x ys xs b (sym (e x.host)) (λ same. other (sym same)) in
          absurd (before_not_after (times x.host front) x.host (times y.host front) y.host x_first y_first)
    ]

-- no job is of a host that there isn't
none_beyond : (hosts : ℕ) (jobs : List Job) (h : ℕ) → All (λ j. (0 < j.host) × (j.host ≤ hosts)) jobs → ((0 < h) × (h ≤ hosts) → ⊥) → bodies_of h jobs ≡ []
none_beyond hosts [] h known beyond = refl
none_beyond hosts (j ∷ js) h known beyond =
    let first = All-head (λ j. (0 < j.host) × (j.host ≤ hosts)) j js known in
    bodies_other h j js (λ e. beyond (rw e at first)) ∙ none_beyond hosts js h (All-tail (λ j. (0 < j.host) × (j.host ≤ hosts)) j js known) beyond

same_bodies : (hosts : List (List Command)) (xs ys : List Job) → IsJobList hosts xs → IsJobList hosts ys → (h : ℕ) → bodies_of h xs ≡ bodies_of h ys
same_bodies hosts xs ys a b zero =
    none_beyond (length hosts) xs 0 a.known (λ k. omega arith) ∙ sym (none_beyond (length hosts) ys 0 b.known (λ k. omega arith))
same_bodies hosts xs ys a b (suc place) =
    elim (cases_lt place (length hosts)) [
      | inl inside ↦
          let is = at_read hosts place [] inside in
          let next : place + 1 ≡ suc place = omega arith in
          rw next at (one_pairing_alone (get_or hosts place []) (bodies_of (place + 1) xs) (bodies_of (place + 1) ys) (a.each place (get_or hosts place []) is) (b.each place (get_or hosts place []) is))
      | inr above ↦
          none_beyond (length hosts) xs (suc place) a.known (λ k. omega (arith, k.1, above))
          ∙ sym (none_beyond (length hosts) ys (suc place) b.known (λ k. omega (arith, k.1, above)))
    ]

pub one_job_list_alone : (hosts : List (List Command)) (xs ys : List Job) → IsJobList hosts xs → IsJobList hosts ys → xs ≡ ys
one_job_list_alone hosts xs ys a b =
    same_rest [] xs ys (turns_of_order xs a.order) (turns_of_order ys b.order) (same_bodies hosts xs ys a b)
