-- What is counted of each list, added up over the seats.
use Rattle.std.proofs.Common.{◌≡◌, ℕ, zero, suc, ◌+◌, ◌<◌, ◌≤◌, List, [], ◌∷◌, ◌++◌, length, take, drop, set, refl, sym, ap, arith, All, AllPairs, sum_by, leb, cond, Bool, true, false}
use Rattle.std.proofs.lemmas.List.Sums.{sum_by-cons, sum_by-append, sum_by_push, sum_by-take-drop}
use Rattle.std.proofs.lemmas.List.Elements.{All-head, All-tail, All-weaker}
use Rattle.std.proofs.lemmas.Bool.{lt-leb}
use mathlib.Core.Option.{some-injective, some-ne-none}
use Rattle.nvm_record.specs.Lists.{IsAt}
use Rattle.nvm_engine.specs.Claims.{IsDrawn}
use Rattle.nvm_engine.specs.Inside.Rule.{total, past}
use Rattle.nvm_engine.proofs.Places.{pairs_tail}

module _ {A : Type 0} (f : A → ℕ) where
  -- One element gives way to another.
  pub sum_set : (xs : List A) (i : ℕ) (x y : A) → IsAt xs i x → sum_by f (set xs i y) + f x ≡ sum_by f xs + f y
  sum_set [] i x y at = absurd (some-ne-none x (sym at))
  sum_set (z ∷ zs) zero x y at =
      let here : f z ≡ f x = ap f (some-injective z x at) in
      let new : sum_by f (y ∷ zs) ≡ f y + sum_by f zs = sum_by-cons f y zs in
      let old : sum_by f (z ∷ zs) ≡ f z + sum_by f zs = sum_by-cons f z zs in
      omega arith
  sum_set (z ∷ zs) (suc i) x y at =
      let rest : sum_by f (set zs i y) + f x ≡ sum_by f zs + f y = sum_set zs i x y at in
      let new : sum_by f (z ∷ set zs i y) ≡ f z + sum_by f (set zs i y) = sum_by-cons f z (set zs i y) in
      let old : sum_by f (z ∷ zs) ≡ f z + sum_by f zs = sum_by-cons f z zs in
      omega arith

  pub sum_one : (x : A) → sum_by f (x ∷ []) ≡ f x
  sum_one x = let cons : sum_by f (x ∷ []) ≡ f x + 0 = sum_by-cons f x [] in omega arith

  -- A sum of smaller terms isn't larger.
  pub sum_le : (g : A → ℕ) (xs : List A) → All (λ x. f x ≤ g x) xs → sum_by f xs ≤ sum_by g xs
  sum_le g [] all = omega arith
  sum_le g (x ∷ xs) all =
      let rest : sum_by f xs ≤ sum_by g xs = sum_le g xs (All-tail (λ y. f y ≤ g y) x xs all) in
      let here : f x ≤ g x = All-head (λ y. f y ≤ g y) x xs all in
      let mine : sum_by f (x ∷ xs) ≡ f x + sum_by f xs = sum_by-cons f x xs in
      let other : sum_by g (x ∷ xs) ≡ g x + sum_by g xs = sum_by-cons g x xs in
      omega arith

pub ones : {A : Type 0} (xs : List A) → sum_by (λ x. 1) xs ≡ length xs
ones [] = refl
ones {A} (x ∷ xs) =
    let rest : sum_by (λ (y : A). 1) xs ≡ length xs = ones xs in
    let cons : sum_by (λ (y : A). 1) (x ∷ xs) ≡ 1 + sum_by (λ (y : A). 1) xs = sum_by-cons (λ (y : A). 1) x xs in
    omega arith

module _ (h : List ℕ → ℕ) where
  -- One seat's one list becomes another.
  pub total_draw : (groups : List (List (List ℕ))) (id : ℕ) (old new : List ℕ) → IsAt groups id (old ∷ [])
      → total h (set groups id (new ∷ [])) + h old ≡ total h groups + h new
  total_draw groups id old new at =
      let s : total h (set groups id (new ∷ [])) + sum_by h (old ∷ []) ≡ total h groups + sum_by h (new ∷ []) =
      sum_set (sum_by h) groups id (old ∷ []) (new ∷ []) at in
      let a : sum_by h (old ∷ []) ≡ h old = sum_one h old in
      let b : sum_by h (new ∷ []) ≡ h new = sum_one h new in
      omega arith

  -- One seat's lists are divided.
  pub total_split : (groups : List (List (List ℕ))) (id : ℕ) (lists : List (List ℕ)) → IsAt groups id lists
      → total h (set groups id (take 1 lists) ++ drop 1 lists ∷ []) ≡ total h groups
  total_split groups id lists at =
      let s : total h (set groups id (take 1 lists)) + sum_by h lists ≡ total h groups + sum_by h (take 1 lists) =
      sum_set (sum_by h) groups id lists (take 1 lists) at in
      let p : total h (set groups id (take 1 lists) ++ drop 1 lists ∷ []) ≡ total h (set groups id (take 1 lists)) + sum_by h (drop 1 lists) =
      sum_by_push (sum_by h) (set groups id (take 1 lists)) (drop 1 lists) in
      let d : sum_by h (take 1 lists) + sum_by h (drop 1 lists) ≡ sum_by h lists = sum_by-take-drop h lists 1 in
      omega arith

  -- One seat's lists come to another.
  pub total_join : (groups : List (List (List ℕ))) (id other : ℕ) (lists others : List (List ℕ)) → IsAt groups id lists
      → IsAt (set groups id (lists ++ others)) other others
      → total h (set (set groups id (lists ++ others)) other []) ≡ total h groups
  total_join groups id other lists others at other_at =
      let s : total h (set groups id (lists ++ others)) + sum_by h lists ≡ total h groups + sum_by h (lists ++ others) =
      sum_set (sum_by h) groups id lists (lists ++ others) at in
      let t : total h (set (set groups id (lists ++ others)) other []) + sum_by h others ≡ total h (set groups id (lists ++ others)) + 0 =
      sum_set (sum_by h) (set groups id (lists ++ others)) other others [] other_at in
      let a : sum_by h (lists ++ others) ≡ sum_by h lists + sum_by h others = sum_by-append h lists others in
      omega arith

  -- Where there are no lists, there is nothing to count.
  total_of_none : (groups : List (List (List ℕ))) → total (λ d. 1) groups ≡ 0 → total h groups ≡ 0
  total_of_none [] none = refl
  total_of_none ([] ∷ groups) none =
      let cons : total (λ d. 1) ([] ∷ groups) ≡ 0 + total (λ d. 1) groups = sum_by-cons (sum_by (λ (d : List ℕ). 1)) [] groups in
      let mine : total h ([] ∷ groups) ≡ 0 + total h groups = sum_by-cons (sum_by h) [] groups in
      let rest : total h groups ≡ 0 = total_of_none groups (omega arith) in
      omega arith
  total_of_none ((d ∷ ds) ∷ groups) none =
      let cons : total (λ d. 1) ((d ∷ ds) ∷ groups) ≡ sum_by (λ (d : List ℕ). 1) (d ∷ ds) + total (λ d. 1) groups =
      sum_by-cons (sum_by (λ (d : List ℕ). 1)) (d ∷ ds) groups in
      let one : sum_by (λ (d : List ℕ). 1) (d ∷ ds) ≡ length (d ∷ ds) = ones (d ∷ ds) in
      absurd (omega arith)

  -- Where one seat has all lists, what is counted is what is counted there.
  pub total_of_all : (groups : List (List (List ℕ))) (id : ℕ) (lists : List (List ℕ)) → IsAt groups id lists
      → total (λ d. 1) groups ≡ length lists → total h groups ≡ sum_by h lists
  total_of_all groups id lists at all =
      let one : sum_by (λ (d : List ℕ). 1) lists ≡ length lists = ones lists in
      let n : total (λ d. 1) (set groups id []) + sum_by (λ (d : List ℕ). 1) lists ≡ total (λ d. 1) groups + 0 =
      sum_set (sum_by (λ (d : List ℕ). 1)) groups id lists [] at in
      let rest : total h (set groups id []) ≡ 0 = total_of_none (set groups id []) (omega arith) in
      let s : total h (set groups id []) + sum_by h lists ≡ total h groups + 0 = sum_set (sum_by h) groups id lists [] at in
      omega arith

at_most_one : (c : Bool) → cond {A = ℕ} c 1 0 ≤ 1
at_most_one true = omega arith
at_most_one false = omega arith

-- Only the last number is past the jobs.
past_once : (jobs : ℕ) (drawn : List ℕ) → AllPairs (λ x y. x < jobs) drawn → past jobs drawn ≤ 1
past_once jobs [] pairs = omega arith
past_once jobs (x ∷ []) pairs =
    let one : past jobs (x ∷ []) ≡ cond {A = ℕ} (leb jobs x) 1 0 = sum_one (λ y. cond {A = ℕ} (leb jobs y) 1 0) x in
    let c : cond {A = ℕ} (leb jobs x) 1 0 ≤ 1 = at_most_one (leb jobs x) in
    omega arith
past_once jobs (x ∷ y ∷ ys) pairs =
    let rest : past jobs (y ∷ ys) ≤ 1 = past_once jobs (y ∷ ys) (pairs_tail (λ a b. a < jobs) x (y ∷ ys) pairs) in
    let here : x < jobs = pairs 0 1 x (omega arith) (omega arith) in
    let none : cond {A = ℕ} (leb jobs x) 1 0 ≡ 0 = ap (λ (c : Bool). cond {A = ℕ} c 1 0) (lt-leb jobs x here) in
    let cons : past jobs (x ∷ y ∷ ys) ≡ cond {A = ℕ} (leb jobs x) 1 0 + past jobs (y ∷ ys) = sum_by-cons (λ z. cond {A = ℕ} (leb jobs z) 1 0) x (y ∷ ys) in
    omega arith

-- So there are at most as many of these as lists.
pub past_few : (jobs word : ℕ) (groups : List (List (List ℕ))) → All (All (IsDrawn jobs word)) groups
    → total (past jobs) groups ≤ total (λ d. 1) groups
past_few jobs word groups each =
    sum_le (sum_by (past jobs)) (sum_by (λ d. 1)) groups
    (All-weaker (All (IsDrawn jobs word)) (λ g. sum_by (past jobs) g ≤ sum_by (λ d. 1) g)
    (λ g all. sum_le (past jobs) (λ d. 1) g (All-weaker (IsDrawn jobs word) (λ d. past jobs d ≤ 1) (λ d is. past_once jobs d is.jobs_first) g all))
    groups each)
