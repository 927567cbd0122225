-- What the seats share stays right at each step, whoever makes it.
use Rattle.std.proofs.Common.{◌≡◌, ◌≢◌, ℕ, zero, suc, ◌+◌, ◌<◌, ◌≤◌, List, [], ◌∷◌, ◌++◌, length, take, drop, set, replicate, refl, sym, ap, ◌∙◌, arith, All, sum_by, leb, eqb, eq-eqb, ne_eqb, cond, Bool}
use Rattle.std.proofs.lemmas.List.Sums.{sum_by-cons, sum_by_push}
use Rattle.std.proofs.lemmas.List.Elements.{All-nil, All-set, All-push, All-weaker, All-take, All-drop, All-append, All-cons, All-replicate}
use Rattle.std.proofs.lemmas.List.Quantifiers.{all_pairs_push}
use Rattle.std.proofs.lemmas.Bool.{le-leb}
use Rattle.std.proofs.lemmas.List.{length-replicate}
use mathlib.Core.Logic.{dite}
use native.Mathlib.Decide.{dec_le, ℕ_discrete}
use Rattle.nvm_record.specs.Lists.{IsAt}
use Rattle.nvm_engine.specs.declared.bounds.Bounds.{Bounds}
use Rattle.nvm_engine.specs.Claims.{ComeOnceBelow, IsDrawn, IsClaims, HasCome, times}
use Rattle.nvm_engine.specs.Inside.Rule.{IsShared, total, past, no_numbers}
use Rattle.nvm_engine.proofs.Coming.{come_draw, come_moved, come_opening, come_to_the_end}
use Rattle.nvm_engine.proofs.Places.{all_at}
use Rattle.nvm_engine.proofs.Totals.{ones, sum_one, total_draw, total_split, total_join, total_of_all, past_few}

-- One number more comes.
pub come_once_more : (word : ℕ) (f g : ℕ → ℕ) → ComeOnceBelow word f → ((x : ℕ) → g x ≡ f x + cond {A = ℕ} (eqb word x) 1 0) → ComeOnceBelow (word + 1) g
come_once_more word f g once more =
    record {
      below = λ x lt.
          let is_more : g x ≡ f x + cond {A = ℕ} (eqb word x) 1 0 = more x in
          dite (ℕ_discrete word x)
          (λ is.
          let c : cond {A = ℕ} (eqb word x) 1 0 ≡ 1 = ap (λ (b : Bool). cond {A = ℕ} b 1 0) (eq-eqb word x is) in
          let old : f x ≡ 0 = once.others x (omega arith) in
          omega arith)
          (λ not.
          let c : cond {A = ℕ} (eqb word x) 1 0 ≡ 0 = ap (λ (b : Bool). cond {A = ℕ} b 1 0) (ne_eqb word x not) in
          let old : f x ≡ 1 = once.below x (omega arith) in
          omega arith);
      others = λ x le.
          let is_more : g x ≡ f x + cond {A = ℕ} (eqb word x) 1 0 = more x in
          let not : word ≢ x = λ is. omega arith in
          let c : cond {A = ℕ} (eqb word x) 1 0 ≡ 0 = ap (λ (b : Bool). cond {A = ℕ} b 1 0) (ne_eqb word x not) in
          let old : f x ≡ 0 = once.others x (omega arith) in
          omega arith;
    }

same_counts : (word : ℕ) (f g : ℕ → ℕ) → ComeOnceBelow word f → ((x : ℕ) → g x ≡ f x) → ComeOnceBelow word g
same_counts word f g once same =
    record {
      below = λ x lt. same x ∙ once.below x lt;
      others = λ x le. same x ∙ once.others x le;
    }

pub drawn_later : (jobs word : ℕ) (drawn : List ℕ) → IsDrawn jobs word drawn → IsDrawn jobs (word + 1) drawn
drawn_later jobs word drawn is =
    record {
      below = All-weaker (λ x. x < word) (λ x. x < word + 1) (λ x lt. omega arith) drawn is.below;
      rises = is.rises;
      jobs_first = is.jobs_first;
    }

pub drawn_more : (jobs word : ℕ) (drawn : List ℕ) → IsDrawn jobs word drawn → All (λ x. x < jobs) drawn → IsDrawn jobs (word + 1) (drawn ++ word ∷ [])
drawn_more jobs word drawn is low =
    record {
      below = All-push (λ x. x < word + 1) drawn word (drawn_later jobs word drawn is).below (omega arith);
      rises = all_pairs_push (λ x y. x < y) drawn word is.rises is.below;
      jobs_first = all_pairs_push (λ x y. x < jobs) drawn word is.jobs_first low;
    }

-- What the worker of one seat has drawn.
pub drawn_at : (b : Bounds) (word : ℕ) (groups : List (List (List ℕ))) (id : ℕ) (drawn : List ℕ) → IsShared b word groups → IsAt groups id (drawn ∷ [])
    → IsDrawn b.jobs word drawn
drawn_at b word groups id drawn shared at =
    all_at (IsDrawn b.jobs word) (drawn ∷ []) 0 drawn (all_at (All (IsDrawn b.jobs word)) groups id (drawn ∷ []) shared.each at) refl

pub shared_draw : (b : Bounds) (word : ℕ) (groups : List (List (List ℕ))) (id : ℕ) (drawn : List ℕ) → IsShared b word groups → IsAt groups id (drawn ∷ [])
    → All (λ x. x < b.jobs) drawn → IsShared b (word + 1) (set groups id ((drawn ++ word ∷ []) ∷ []))
shared_draw b word groups id drawn shared at low =
    let new : List ℕ = drawn ++ word ∷ [] in
    let now : List (List (List ℕ)) = set groups id (new ∷ []) in
    let later : All (All (IsDrawn b.jobs (word + 1))) groups =
    All-weaker (All (IsDrawn b.jobs word)) (All (IsDrawn b.jobs (word + 1)))
    (λ g. All-weaker (IsDrawn b.jobs word) (IsDrawn b.jobs (word + 1)) (drawn_later b.jobs word) g) groups shared.each in
    let mine : All (IsDrawn b.jobs (word + 1)) (new ∷ []) =
    All-cons (IsDrawn b.jobs (word + 1)) new [] (drawn_more b.jobs word drawn (drawn_at b word groups id drawn shared at) low) (All-nil (IsDrawn b.jobs (word + 1))) in
    let ended : total (past b.jobs) now + past b.jobs drawn ≡ total (past b.jobs) groups + past b.jobs new = total_draw (past b.jobs) groups id drawn new at in
    let one_more : past b.jobs new ≡ past b.jobs drawn + cond {A = ℕ} (leb b.jobs word) 1 0 = sum_by_push (λ x. cond {A = ℕ} (leb b.jobs x) 1 0) drawn word in
    let few : word ≤ b.jobs + total (past b.jobs) groups = shared.few in
    record {
      once = come_once_more word (λ x. total (times x) groups) (λ x. total (times x) now) shared.once
          (λ x.
          let s : total (times x) now + times x drawn ≡ total (times x) groups + times x new = total_draw (times x) groups id drawn new at in
          let t : times x new ≡ times x drawn + cond {A = ℕ} (eqb word x) 1 0 = sum_by_push (λ y. cond {A = ℕ} (eqb y x) 1 0) drawn word in
          omega arith);
      each = All-set (All (IsDrawn b.jobs (word + 1))) groups id (new ∷ []) mine later;
      count = (let s : total (λ d. 1) now + 1 ≡ total (λ d. 1) groups + 1 = total_draw (λ d. 1) groups id drawn new at in
          let n : total (λ d. 1) groups ≡ b.workers = shared.count in
          omega arith);
      come = come_draw b word groups id drawn shared.come at low;
      few = dite (dec_le b.jobs word)
          (λ le. let c : cond {A = ℕ} (leb b.jobs word) 1 0 ≡ 1 = ap (λ (t : Bool). cond {A = ℕ} t 1 0) (le-leb b.jobs word le) in omega arith)
          (λ not. omega arith);
    }

pub shared_split : (b : Bounds) (word : ℕ) (groups : List (List (List ℕ))) (id : ℕ) (lists : List (List ℕ)) → IsShared b word groups → IsAt groups id lists
    → IsShared b word (set groups id (take 1 lists) ++ drop 1 lists ∷ [])
shared_split b word groups id lists shared at =
    let now : List (List (List ℕ)) = set groups id (take 1 lists) ++ drop 1 lists ∷ [] in
    let P : List ℕ → Type 0 = IsDrawn b.jobs word in
    let mine : All P lists = all_at (All P) groups id lists shared.each at in
    let same : (h : List ℕ → ℕ) → total h now ≡ total h groups = λ h. total_split h groups id lists at in
    record {
      once = same_counts word (λ x. total (times x) groups) (λ x. total (times x) now) shared.once (λ x. same (times x));
      each = All-push (All P) (set groups id (take 1 lists)) (drop 1 lists) (All-set (All P) groups id (take 1 lists) (All-take P 1 lists mine) shared.each) (All-drop P 1 lists mine);
      count = same (λ d. 1) ∙ shared.count;
      come = come_moved b word groups now shared.come same;
      few = (let s : total (past b.jobs) now ≡ total (past b.jobs) groups = same (past b.jobs) in
          let few : word ≤ b.jobs + total (past b.jobs) groups = shared.few in
          omega arith);
    }

pub shared_join : (b : Bounds) (word : ℕ) (groups : List (List (List ℕ))) (id other : ℕ) (lists others : List (List ℕ)) → IsShared b word groups → IsAt groups id lists
    → IsAt (set groups id (lists ++ others)) other others → All (IsDrawn b.jobs word) others
    → IsShared b word (set (set groups id (lists ++ others)) other [])
shared_join b word groups id other lists others shared at other_at theirs =
    let now : List (List (List ℕ)) = set (set groups id (lists ++ others)) other [] in
    let P : List ℕ → Type 0 = IsDrawn b.jobs word in
    let mine : All P lists = all_at (All P) groups id lists shared.each at in
    let same : (h : List ℕ → ℕ) → total h now ≡ total h groups = λ h. total_join h groups id other lists others at other_at in
    record {
      once = same_counts word (λ x. total (times x) groups) (λ x. total (times x) now) shared.once (λ x. same (times x));
      each = All-set (All P) (set groups id (lists ++ others)) other [] (All-nil P) (All-set (All P) groups id (lists ++ others) (All-append P lists others mine theirs) shared.each);
      count = same (λ d. 1) ∙ shared.count;
      come = come_moved b word groups now shared.come same;
      few = (let s : total (past b.jobs) now ≡ total (past b.jobs) groups = same (past b.jobs) in
          let few : word ≤ b.jobs + total (past b.jobs) groups = shared.few in
          omega arith);
    }

-- Nobody has drawn anything.
pub counts_nothing : (h : List ℕ → ℕ) (n : ℕ) → h [] ≡ 0 → sum_by h (replicate n []) ≡ 0
counts_nothing h zero none = refl
counts_nothing h (suc n) none =
    let rest : sum_by h (replicate n []) ≡ 0 = counts_nothing h n none in
    let cons : sum_by h ([] ∷ replicate n []) ≡ h [] + sum_by h (replicate n []) = sum_by-cons h [] (replicate n []) in
    omega arith

pub new_list : (jobs : ℕ) → IsDrawn jobs 0 []
new_list jobs =
    record {
      below = All-nil (λ x. x < 0);
      rises = λ i j d lt in'. absurd (omega arith);
      jobs_first = λ i j d lt in'. absurd (omega arith);
    }

pub shared_opening : (b : Bounds) → IsShared b 0 (no_numbers b ∷ [])
shared_opening b =
    let lists : List (List ℕ) = no_numbers b in
    let nothing : (h : List ℕ → ℕ) → h [] ≡ 0 → total h (lists ∷ []) ≡ 0 = λ h none. sum_one (sum_by h) lists ∙ counts_nothing h b.workers none in
    record {
      once = record { below = λ x lt. absurd (omega arith); others = λ x le. nothing (times x) refl };
      each = All-cons (All (IsDrawn b.jobs 0)) lists [] (All-replicate (IsDrawn b.jobs 0) b.workers [] (new_list b.jobs)) (All-nil (All (IsDrawn b.jobs 0)));
      count = sum_one (sum_by (λ d. 1)) lists ∙ (ones lists ∙ length-replicate b.workers []);
      come = come_opening b;
      few = omega arith;
    }

-- The word can't wrap.
pub word_small : (b : Bounds) (word : ℕ) (groups : List (List (List ℕ))) → IsShared b word groups → word ≤ b.jobs + b.workers
word_small b word groups shared =
    let few : word ≤ b.jobs + total (past b.jobs) groups = shared.few in
    let ended : total (past b.jobs) groups ≤ total (λ d. 1) groups = past_few b.jobs word groups shared.each in
    let count : total (λ d. 1) groups ≡ b.workers = shared.count in
    omega arith

-- The seat that has all lists has claims.
pub claims_at_the_end : (b : Bounds) (word : ℕ) (groups : List (List (List ℕ))) (id : ℕ) (lists : List (List ℕ)) → IsShared b word groups → IsAt groups id lists
    → length lists ≡ b.workers → IsClaims b.jobs (record { word = word; lists = lists })
claims_at_the_end b word groups id lists shared at all =
    record {
      once = same_counts word (λ x. total (times x) groups) (λ x. sum_by (times x) lists) shared.once
          (λ x. sym (total_of_all (times x) groups id lists at (shared.count ∙ sym all)));
      each = all_at (All (IsDrawn b.jobs word)) groups id lists shared.each at;
    }

pub come_with_all : (b : Bounds) (word : ℕ) (groups : List (List (List ℕ))) (id : ℕ) (lists : List (List ℕ)) → IsShared b word groups → IsAt groups id lists
    → length lists ≡ b.workers → HasCome b.jobs b.workers word lists
come_with_all b word groups id lists shared at all = come_to_the_end b word groups id lists shared.come at (shared.count ∙ sym all)
