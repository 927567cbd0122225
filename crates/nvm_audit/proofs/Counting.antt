-- Counting how often jobs were done, one done job after the other.
use Rattle.std.proofs.Common.{◌≡◌, ℕ, zero, suc, ◌+◌, ◌-◌, ◌<◌, ◌≤◌, nat_eq, List, [], ◌∷◌, ◌++◌, Bool, true, false, length, map, take, get_or, replicate, All, refl, sym, ap, subst, ◌∙◌, arith}
use Rattle.std.proofs.Math.ListN.{set}
use Rattle.std.proofs.lemmas.Bool.{eqb-true, eqb-false}
use Rattle.std.proofs.lemmas.List.{length-replicate, take_all}
use Rattle.std.proofs.lemmas.List.Sums.{count_by_more_no, count_by_more_yes, sum_by_more}
use Rattle.std.specs.List.{count_by, sum_by}
use mathlib.Core.Option.{some, some-injective}
use Rattle.nvm_record.specs.Lists.{IsAt}
use Rattle.nvm_audit.specs.declared.occurrences.Occurrence.{Occurrence}
use Rattle.nvm_audit.specs.declared.version.Version.{Version}
use Rattle.nvm_audit.specs.declared.version.Version.TheVariants.{One, Two}
use Rattle.nvm_audit.specs.Inside.Occurrences.{most_entries, IsOccurrence, IsCounted, AreCounted}
use Rattle.nvm_audit.specs.LawfulRecord.{times_done}
use Rattle.nvm_audit.specs.Recordable.{HoldsLimit}
use Rattle.nvm_audit.specs.RecordedJob.{RecordedJob}
use Rattle.nvm_audit.proofs.Standing.{none_stands, below, read_there, read_is, all_at}

module _ {A : Type 0} where
  pub at_set_same : (xs : List A) (i : ℕ) (x : A) → i < length xs → IsAt (set xs i x) i x
  at_set_same [] i x lt = absurd (omega arith)
  at_set_same (y ∷ ys) zero x lt = refl
  at_set_same (y ∷ ys) (suc i) x lt = at_set_same ys i x (omega arith)

  pub at_set_other : (xs : List A) (i j : ℕ) (x y : A) → (j ≡ i → ⊥) → IsAt xs j y → IsAt (set xs i x) j y
  at_set_other [] i j x y off at = at
  at_set_other (z ∷ zs) zero zero x y off at = absurd (off refl)
  at_set_other (z ∷ zs) zero (suc j) x y off at = at
  at_set_other (z ∷ zs) (suc i) zero x y off at = at
  at_set_other (z ∷ zs) (suc i) (suc j) x y off at = at_set_other zs i j x y (λ e. off (ap suc e)) at

  pub at_replicate : (n : ℕ) (x : A) (i : ℕ) → i < n → IsAt (replicate n x) i x
  at_replicate zero x i lt = absurd (omega (arith, lt))
  at_replicate (suc n) x zero lt = refl
  at_replicate (suc n) x (suc i) lt = at_replicate n x i (omega (arith, lt))

-- whether it is a job of this number
abbrev pub is_job : ℕ → RecordedJob → Bool
is_job number d = nat_eq d.job number

module _ (all : List (List RecordedJob)) (found : List Occurrence) (work : List RecordedJob) (i : ℕ) (d : RecordedJob)
    (at : IsAt work i d) (lt : d.job < length found) (before after : Occurrence)
    (more : (times : ℕ) → IsOccurrence all d.job times before → IsOccurrence all d.job (times + 1) after)
    (e : Occurrence) (read : before ≡ get_or found d.job e) where
  -- One done job more is counted.
  pub one_more_counted : (number times : ℕ) → IsCounted all found number (times + count_by (is_job number) (take i work))
      → IsCounted all (set found d.job after) number (times + count_by (is_job number) (take (i + 1) work))
  one_more_counted number times counted = by (nat_eq d.job number) refl
    where
      there : i < length work
      there = below work i d at

      read_d : get_or work i d ≡ d
      read_d = read_is work i d d at

      by : (b : Bool) → nat_eq d.job number ≡ b
          → IsCounted all (set found d.job after) number (times + count_by (is_job number) (take (i + 1) work))
      by true same =
          let is : d.job ≡ number = eqb-true d.job number same in
          let sum = count_by_more_yes (is_job number) work i d there (ap (is_job number) read_d ∙ same) in
          let here : before ≡ counted.occurrence =
          read ∙ read_is found d.job counted.occurrence e (subst (λ (n : ℕ). IsAt found n counted.occurrence) (sym is) counted.its) in
          let times' : times + count_by (is_job number) (take i work) + 1 ≡ times + count_by (is_job number) (take (i + 1) work) = omega (arith, sum) in
          subst (λ (n : ℕ). IsCounted all (set found d.job after) number n) times'
          (record {
            occurrence = after;
            its = subst (λ (n : ℕ). IsAt (set found d.job after) n after) is (at_set_same found d.job after lt);
            is =
                subst (λ (n : ℕ). IsOccurrence all n (times + count_by (is_job number) (take i work) + 1) after) is
                (more (times + count_by (is_job number) (take i work))
                (subst (λ (n : ℕ). IsOccurrence all n (times + count_by (is_job number) (take i work)) before) (sym is)
                (subst (λ (o : Occurrence). IsOccurrence all number (times + count_by (is_job number) (take i work)) o) (sym here) counted.is)));
          })
      by false apart =
          let sum = count_by_more_no (is_job number) work i d there (ap (is_job number) read_d ∙ apart) in
          subst (λ (n : ℕ). IsCounted all (set found d.job after) number (times + n)) (sym sum)
          (record {
            occurrence = counted.occurrence;
            its = at_set_other found d.job number after counted.occurrence (λ same. eqb-false d.job number apart (sym same)) counted.its;
            is = counted.is;
          })

-- The first ones are summed, and then the next one.
pub one_more_summed : {A : Type 0} → (f : A → ℕ) (xs : List A) (i : ℕ) (x : A) → IsAt xs i x
    → sum_by f (take i xs) + f x ≡ sum_by f (take (i + 1) xs)
one_more_summed f xs i x at =
    let sum = sum_by_more f xs i x (below xs i x at) in
    let same = ap f (read_is xs i x x at) in
    omega (arith, sum, same)

-- What the first workers did is counted, and then the next one's.
pub one_more_worker : (done : List (List RecordedJob)) (i : ℕ) (work : List RecordedJob) (number : ℕ) → IsAt done i work
    → times_done number (take i done) + count_by (is_job number) work ≡ times_done number (take (i + 1) done)
one_more_worker done i work number at = one_more_summed (λ (w : List RecordedJob). count_by (is_job number) w) done i work at

module _ {A : Type 0} where
  -- what was read of a list that was lent
  pub item_at : (xs ys : List A) (i : ℕ) (x : A) → xs ≡ ys → i < length xs → x ≡ get_or xs i x → IsAt ys i x
  item_at xs ys i x same lt read =
      subst (λ (zs : List A). IsAt zs i x) same (subst (λ (z : A). IsAt xs i z) (sym read) (read_there xs i x lt))

-- What was read at the place of a number says how often that job was done.
pub read_occurrence : (jobs : ℕ) (done : List (List RecordedJob)) (found : List Occurrence) (number : ℕ) (o e : Occurrence)
    → AreCounted jobs done found → number < length found → o ≡ get_or found number e
    → IsOccurrence done number (times_done number done) o
read_occurrence jobs done found number o e counted lt read =
    let each = counted.each number (omega (arith, lt, counted.long)) in
    let same : o ≡ each.occurrence = read ∙ read_is found number each.occurrence e each.its in
    subst (λ (x : Occurrence). IsOccurrence done number (times_done number done) x) (sym same) each.is

module _ {A B : Type 0} where
  at_map : (f : A → B) (xs : List A) (i : ℕ) (x : A) → IsAt xs i x → IsAt (map f xs) i (f x)
  at_map f [] i x e = absurd (none_stands i x e)
  at_map f (y ∷ ys) zero x e = ap (λ (z : A). some (f z)) (some-injective y x e)
  at_map f (y ∷ ys) (suc i) x e = at_map f ys i x e

  pub read_in_map : (f : A → B) (xs : List A) (i : ℕ) (d : A) → i < length xs → IsAt (map f xs) i (f (get_or xs i d))
  read_in_map f xs i d lt = at_map f xs i (get_or xs i d) (read_there xs i d lt)

  pub item_in_map : (f : A → B) (xs ys : List A) (i : ℕ) (x : A) → xs ≡ ys → i < length xs → x ≡ get_or xs i x → IsAt (map f ys) i (f x)
  item_in_map f xs ys i x same lt read = at_map f ys i x (item_at xs ys i x same lt read)

-- What is short of each is short of the one that is there.
pub short_there : {A B : Type 0} → (f : A → List B) (n : ℕ) (xs : List A) (i : ℕ) (x : A) → All (λ y. length (f y) ≤ n) xs → IsAt xs i x
    → length (f x) ≤ n
short_there f n xs i x all at = all_at (λ y. length (f y) ≤ n) xs all i x at

-- a list that was made as long
pub resized : {A : Type 0} → (n : ℕ) (xs old : List A) (x : A) (len : ℕ) → xs ≡ take n old ++ replicate (n - len) x → old ≡ [] → len ≡ 0
    → (length xs ≡ n) × ((i : ℕ) → i < n → IsAt xs i x)
resized n xs old x len is none short =
    let same : xs ≡ replicate n x =
    is ∙ ap (λ ys. take n ys ++ replicate (n - len) x) none ∙ ap (λ ys. ys ++ replicate (n - len) x) (take_all n [] (omega arith))
    ∙ ap (λ (k : ℕ). replicate k x) (omega (arith, short)) in
    (ap length same ∙ length-replicate n x, λ i lt. subst (λ ys. IsAt ys i x) (sym same) (at_replicate n x i lt))

-- The limit is no higher in either version.
pub low_limit : (version : Version) (limit : ℕ) → HoldsLimit version limit → limit ≤ most_entries
low_limit One limit held = let low = held.1 in omega (arith, low)
low_limit Two limit held = held.1
