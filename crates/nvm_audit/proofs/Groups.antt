-- The parts by unit, one part after the other.
use Rattle.std.proofs.Common.{◌≡◌, ℕ, zero, suc, ◌+◌, ◌<◌, nat_eq, List, [], ◌∷◌, ◌++◌, Bool, true, false, length, map, take, set, cond, get_or, refl, sym, ap, subst, inl, inr, ◌∙◌, append_assoc, append-nil, arith, length-set}
use Rattle.std.proofs.lemmas.Bool.{eqb-true, eqb-false, cases_eq}
use Rattle.std.proofs.lemmas.List.{length-map, map-set, map-append, length-append}
use Rattle.std.proofs.lemmas.Grind.{flat_map-append}
use Rattle.std.proofs.lemmas.List.Elements.{filter-append}
use Rattle.std.specs.List.{flat_map}
use mathlib.Core.Option.{some, some-injective}
use Rattle.nvm_record.specs.Lists.{IsAt}
use Rattle.nvm_plan.specs.declared.part.Part.{Part}
use Rattle.nvm_audit.specs.Inside.Gathered.{naming}
use Rattle.nvm_audit.specs.Inside.Grouped.{AreGrouped}
use Rattle.nvm_audit.specs.RecordedJob.{RecordedJob}
use Rattle.nvm_audit.specs.RecordedPart.{RecordedPart, recorded_part, parts_left, parts_of_work, parts_of_workers}
use Rattle.nvm_audit.proofs.Counting.{at_set_same, at_set_other, item_in_map}
use Rattle.nvm_audit.proofs.Places.{at_left, at_end, taken}
use Rattle.nvm_audit.proofs.Standing.{none_stands, below, one_there, read_there, read_is}

-- One part more is after the others of its unit.
pub one_more_in : (units : ℕ) (parts : List RecordedPart) (p : RecordedPart) (groups : List (List RecordedPart)) (group : List RecordedPart)
    → AreGrouped units parts groups → IsAt groups p.part.unit group
    → AreGrouped units (parts ++ p ∷ []) (set groups p.part.unit (group ++ p ∷ []))
one_more_in units parts p groups group old there =
    record {
      long = length-set groups p.part.unit (group ++ p ∷ []) ∙ old.long;
      each = λ unit low. by unit low (nat_eq p.part.unit unit) refl;
    }
  where
    test : ℕ → RecordedPart → Bool
    test unit q = nat_eq q.part.unit unit

    low_here : p.part.unit < units
    low_here = let lt = below groups p.part.unit group there in omega (arith, lt, old.long)

    is_group : group ≡ naming p.part.unit parts
    is_group = some-injective _ _ (sym there ∙ old.each p.part.unit low_here)

    with_it : (unit : ℕ) (b : Bool) → nat_eq p.part.unit unit ≡ b → naming unit (parts ++ p ∷ []) ≡ naming unit parts ++ cond b (p ∷ []) []
    with_it unit b is = filter-append (test unit) parts (p ∷ []) ∙ ap (λ (c : Bool). naming unit parts ++ cond c (p ∷ []) []) is

    by : (unit : ℕ) → unit < units → (b : Bool) → nat_eq p.part.unit unit ≡ b
        → IsAt (set groups p.part.unit (group ++ p ∷ [])) unit (naming unit (parts ++ p ∷ []))
    by unit low true same =
        let is : p.part.unit ≡ unit = eqb-true p.part.unit unit same in
        subst (λ (ps : List RecordedPart). IsAt (set groups p.part.unit (group ++ p ∷ [])) unit ps)
        (ap (λ (ps : List RecordedPart). ps ++ p ∷ []) (is_group ∙ ap (λ (n : ℕ). naming n parts) is) ∙ sym (with_it unit true same))
        (subst (λ (n : ℕ). IsAt (set groups p.part.unit (group ++ p ∷ [])) n (group ++ p ∷ [])) is
        (at_set_same groups p.part.unit (group ++ p ∷ []) (below groups p.part.unit group there)))
    by unit low false apart =
        subst (λ (ps : List RecordedPart). IsAt (set groups p.part.unit (group ++ p ∷ [])) unit ps)
        (sym (with_it unit false apart ∙ append-nil (naming unit parts)))
        (at_set_other groups p.part.unit unit (group ++ p ∷ []) (naming unit parts) (λ same. eqb-false p.part.unit unit apart (sym same)) (old.each unit low))

-- Each part of the job, and whether it is the last.
pub left_at : (worker : ℕ) (d : RecordedJob) (parts : List Part) (i : ℕ) (part : Part) (last : Bool) → IsAt parts i part
    → (last ≡ true → i + 1 ≡ length parts) → (last ≡ false → ¬ (i + 1 ≡ length parts))
    → IsAt (parts_left worker d parts) i (recorded_part worker d part last)
left_at worker d [] i part last e then otherwise = absurd (none_stands i part e)
left_at worker d (q ∷ []) zero part true e then otherwise = ap (λ (r : Part). some (recorded_part worker d r true)) (some-injective q part e)
left_at worker d (q ∷ []) zero part false e then otherwise = absurd (otherwise refl refl)
left_at worker d (q ∷ []) (suc i) part last e then otherwise = absurd (none_stands i part e)
left_at worker d (q ∷ next ∷ parts) zero part true e then otherwise = let end = then refl in absurd (omega (arith, end))
left_at worker d (q ∷ next ∷ parts) zero part false e then otherwise = ap (λ (r : Part). some (recorded_part worker d r false)) (some-injective q part e)
left_at worker d (q ∷ next ∷ parts) (suc i) part last e then otherwise =
    left_at worker d (next ∷ parts) i part last e (λ t. let end = then t in omega (arith, end))
    (λ f end. otherwise f (omega (arith, end)))

pub length_left : (worker : ℕ) (d : RecordedJob) (parts : List Part) → length (parts_left worker d parts) ≡ length parts
length_left worker d [] = refl
length_left worker d (q ∷ []) = refl
length_left worker d (q ∷ next ∷ parts) = ap suc (length_left worker d (next ∷ parts))

module _ {A : Type 0} where
  pub get_or_same : (xs : List A) (i : ℕ) (d e : A) → i < length xs → get_or xs i d ≡ get_or xs i e
  get_or_same xs i d e low = read_is xs i (get_or xs i e) d (read_there xs i e low)

  -- what is at the next place is taken too
  pub one_taken : (xs : List A) (i : ℕ) (x : A) → IsAt xs i x → take (i + 1) xs ≡ take i xs ++ x ∷ []
  one_taken xs i x there = taken xs i x (below xs i x there) (sym (read_is xs i x x there))

pub one_job_more : (worker : ℕ) (work : List RecordedJob) (k : ℕ) (d : RecordedJob) → IsAt work k d
    → parts_of_work worker (take k work) ++ parts_left worker d d.parts ≡ parts_of_work worker (take (k + 1) work)
one_job_more worker work k d there =
    let of = λ (e : RecordedJob). parts_left worker e e.parts in
    sym (ap (λ (ds : List RecordedJob). flat_map of ds) (one_taken work k d there)
    ∙ flat_map-append of (take k work) (d ∷ [])
    ∙ ap (λ (ps : List RecordedPart). flat_map of (take k work) ++ ps) (append-nil (parts_left worker d d.parts)))

pub one_worker_more : (first : ℕ) (done : List (List RecordedJob)) (k : ℕ) (work : List RecordedJob) → IsAt done k work
    → parts_of_workers first (take k done) ++ parts_of_work (first + k) work ≡ parts_of_workers first (take (k + 1) done)
one_worker_more first [] k work there = absurd (none_stands k work there)
one_worker_more first (w ∷ ws) zero work there =
    let here : first + 0 ≡ first = omega arith in
    ap (λ (n : ℕ). parts_of_work n work) here ∙ ap (λ (v : List RecordedJob). parts_of_work first v) (sym (some-injective w work there))
    ∙ sym (append-nil (parts_of_work first w))
one_worker_more first (w ∷ ws) (suc k) work there =
    let behind : first + suc k ≡ first + 1 + k = omega arith in
    let taken_more : suc (k + 1) ≡ suc k + 1 = omega arith in
    append_assoc (parts_of_work first w) (parts_of_workers (first + 1) (take k ws)) (parts_of_work (first + suc k) work)
    ∙ ap (λ (n : ℕ). parts_of_work first w ++ (parts_of_workers (first + 1) (take k ws) ++ parts_of_work n work)) behind
    ∙ ap (λ (ps : List RecordedPart). parts_of_work first w ++ ps) (one_worker_more (first + 1) ws k work there)
    ∙ ap (λ (n : ℕ). parts_of_workers first (take n (w ∷ ws))) taken_more

-- One part more is taken.
pub one_part_more : (worker : ℕ) (d : RecordedJob) (i : ℕ) (part : Part) (last : Bool) → IsAt d.parts i part
    → (last ≡ true → i + 1 ≡ length d.parts) → (last ≡ false → ¬ (i + 1 ≡ length d.parts))
    → take i (parts_left worker d d.parts) ++ recorded_part worker d part last ∷ [] ≡ take (i + 1) (parts_left worker d d.parts)
one_part_more worker d i part last there then otherwise =
    sym (one_taken (parts_left worker d d.parts) i (recorded_part worker d part last) (left_at worker d d.parts i part last there then otherwise))

module _ {A : Type 0} (f : A → List RecordedPart) where
  -- The part was put after the others of its unit.
  pub put_more : (units : ℕ) (parts : List RecordedPart) (p : RecordedPart) (groups : List A) (group new e : A)
      → p.part.unit < length groups → group ≡ get_or groups p.part.unit e → f new ≡ f group ++ p ∷ []
      → AreGrouped units parts (map f groups) → AreGrouped units (parts ++ p ∷ []) (map f (set groups p.part.unit new))
  put_more units parts p groups group new e low read more old =
      subst (λ (gs : List (List RecordedPart)). AreGrouped units (parts ++ p ∷ []) gs)
      (ap (λ (g : List RecordedPart). set (map f groups) p.part.unit g) (sym more) ∙ sym (map-set f groups p.part.unit new))
      (one_more_in units parts p (map f groups) (f group) old
      (item_in_map f groups groups p.part.unit group refl low (read ∙ get_or_same groups p.part.unit e group low)))

  -- Nothing is in one group more.
  pub one_group_more : (units : ℕ) (groups : List A) (new : A) → f new ≡ [] → AreGrouped units [] (map f groups)
      → AreGrouped (units + 1) [] (map f (groups ++ new ∷ []))
  one_group_more units groups new none old =
      record {
        long = ap length (map-append f groups (new ∷ [])) ∙ length-append (map f groups) (f new ∷ []) ∙ ap (λ (n : ℕ). n + 1) old.long;
        each = λ unit low. subst (λ (gs : List (List RecordedPart)). IsAt gs unit []) (sym (map-append f groups (new ∷ []))) (at_each unit low);
      }
    where
      at_each : (unit : ℕ) → unit < units + 1 → IsAt (map f groups ++ f new ∷ []) unit []
      at_each unit low = elim (cases_eq unit units) [
        | inl last ↦
            subst (λ (n : ℕ). IsAt (map f groups ++ f new ∷ []) n []) (old.long ∙ sym last)
            (subst (λ (g : List RecordedPart). IsAt (map f groups ++ f new ∷ []) (length (map f groups)) g) none (at_end (map f groups) (f new)))
        | inr other ↦ at_left (map f groups) (f new ∷ []) unit [] (old.each unit (omega (arith, low, other)))
      ]

  -- What was read at the place of a unit are the parts that name it.
  pub group_is : (units : ℕ) (parts : List RecordedPart) (groups : List A) (unit : ℕ) (group e : A) → AreGrouped units parts (map f groups)
      → unit < units → group ≡ get_or groups unit e → f group ≡ naming unit parts
  group_is units parts groups unit group e grouped low read =
      let same = length-map groups f in
      let there : unit < length groups = omega (arith, low, grouped.long, same) in
      one_there (map f groups) unit (f group) (naming unit parts)
      (item_in_map f groups groups unit group refl there (read ∙ get_or_same groups unit e group there)) (grouped.each unit low)
