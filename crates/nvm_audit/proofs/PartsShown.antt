-- Each part of a done job is among those of its unit.
use Rattle.std.proofs.Common.{◌≡◌, ℕ, zero, suc, ◌+◌, List, [], ◌∷◌, ◌++◌, length, nat_eq, true, false, refl, sym, ap, subst, arith}
use Rattle.std.proofs.lemmas.Bool.Decides.{Decides-eqb}
use Rattle.std.specs.List.{flat_map}
use mathlib.Core.Option.{some, some-injective}
use Rattle.nvm_record.specs.Lists.{IsAt}
use Rattle.nvm_plan.specs.declared.part.Part.{Part}
use Rattle.nvm_audit.specs.RecordedJob.{RecordedJob}
use Rattle.nvm_audit.specs.RecordedPart.{RecordedPart, recorded_part, parts_left, parts_of_work, parts_of_workers, parts_in_unit}
use Rattle.nvm_audit.proofs.Standing.{Stands, none_stands, in_filter_back}

module _ {A : Type 0} where
  pub in_front : (xs ys : List A) (i : ℕ) (x : A) → IsAt xs i x → Stands (xs ++ ys) x
  in_front [] ys i x at = absurd (none_stands i x at)
  in_front (y ∷ xs) ys zero x at = (0, at)
  in_front (y ∷ xs) ys (suc i) x at = let rest = in_front xs ys i x at in (suc rest.0, rest.1)

  pub behind : (xs ys : List A) (i : ℕ) (y : A) → IsAt ys i y → Stands (xs ++ ys) y
  behind [] ys i y at = (i, at)
  behind (x ∷ xs) ys i y at = let rest = behind xs ys i y at in (suc rest.0, rest.1)

module _ {A B : Type 0} (f : A → List B) where
  in_lists : (xs : List A) (i : ℕ) (x : A) (j : ℕ) (y : B) → IsAt xs i x → IsAt (f x) j y → Stands (flat_map f xs) y
  in_lists [] i x j y at also = absurd (none_stands i x at)
  in_lists (z ∷ xs) zero x j y at also =
      in_front (f z) (flat_map f xs) j y (subst (λ (w : A). IsAt (f w) j y) (sym (some-injective z x at)) also)
  in_lists (z ∷ xs) (suc i) x j y at also =
      let rest = in_lists xs i x j y at also in
      behind (f z) (flat_map f xs) rest.0 y rest.1

-- One before the last has others after it.
pub before_last : (worker : ℕ) (d : RecordedJob) (before : List Part) (last : Part) (i : ℕ) (part : Part) → IsAt before i part
    → IsAt (parts_left worker d (before ++ last ∷ [])) i (recorded_part worker d part false)
before_last worker d [] last i part at = absurd (none_stands i part at)
before_last worker d (p ∷ []) last zero part at = ap some (ap (λ (q : Part). recorded_part worker d q false) (some-injective p part at))
before_last worker d (p ∷ []) last (suc i) part at = absurd (none_stands i part at)
before_last worker d (p ∷ q ∷ ps) last zero part at = ap some (ap (λ (x : Part). recorded_part worker d x false) (some-injective p part at))
before_last worker d (p ∷ q ∷ ps) last (suc i) part at = before_last worker d (q ∷ ps) last i part at

pub at_last : (worker : ℕ) (d : RecordedJob) (before : List Part) (last : Part)
    → IsAt (parts_left worker d (before ++ last ∷ [])) (length before) (recorded_part worker d last true)
at_last worker d [] last = refl
at_last worker d (p ∷ []) last = refl
at_last worker d (p ∷ q ∷ ps) last = at_last worker d (q ∷ ps) last

of_workers : (first : ℕ) (done : List (List RecordedJob)) (worker : ℕ) (work : List RecordedJob) (i : ℕ) (p : RecordedPart)
    → IsAt done worker work → IsAt (parts_of_work (first + worker) work) i p → Stands (parts_of_workers first done) p
of_workers first [] worker work i p there at = absurd (none_stands worker work there)
of_workers first (w ∷ rest) zero work i p there at =
    let here : first + 0 ≡ first = omega arith in
    in_front (parts_of_work first w) (parts_of_workers (first + 1) rest) i p
    (subst (λ (l : List RecordedJob). IsAt (parts_of_work first l) i p) (sym (some-injective w work there))
    (subst (λ (n : ℕ). IsAt (parts_of_work n work) i p) here at))
of_workers first (w ∷ rest) (suc worker) work i p there at =
    let number : first + suc worker ≡ first + 1 + worker = omega arith in
    let after = of_workers (first + 1) rest worker work i p there (subst (λ (n : ℕ). IsAt (parts_of_work n work) i p) number at) in
    behind (parts_of_work first w) (parts_of_workers (first + 1) rest) after.0 p after.1

pub shown : (done : List (List RecordedJob)) (worker : ℕ) (work : List RecordedJob) (k : ℕ) (d : RecordedJob) (i : ℕ) (p : RecordedPart)
    → IsAt done worker work → IsAt work k d → IsAt (parts_left worker d d.parts) i p → Stands (parts_in_unit p.part.unit done) p
shown done worker work k d i p there at part =
    let number : worker ≡ 0 + worker = omega arith in
    let own = in_lists (λ x. parts_left worker x x.parts) work k d i p at part in
    let all = of_workers 0 done worker work own.0 p there (subst (λ (n : ℕ). IsAt (parts_of_work n work) own.0 p) number own.1) in
    in_filter_back (λ q. nat_eq q.part.unit p.part.unit) (parts_of_workers 0 done) all.0 p all.1 ((Decides-eqb p.part.unit p.part.unit).1 refl)
