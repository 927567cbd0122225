-- The moment of a step: the greatest beginning of it and of the steps before it.
use Rattle.std.proofs.Common.{◌≡◌, ◌⊎◌, ℕ, zero, suc, ◌<◌, ◌≤◌, List, [], ◌∷◌, Contains, Bool, true, false, Option, Some, None, ◌&&◌, cond, max, refl, ap, subst, ◌∙◌, inl, inr, arith}
use Rattle.std.proofs.lemmas.Bool.{cases_lt, cases_Bool, eq-eqb, eqb-true, lt-ltb, ltb-true, and_from, and_parts}
use Rattle.std.specs.Prelude.{nat_eq, nat_lt}
use mathlib.Core.Option.{some-injective}
use Rattle.nvm_record.specs.Lists.{IsAt}
use Rattle.nvm_trace.specs.declared.step.Step.{Step}
use Rattle.nvm_trace.specs.Moments.{HaveMoments}
use Rattle.nvm_trace.specs.Order.{level_of, Precedes}
use Rattle.nvm_trace.specs.Timely.{HadEnded, IsTimely}
use Rattle.nvm_trace.proofs.Places.{none_stands, contained, placed}

abbrev precedes : Step → Step → Bool
precedes a s = nat_eq a.unit s.unit && nat_lt (level_of a) (level_of s)

precedes_true : (a s : Step) → Precedes a s → precedes a s ≡ true
precedes_true a s h = and_from (nat_eq a.unit s.unit) (nat_lt (level_of a) (level_of s)) (eq-eqb a.unit s.unit h.unit) (lt-ltb (level_of a) (level_of s) h.level)

precedes_is : (a s : Step) → precedes a s ≡ true → Precedes a s
precedes_is a s t =
    let both = and_parts (nat_eq a.unit s.unit) (nat_lt (level_of a) (level_of s)) t in
    record { unit = eqb-true a.unit s.unit both.0; level = ltb-true (level_of a) (level_of s) both.1 }

-- the greatest beginning of the steps before this one
abbrev latest_before : List Step → Step → ℕ
latest_before [] s = 0
latest_before (a ∷ rest) s = max (cond (precedes a s) a.began 0) (latest_before rest s)

latest_above : (steps : List Step) (s a : Step) (i : ℕ) → IsAt steps i a → Precedes a s → a.began ≤ latest_before steps s
latest_above [] s a i at before = absurd (none_stands i a at)
latest_above (b ∷ bs) s a zero at before =
    let same : b ≡ a = some-injective b a at in
    let t : precedes b s ≡ true = ap (λ (x : Step). precedes x s) same ∙ precedes_true a s before in
    let began : b.began ≡ a.began = ap (λ (x : Step). x.began) same in
    let is : cond (precedes b s) b.began 0 ≡ b.began = ap (λ (v : Bool). cond v b.began 0) t in
    omega (arith, began, is)
latest_above (b ∷ bs) s a (suc i) at before = let h = latest_above bs s a i at before in omega (arith, h)

-- One of the steps before began then.
latest_there : (steps : List Step) (s : Step) → 0 < latest_before steps s
    → (i : ℕ) × (a : Step) × IsAt steps i a × Precedes a s × (a.began ≡ latest_before steps s)
latest_there [] s some = absurd (omega (arith, some))
latest_there (b ∷ bs) s some = by (latest_there bs s) (cases_lt (cond (precedes b s) b.began 0) (latest_before bs s)) (cases_Bool (precedes b s))
  where
    by : (0 < latest_before bs s → (i : ℕ) × (a : Step) × IsAt bs i a × Precedes a s × (a.began ≡ latest_before bs s))
        → (cond (precedes b s) b.began 0 < latest_before bs s) ⊎ (latest_before bs s ≤ cond (precedes b s) b.began 0)
        → (precedes b s ≡ true) ⊎ (precedes b s ≡ false)
        → (i : ℕ) × (a : Step) × IsAt (b ∷ bs) i a × Precedes a s × (a.began ≡ latest_before (b ∷ bs) s)
    by before (inl less) which =
        let rest = before (omega (arith, less)) in
        let is = rest.4 in
        (suc rest.0, rest.1, rest.2, rest.3, omega (arith, is, less))
    by before (inr most) (inl t) =
        let is : cond (precedes b s) b.began 0 ≡ b.began = ap (λ (v : Bool). cond v b.began 0) t in
        (0, b, refl, precedes_is b s t, omega (arith, is, most))
    by before (inr most) (inr f) =
        let is : ◌≡◌ {A = ℕ} (cond (precedes b s) b.began 0) 0 = ap (λ (v : Bool). cond v b.began 0) f in
        absurd (omega (arith, is, most, some))

pub have_moments : (steps : List Step) → ((s : Step) → Contains steps s → ¬ (HadEnded s.ended s.began)) → IsTimely steps → HaveMoments steps
have_moments steps ends timely = record {
  moment = λ s. max s.began (latest_before steps s);
  after_beginning = λ s has. omega arith;
  before_end = λ s has had. elim (cases_lt s.began (latest_before steps s)) [
    | inl less ↦
        let a = latest_there steps s (omega (arith, less)) in
        let is = a.4 in
        let moment : max s.began (latest_before steps s) ≡ a.1.began = omega (arith, is, less) in
        timely s has
        (record { earlier = a.1; shown = contained steps a.0 a.1 a.2; before = a.3; ended = subst (λ (n : ℕ). HadEnded s.ended n) moment had })
    | inr most ↦
        let moment : max s.began (latest_before steps s) ≡ s.began = omega (arith, most) in
        ends s has (subst (λ (n : ℕ). HadEnded s.ended n) moment had)
  ];
  in_order = λ a b has also before.
      let at = placed steps a has in
      let began = latest_above steps b a at.0 at.1 before in
      elim (cases_lt 0 (latest_before steps a)) [
        | inl some ↦
            let e = latest_there steps a some in
            let is = e.4 in
            let ahead : Precedes e.1 b =
            record { unit = e.3.unit ∙ before.unit; level = let l = e.3.level in let m = before.level in omega (arith, l, m) } in
            let le = latest_above steps b e.1 e.0 e.2 ahead in
            omega (arith, began, is, le)
        | inr none ↦ omega (arith, began, none)
      ];
}

ended_then : (o : Option ℕ) (m n : ℕ) → m ≤ n → HadEnded o m → HadEnded o n
ended_then None m n le had = had
ended_then (Some e) m n le had = omega (arith, le, had)

pub moments_are_timely : (steps : List Step) → HaveMoments steps → IsTimely steps
moments_are_timely steps m s has late =
    let a = late.earlier in
    let after = m.after_beginning a late.shown in
    let order = m.in_order a s late.shown has late.before in
    m.before_end s has (ended_then s.ended a.began (m.moment s) (omega (arith, after, order)) late.ended)
