-- What is known of a value that was read.
use Rattle.std.proofs.Common.{◌≡◌, ◌⊎◌, ℕ, zero, suc, ◌+◌, ◌<◌, ◌≤◌, Bool, true, false, cond, ltb, ◌||◌, List, [], ◌∷◌, length, take, drop, All, Result, Ok, Err, inl, inr, refl, sym, ap, subst, arith}
use Rattle.std.proofs.lemmas.Bool.{ltb-true, ltb-false, or_parts}
use Rattle.std.proofs.lemmas.List.{length-take}
use Rattle.std.proofs.lemmas.List.Elements.{All-nil, All-cons}
use mathlib.Core.Option.{some-injective, some-ne-none}
use Rattle.nvm_record.specs.Lists.{IsAt}
use Rattle.nvm_file.specs.declared.record_fault.RecordFault.TheVariants.{Truncated, BadValue}
use Rattle.nvm_file.specs.Fields.{◌>>=◌, offset, refused, bytes_at, number_at, number_in, number_below, items_at}

-- This was read.
abbrev pub IsRead : (A E : Type 0) → Result A E → A → Type 0
IsRead A E r x = r ≡ Ok x

-- What came before was read, where the whole was.
pub bind_ok : {A B E : Type 0} (r : Result A E) (f : A → Result B E) (y : B) → (r >>= f) ≡ Ok y
    → (x : A) × (r ≡ Ok x) × (f x ≡ Ok y)
bind_ok (Ok x) f y e = (x, refl, e)
bind_ok (Err d) f y e = absurd cc

module _ {A E : Type 0} where
  -- A test that has to hold did.
  pub took : (b : Bool) (d : E) (x y : A) → cond b (Ok x) (Err d) ≡ Ok y → (b ≡ true) × (x ≡ y)
  took true d x y e = (refl, cc)
  took false d x y e = absurd cc

  -- A test that mustn't hold didn't.
  pub kept : (b : Bool) (d : E) (x y : A) → cond b (Err d) (Ok x) ≡ Ok y → (b ≡ false) × (x ≡ y)
  kept true d x y e = absurd cc
  kept false d x y e = (refl, cc)

module _ {A : Type 0} where
  pub ok_is : (x y : A) → cond true (Ok x) (Err (BadValue 0)) ≡ Ok y → x ≡ y
  ok_is x y e = cc

-- Which of two was read.
pub chosen : {A : Type 0} (b : Bool) (x y z : A) → cond b x y ≡ z → ((b ≡ true) × (x ≡ z)) ⊎ ((b ≡ false) × (y ≡ z))
chosen true x y z e = inl (refl, e)
chosen false x y z e = inr (refl, e)

pub in_range : (total count low high : ℕ) (bytes : List ℕ) (x : ℕ × List ℕ) → number_in total count low high bytes ≡ Ok x
    → (low ≤ x.0) × (x.0 ≤ high)
unfolding number_in
in_range total count low high bytes x e =
    let a = bind_ok (number_at total count bytes) (λ n. cond (ltb n.0 low || ltb high n.0) (refused total bytes) (Ok n)) x e in
    let g = kept (ltb a.0.0 low || ltb high a.0.0) (BadValue (offset total bytes)) a.0 x a.2 in
    let o = or_parts (ltb a.0.0 low) (ltb high a.0.0) g.0 in
    subst (λ (y : ℕ × List ℕ). (low ≤ y.0) × (y.0 ≤ high)) g.1 (ltb-false _ _ o.0, ltb-false _ _ o.1)

pub is_below : (total count end : ℕ) (bytes : List ℕ) (x : ℕ × List ℕ) → number_below total count end bytes ≡ Ok x → x.0 < end
unfolding number_below
is_below total count end bytes x e =
    let a = bind_ok (number_at total count bytes) (λ n. cond (ltb n.0 end) (Ok n) (refused total bytes)) x e in
    let g = took (ltb a.0.0 end) (BadValue (offset total bytes)) a.0 x a.2 in
    subst (λ (y : ℕ × List ℕ). y.0 < end) g.1 (ltb-true _ _ g.0)

pub has_length : (total count : ℕ) (bytes : List ℕ) (x : List ℕ × List ℕ) → bytes_at total count bytes ≡ Ok x → length x.0 ≡ count
unfolding bytes_at
has_length total count bytes x e =
    let g = kept (ltb (length bytes) count) (Truncated (offset total bytes)) (take count bytes, drop count bytes) x e in
    let long : count ≤ length bytes = ltb-false _ _ g.0 in
    subst (λ (y : List ℕ × List ℕ). length y.0 ≡ count) g.1 (omega (arith, length-take count bytes, long))

pub ok_same : {A E : Type 0} (x y : A) → IsRead A E (Ok x) y → x ≡ y
ok_same x y e = cc

module _ {A E : Type 0} where
  -- What holds of each item that is read holds of all, and there are as many as were asked for.
  pub each_holds : (P : A → Type 0) (item : ℕ → List ℕ → Result (A × List ℕ) E)
      → ((i : ℕ) (bytes : List ℕ) (x : A × List ℕ) → item i bytes ≡ Ok x → P x.0)
      → (place count : ℕ) (bytes : List ℕ) (x : List A × List ℕ) → items_at item place count bytes ≡ Ok x
      → All P x.0 × (length x.0 ≡ count)
  unfolding items_at
  each_holds P item holds place zero bytes x e =
      subst (λ (y : List A × List ℕ). All P y.0 × (length y.0 ≡ 0)) (ok_same ([], bytes) x e) (All-nil P, refl)
  each_holds P item holds place (suc count) bytes x e =
      let a = bind_ok (item place bytes) (λ first. items_at item (place + 1) count first.1 >>= λ others. Ok (first.0 ∷ others.0, others.1)) x e in
      let b = bind_ok (items_at item (place + 1) count a.0.1) (λ others. Ok (a.0.0 ∷ others.0, others.1)) x a.2 in
      let rest = each_holds P item holds (place + 1) count a.0.1 b.0 b.1 in
      subst (λ (y : List A × List ℕ). All P y.0 × (length y.0 ≡ suc count)) (ok_same (a.0.0 ∷ b.0.0, b.0.1) x b.2)
      (All-cons P a.0.0 b.0.0 (holds place bytes a.0 a.1) rest.0, ap suc rest.1)

  -- What holds of each item by its place holds of it where it stands.
  pub each_stands : (P : ℕ → A → Type 0) (item : ℕ → List ℕ → Result (A × List ℕ) E)
      → ((i : ℕ) (bytes : List ℕ) (x : A × List ℕ) → item i bytes ≡ Ok x → P i x.0)
      → (place count : ℕ) (bytes : List ℕ) (x : List A × List ℕ) → items_at item place count bytes ≡ Ok x
      → (i : ℕ) (y : A) → IsAt x.0 i y → P (place + i) y
  unfolding items_at
  each_stands P item holds place zero bytes x e i y at =
      absurd (some-ne-none y (sym (subst (λ (z : List A × List ℕ). IsAt z.0 i y) (sym (ok_same ([], bytes) x e)) at)))
  each_stands P item holds place (suc count) bytes x e i y at =
      let a = bind_ok (item place bytes) (λ first. items_at item (place + 1) count first.1 >>= λ others. Ok (first.0 ∷ others.0, others.1)) x e in
      let b = bind_ok (items_at item (place + 1) count a.0.1) (λ others. Ok (a.0.0 ∷ others.0, others.1)) x a.2 in
      let there : IsAt (a.0.0 ∷ b.0.0) i y = subst (λ (z : List A × List ℕ). IsAt z.0 i y) (sym (ok_same (a.0.0 ∷ b.0.0, b.0.1) x b.2)) at in
      by a.0.0 b.0.0 (holds place bytes a.0 a.1) (λ j z. each_stands P item holds (place + 1) count a.0.1 b.0 b.1 j z) i there
    where
      by : (first : A) (others : List A) → P place first → ((j : ℕ) (z : A) → IsAt others j z → P (place + 1 + j) z)
          → (i : ℕ) → IsAt (first ∷ others) i y → P (place + i) y
      by first others here behind zero at =
          let same : place ≡ place + 0 = omega arith in
          subst (λ (k : ℕ). P k y) same (subst (P place) (some-injective first y at) here)
      by first others here behind (suc i) at =
          let same : place + 1 + i ≡ place + suc i = omega arith in
          subst (λ (k : ℕ). P k y) same (behind i y at)
