-- The count of boundaries, which is defined LBA by LBA, against products: where boundaries are
-- s = NABSN + 1 LBAs apart and the LBA 0 is `shift` LBAs past one, the unit c holds the LBAs
-- from c * s - shift up to (c + 1) * s - shift.
use Rattle.std.proofs.Common.{◌≡◌, inl, inr, ℕ, zero, suc, ◌+◌, ◌*◌, ◌/◌, ◌<◌, ◌≤◌, true, false, eqb, refl, sym, ◌∙◌, arith}
use Rattle.std.proofs.lemmas.Bool.{and_parts, and_from, or_cases, or_left, or_right, eqb-true, eq-eqb, ltb-true, lt-ltb, cases_Bool, false≢true, cases_lt, cases_eq}
use Rattle.std.proofs.Math.Nat.{lt_of_mul-lt-mul_right, le_of_mul-le-mul_right, le-mul_of_pos_right}
use Rattle.std.proofs.lemmas.Nat.{le-div, div_below}
use Rattle.nvm_geometry.specs.Boundaries.{has_form, is_boundary, boundary_count}

-- has_form finds a k
pub has_form_sound : (nabsn nabo most lba : ℕ) → has_form nabsn nabo most lba ≡ true → (k : ℕ) × (lba ≡ nabo + k * (nabsn + 1))
unfolding has_form
has_form_sound nabsn nabo zero lba h = (0, omega (arith, eqb-true lba nabo h))
has_form_sound nabsn nabo (suc most) lba h =
    elim (or_cases (eqb lba (nabo + suc most * (nabsn + 1))) (has_form nabsn nabo most lba) h) [
      | inl e ↦ (suc most, eqb-true _ _ e)
      | inr e ↦ has_form_sound nabsn nabo most lba e
    ]

-- has_form finds every k up to its bound
pub has_form_complete : (nabsn nabo most lba k : ℕ) → k ≤ most → lba ≡ nabo + k * (nabsn + 1) → has_form nabsn nabo most lba ≡ true
unfolding has_form
has_form_complete nabsn nabo zero lba k below form =
    let none : k ≡ 0 = omega arith in
    eq-eqb lba nabo (rw none at form ∙ omega arith)
has_form_complete nabsn nabo (suc most) lba k below form =
    elim (cases_eq k (suc most)) [
      | inl e ↦ or_left _ _ (eq-eqb _ _ (rw e at form))
      | inr n ↦ or_right _ _ (has_form_complete nabsn nabo most lba k (omega arith) form)
    ]

-- the test finds only boundaries
pub is_boundary_sound : (nabsn nabo lba : ℕ) → is_boundary nabsn nabo lba ≡ true
    → (0 < nabsn) × (0 < lba) × ((k : ℕ) × (lba ≡ nabo + k * (nabsn + 1)))
unfolding is_boundary
is_boundary_sound nabsn nabo lba h =
    let some = and_parts _ _ h in
    let above = and_parts _ _ some.1 in
    (ltb-true _ _ some.0, ltb-true _ _ above.0, has_form_sound nabsn nabo lba lba above.1)

-- the test finds each boundary
pub is_boundary_complete : (nabsn nabo lba k : ℕ) → 0 < nabsn → 0 < lba → lba ≡ nabo + k * (nabsn + 1) → is_boundary nabsn nabo lba ≡ true
unfolding is_boundary
is_boundary_complete nabsn nabo lba k some above form =
    let below : k ≤ lba = omega (arith, le-mul_of_pos_right {m = nabsn + 1} k (omega arith)) in
    and_from _ _ (lt-ltb _ _ some) (and_from _ _ (lt-ltb _ _ above) (has_form_complete nabsn nabo lba lba k below form))

-- how far the LBA 0 is past the boundary before it, or where one would be
pub record IsShift (nabsn nabo shift : ℕ) : Type 0 where
  pub none : nabo ≡ 0 → shift ≡ 0
  pub rest : 0 < nabo → nabo + shift ≡ nabsn + 1
  pub offset : nabo ≤ nabsn

-- a product between two neighbouring multiples is the upper one
between : (c q s : ℕ) → 0 < s → c * s < q * s → q * s ≤ (c + 1) * s → q ≡ c + 1
between c q s some above below =
    omega (arith, lt_of_mul-lt-mul_right s {m = c} {n = q} above, le_of_mul-le-mul_right {m = q} {n = c + 1} {k = s} below some)

-- a boundary is a multiple of the distance, seen with the shift
pub boundary_is_multiple : (nabsn nabo shift lba : ℕ) → IsShift nabsn nabo shift → is_boundary nabsn nabo lba ≡ true
    → (q : ℕ) × (lba + shift ≡ q * (nabsn + 1))
boundary_is_multiple nabsn nabo shift lba s h =
    let b = is_boundary_sound nabsn nabo lba h in
    elim (cases_lt 0 nabo) [
      | inl p ↦ (b.2.0 + 1, omega (arith, b.2.1, s.rest p))
      | inr p ↦ (b.2.0, omega (arith, b.2.1, s.none (omega arith)))
    ]

-- a multiple of the distance above the shift is a boundary
pub multiple_is_boundary : (nabsn nabo shift lba q : ℕ) → IsShift nabsn nabo shift → 0 < nabsn → 0 < lba → lba + shift ≡ (q + 1) * (nabsn + 1)
    → is_boundary nabsn nabo lba ≡ true
multiple_is_boundary nabsn nabo shift lba q s some above form =
    elim (cases_lt 0 nabo) [
      | inl p ↦ is_boundary_complete nabsn nabo lba q some above (omega (arith, form, s.rest p))
      | inr p ↦ is_boundary_complete nabsn nabo lba (q + 1) some above (omega (arith, form, s.none (omega arith)))
    ]

-- where the LBA is among the multiples of the distance
pub record IsPlaced (nabsn shift lba count : ℕ) : Type 0 where
  pub low : count * (nabsn + 1) ≤ lba + shift
  pub high : lba + shift < (count + 1) * (nabsn + 1)

pub count_zero : (nabsn nabo : ℕ) → boundary_count nabsn nabo 0 ≡ 0
unfolding boundary_count
count_zero nabsn nabo = refl

pub count_at_boundary : (nabsn nabo lba : ℕ) → is_boundary nabsn nabo (suc lba) ≡ true → boundary_count nabsn nabo (suc lba) ≡ boundary_count nabsn nabo lba + 1
unfolding boundary_count
count_at_boundary nabsn nabo lba h = rw h refl

pub count_elsewhere : (nabsn nabo lba : ℕ) → is_boundary nabsn nabo (suc lba) ≡ false → boundary_count nabsn nabo (suc lba) ≡ boundary_count nabsn nabo lba
unfolding boundary_count
count_elsewhere nabsn nabo lba h = rw h (omega arith)

-- one LBA further, over plain numbers: c is the count so far, s the distance
placed_at_boundary : (c s n shift q : ℕ) → 0 < s → c * s ≤ n + shift → n + shift < (c + 1) * s → n + 1 + shift ≡ q * s → q ≡ c + 1
placed_at_boundary c s n shift q some low high form =
    between c q s some (omega (arith, form)) (omega (arith, form))

pub is_placed : (nabsn nabo shift lba : ℕ) → IsShift nabsn nabo shift → 0 < nabsn → IsPlaced nabsn shift lba (boundary_count nabsn nabo lba)
is_placed nabsn nabo shift zero s some =
    rw (count_zero nabsn nabo) record {
      low = omega arith;
      high = elim (cases_lt 0 nabo) [ inl p ↦ omega (arith, s.rest p) | inr p ↦ omega (arith, s.none (omega arith)) ];
    }
is_placed nabsn nabo shift (suc lba) s some =
    let before = is_placed nabsn nabo shift lba s some in
    elim (cases_Bool (is_boundary nabsn nabo (suc lba))) [
      | inl here ↦
          let m = boundary_is_multiple nabsn nabo shift (suc lba) s here in
          let q = placed_at_boundary (boundary_count nabsn nabo lba) (nabsn + 1) lba shift m.0 (omega arith) before.low before.high (omega (arith, m.1)) in
          let place : lba + 1 + shift ≡ (boundary_count nabsn nabo lba + 1) * (nabsn + 1) = rw (← q) (omega (arith, m.1)) in
          rw (count_at_boundary nabsn nabo lba here) record { low = omega (arith, place); high = omega (arith, place) }
      | inr apart ↦
          let differs : suc lba + shift ≡ (boundary_count nabsn nabo lba + 1) * (nabsn + 1) → ⊥ =
          λ e. false≢true (sym apart ∙ multiple_is_boundary nabsn nabo shift (suc lba) (boundary_count nabsn nabo lba) s some (omega arith) e) in
          rw (count_elsewhere nabsn nabo lba apart) record { low = omega (arith, before.low); high = omega (arith, before.high, differs) }
    ]

-- so the code may divide
pub quotient : (nabsn nabo shift lba : ℕ) → IsShift nabsn nabo shift → 0 < nabsn → (lba + shift) / (nabsn + 1) ≡ boundary_count nabsn nabo lba
quotient nabsn nabo shift lba s some =
    let place = is_placed nabsn nabo shift lba s some in
    omega (
      arith,
      le-div (boundary_count nabsn nabo lba) (lba + shift) (nabsn + 1) (omega arith) place.low,
      div_below (lba + shift) (nabsn + 1) (boundary_count nabsn nabo lba + 1) (omega arith) place.high,
    )
