-- How the count of boundaries rises from LBA to LBA, and where it does.
use Rattle.std.proofs.Common.{◌≡◌, ◌↔◌, inl, inr, ℕ, zero, suc, ◌+◌, ◌*◌, ◌-◌, ◌<◌, ◌≤◌, add-one, arith, min}
use Rattle.std.proofs.lemmas.Bool.{cases_Bool, cases_lt, cases_eq}
use Rattle.std.proofs.Math.Nat.{lt_of_mul-lt-mul_right, mul-le-mul_right}
use Rattle.nvm_geometry.specs.Namespace.{Namespace}
use Rattle.nvm_geometry.specs.Boundaries.{IsBoundary, SharesUnit, Crosses, is_boundary, boundary_count, unit_number, units_of}
use Rattle.nvm_geometry.proofs.BoundaryCount.{IsShift, is_placed, count_zero, count_at_boundary, count_elsewhere, is_boundary_sound, is_boundary_complete}

-- one LBA further, the count is the same or one more
pub count_next : (nabsn nabo lba : ℕ) → (boundary_count nabsn nabo lba ≤ boundary_count nabsn nabo (suc lba)) × (boundary_count nabsn nabo (suc lba) ≤ boundary_count nabsn nabo lba + 1)
count_next nabsn nabo lba =
    elim (cases_Bool (is_boundary nabsn nabo (suc lba))) [
      | inl here ↦ let e = count_at_boundary nabsn nabo lba here in (omega (arith, e), omega (arith, e))
      | inr apart ↦ let e = count_elsewhere nabsn nabo lba apart in (omega (arith, e), omega (arith, e))
    ]

-- the count never falls
pub count_rises : (nabsn nabo a b : ℕ) → a ≤ b → boundary_count nabsn nabo a ≤ boundary_count nabsn nabo b
count_rises nabsn nabo a zero below = let e : a ≡ 0 = omega arith in rw e (omega arith)
count_rises nabsn nabo a (suc b) below =
    elim (cases_lt b a) [
      | inl l ↦ let e : a ≡ suc b = omega arith in rw e (omega arith)
      | inr l ↦ omega (arith, count_rises nabsn nabo a b l, (count_next nabsn nabo b).0)
    ]

-- there are no more boundaries than LBAs above 0
pub count_small : (nabsn nabo lba : ℕ) → boundary_count nabsn nabo lba ≤ lba
count_small nabsn nabo zero = omega (arith, count_zero nabsn nabo)
count_small nabsn nabo (suc lba) = omega (arith, count_small nabsn nabo lba, (count_next nabsn nabo lba).1)

-- an LBA of the namespace lies in one of its units
pub unit_below : (ns : Namespace) (lba : ℕ) → lba < ns.nsze → unit_number ns lba < units_of ns
unit_below ns lba below = omega (arith, count_rises ns.nabsn ns.nabo lba (ns.nsze - 1) (omega arith))

-- where NABSN is 0, all LBAs are in the unit 0
count_without_boundary : (nabo lba : ℕ) → boundary_count 0 nabo lba ≡ 0
count_without_boundary nabo zero = count_zero 0 nabo
count_without_boundary nabo (suc lba) =
    elim (cases_Bool (is_boundary 0 nabo (suc lba))) [
      | inl here ↦ let b = is_boundary_sound 0 nabo (suc lba) here in absurd (omega (arith, b.0))
      | inr apart ↦ omega (arith, count_elsewhere 0 nabo lba apart, count_without_boundary nabo lba)
    ]

pub count_none : (nabsn nabo lba : ℕ) → nabsn ≡ 0 → boundary_count nabsn nabo lba ≡ 0
count_none nabsn nabo lba none = rw none (count_without_boundary nabo lba)

-- the LBAs from which on there is a unit, or a higher one
pub count_reaches : (nabsn nabo shift unit lba : ℕ) → IsShift nabsn nabo shift → 0 < nabsn
    → (unit ≤ boundary_count nabsn nabo lba) ↔ (unit * (nabsn + 1) ≤ lba + shift)
count_reaches nabsn nabo shift unit lba s some =
    let place = is_placed nabsn nabo shift lba s some in (
      (λ h. omega (arith, mul-le-mul_right {m = unit} {n = boundary_count nabsn nabo lba} (nabsn + 1) h, place.low)),
      (λ h. let below : unit * (nabsn + 1) < (boundary_count nabsn nabo lba + 1) * (nabsn + 1) = omega (arith, place.high, h) in
          omega (arith, lt_of_mul-lt-mul_right (nabsn + 1) {m = unit} {n = boundary_count nabsn nabo lba + 1} below)),
    )

-- the first LBA at which the count is at least `unit` has exactly that count
pub count_first : (nabsn nabo unit first : ℕ) → ((lba : ℕ) → (first ≤ lba) ↔ (unit ≤ boundary_count nabsn nabo lba))
    → boundary_count nabsn nabo first ≡ unit
count_first nabsn nabo unit zero reaches = omega (arith, (reaches 0).0 (omega arith), count_zero nabsn nabo)
count_first nabsn nabo unit (suc first) reaches =
    elim (cases_lt (boundary_count nabsn nabo first) unit) [
      | inl l ↦ omega (arith, (reaches (suc first)).0 (omega arith), (count_next nabsn nabo first).1, l)
      | inr l ↦ absurd (omega (arith, (reaches first).1 l))
    ]

-- a unit of the namespace has an LBA before the next unit and before NSZE
pub range_some : (nabsn nabo unit first next nsze : ℕ) → ((lba : ℕ) → (first ≤ lba) ↔ (unit ≤ boundary_count nabsn nabo lba))
    → ((lba : ℕ) → (next ≤ lba) ↔ (unit + 1 ≤ boundary_count nabsn nabo lba)) → 0 < nsze
    → unit < boundary_count nabsn nabo (nsze - 1) + 1 → first < min next nsze
range_some nabsn nabo unit first next nsze reaches passes some below =
    let inside : first ≤ nsze - 1 = (reaches (nsze - 1)).1 (omega (arith, below)) in
    let here = count_first nabsn nabo unit first reaches in
    elim (cases_lt first next) [
      | inl l ↦ omega (arith, l, inside, some)
      | inr l ↦ absurd (omega (arith, (passes first).0 l, here))
    ]

-- a boundary above one LBA and at most another makes the second's count higher
pub count_over_boundary : (nabsn nabo a x b k : ℕ) → 0 < nabsn → x ≡ nabo + k * (nabsn + 1) → a < x → x ≤ b
    → boundary_count nabsn nabo a < boundary_count nabsn nabo b
count_over_boundary nabsn nabo a zero b k some form above below = absurd (omega arith)
count_over_boundary nabsn nabo a (suc x) b k some form above below =
    let here = is_boundary_complete nabsn nabo (suc x) k some (omega arith) form in
    omega (arith, count_rises nabsn nabo a x (omega arith), count_at_boundary nabsn nabo x here, count_rises nabsn nabo (suc x) b below)

-- where the count is higher, a boundary lies between
pub boundary_between : (ns : Namespace) (a b : ℕ) → unit_number ns a < unit_number ns b
    → (lba : ℕ) × IsBoundary ns lba × (a < lba) × (lba ≤ b)
boundary_between ns a zero higher = absurd (omega (arith, count_zero ns.nabsn ns.nabo))
boundary_between ns a (suc b) higher =
    elim (cases_Bool (is_boundary ns.nabsn ns.nabo (suc b))) [
      | inl here ↦
          let s = is_boundary_sound ns.nabsn ns.nabo (suc b) here in
          elim (cases_lt a (suc b)) [
            | inl l ↦ (suc b, record { exists = λ e. absurd (omega (arith, s.0, e)); above = s.1; k = s.2.0; form = s.2.1 }, l, omega arith)
            | inr l ↦ absurd (omega (arith, count_rises ns.nabsn ns.nabo (suc b) a l, higher))
          ]
      | inr apart ↦
          let r = boundary_between ns a b (omega (arith, count_elsewhere ns.nabsn ns.nabo b apart, higher)) in
          (r.0, r.1, r.2, omega (arith, r.3))
    ]

-- a range crosses a boundary exactly where the number of its last LBA is higher than that of its first
pub crosses_higher : (ns : Namespace) (slba blocks : ℕ) → 0 < blocks → unit_number ns slba < unit_number ns (slba + blocks - 1) → Crosses ns slba blocks
crosses_higher ns slba blocks some higher =
    let b = boundary_between ns slba (slba + blocks - 1) higher in
    record { lba = b.0; boundary = b.1; above = b.2; below = omega (arith, b.3) }

-- two LBAs share a unit exactly where they have one number
pub same_number : (ns : Namespace) (a b : ℕ) → SharesUnit ns a b → unit_number ns a ≡ unit_number ns b
same_number ns a b shares =
    elim (cases_lt (unit_number ns a) (unit_number ns b)) [
      | inl l ↦
          elim (cases_lt a b) [
            | inl o ↦ let x = boundary_between ns a b l in absurd (shares x.0 x.1 (omega (arith, x.2)) (omega (arith, x.3)))
            | inr o ↦ omega (arith, count_rises ns.nabsn ns.nabo b a o, l)
          ]
      | inr l ↦
          elim (cases_lt (unit_number ns b) (unit_number ns a)) [
            | inl h ↦
                elim (cases_lt b a) [
                  | inl o ↦ let x = boundary_between ns b a h in absurd (shares x.0 x.1 (omega (arith, x.2)) (omega (arith, x.3)))
                  | inr o ↦ omega (arith, count_rises ns.nabsn ns.nabo a b o, h)
                ]
            | inr h ↦ omega (arith, l, h)
          ]
    ]

pub shares_from_number : (ns : Namespace) (a b : ℕ) → unit_number ns a ≡ unit_number ns b → SharesUnit ns a b
shares_from_number ns a b same lba boundary above below =
    let some : 0 < ns.nabsn = omega (arith, boundary.exists) in
    elim (cases_lt a b) [
      | inl o ↦ omega (arith, same, count_over_boundary ns.nabsn ns.nabo a lba b boundary.k some boundary.form (omega (arith, above, o)) (omega (arith, below, o)))
      | inr o ↦ omega (arith, same, count_over_boundary ns.nabsn ns.nabo b lba a boundary.k some boundary.form (omega (arith, above, o)) (omega (arith, below, o)))
    ]

-- the number rises by 1 at a boundary
pub number_at_boundary : (ns : Namespace) (lba : ℕ) → IsBoundary ns (lba + 1) → unit_number ns (lba + 1) ≡ unit_number ns lba + 1
number_at_boundary ns lba b =
    rw (add-one lba)
    (count_at_boundary ns.nabsn ns.nabo lba
    (is_boundary_complete ns.nabsn ns.nabo (suc lba) b.k (omega (arith, b.exists)) (omega arith) (omega (arith, b.form))))

-- and nowhere else
pub number_elsewhere : (ns : Namespace) (lba : ℕ) → ¬ (IsBoundary ns (lba + 1)) → unit_number ns (lba + 1) ≡ unit_number ns lba
number_elsewhere ns lba apart =
    rw (add-one lba)
    (elim (cases_Bool (is_boundary ns.nabsn ns.nabo (suc lba))) [
      | inl here ↦
          let s = is_boundary_sound ns.nabsn ns.nabo (suc lba) here in
          absurd (apart record { exists = λ e. absurd (omega (arith, s.0, e)); above = omega arith; k = s.2.0; form = omega (arith, s.2.1) })
      | inr f ↦ count_elsewhere ns.nabsn ns.nabo lba f
    ])

-- each number up to that of an LBA is that of an LBA up to it
pub number_reached : (ns : Namespace) (unit last : ℕ) → unit ≤ unit_number ns last → (lba : ℕ) × (lba ≤ last) × (unit_number ns lba ≡ unit)
number_reached ns unit zero known = (0, omega arith, omega (arith, known, count_zero ns.nabsn ns.nabo))
number_reached ns unit (suc last) known =
    elim (cases_eq (unit_number ns (suc last)) unit) [
      | inl e ↦ (suc last, omega arith, e)
      | inr other ↦
          let r = number_reached ns unit last (omega (arith, known, other, (count_next ns.nabsn ns.nabo last).1)) in
          (r.0, omega (arith, r.1), r.2)
    ]

-- the first LBA up to which there are as many boundaries as a unit's number says, lies in the unit
pub number_at_start : (ns : Namespace) (unit first : ℕ) → ((lba : ℕ) → (first ≤ lba) ↔ (unit ≤ unit_number ns lba)) → unit < units_of ns
    → unit_number ns first ≡ unit
number_at_start ns unit first from known =
    let r = number_reached ns unit (ns.nsze - 1) (omega (arith, known)) in
    let low = (from r.0).1 (omega (arith, r.2)) in
    let high = (from first).0 (omega arith) in
    omega (arith, count_rises ns.nabsn ns.nabo first r.0 low, r.2, high)
