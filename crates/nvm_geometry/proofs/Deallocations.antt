-- The units that a Deallocate meets, range by range, and one after the other.
use Rattle.std.proofs.Common.{◌≡◌, ◌↔◌, ℕ, ◌+◌, ◌-◌, ◌<◌, ◌≤◌, Bool, true, false, ◌&&◌, List, [], ◌∷◌, Some, None, inl, inr, refl, sym, ap, ◌∙◌, subst, arith}
use Rattle.std.specs.Prelude.{Contains, filter, nat_le, nat_lt}
use Rattle.std.specs.List.{range_with_len}
use Rattle.std.proofs.lemmas.Bool.{cases_Bool, cases_lt, or_cases, and_from, and_left, and_right, and_parts, ltb-true, le-leb, lt-leb, lt-ltb, le-ltb, false≢true}
use Rattle.std.proofs.lemmas.List.Elements.{All-head, All-tail, filter_agree}
use Rattle.std.proofs.lemmas.List.FromFn.{get_or-map-range_with_len, length-map-range_with_len}
use Rattle.nvm_record.specs.declared.lba_range.LbaRange.{LbaRange}
use Rattle.nvm_record.specs.Ranges.{range_has, ranges_have, range_at, range_count, ranges_of}
use Rattle.nvm_record.specs.Step.{Operation, is_in_range, reaches}
use Rattle.nvm_geometry.specs.Namespace.{Namespace}
use Rattle.nvm_geometry.specs.Boundaries.{unit_number, units_of}
use Rattle.nvm_geometry.specs.Deallocation.{EndInNamespace, deallocation, units_met_from}
use Rattle.nvm_geometry.specs.Lowest.{IsLowest}
use Rattle.nvm_geometry.specs.Parts.{reached_in, meets, units_met, units_where}
use Rattle.nvm_geometry.proofs.Pieces.{filter_none, kept_first}
use Rattle.nvm_geometry.proofs.UnitOrder.{count_rises}
use Rattle.nvm_geometry.proofs.Reached.{reached_known, reached_some, some_reached}
use Rattle.nvm_geometry.proofs.UnitPlaces.{unit_is_met}

-- an LBA of ranges in the namespace lies in it
lba_inside : (ns : Namespace) (rs : List LbaRange) (lba : ℕ) → EndInNamespace ns rs → ranges_have rs lba ≡ true
    → lba < ns.nsze
lba_inside ns [] lba fit have = absurd (cc have)
lba_inside ns (r ∷ rs) lba fit have =
    elim (or_cases (range_has r lba) (ranges_have rs lba) have) [
      | inl here ↦
          let parts = and_parts (nat_le r.first lba) (nat_lt lba (r.first + r.blocks)) here in
          let ends = All-head (λ (x : LbaRange). x.first + x.blocks ≤ ns.nsze) r rs fit in
          omega (arith, ltb-true _ _ parts.1, ends)
      | inr later ↦ lba_inside ns rs lba (All-tail (λ (x : LbaRange). x.first + x.blocks ≤ ns.nsze) r rs fit) later
    ]

-- so the units met are those of the LBAs of the ranges
pub range_is_met : (ns : Namespace) (rs : List LbaRange) (unit : ℕ) → EndInNamespace ns rs
    → Contains (units_met ns (deallocation ns rs)) unit
    ↔ ((lba : ℕ) × (ranges_have rs lba ≡ true) × (unit_number ns lba ≡ unit))
range_is_met ns rs unit fit = (
  (λ met.
      let found = some_reached ns (deallocation ns rs) unit
      ((unit_is_met ns (deallocation ns rs) unit (omega arith)).0 met) in
      let parts = and_parts (ranges_have rs found.0) (is_in_range (deallocation ns rs) found.0) found.1 in
      (found.0, parts.0, found.2)),
  (λ found.
      let below = lba_inside ns rs found.0 fit found.1 in
      let inside : is_in_range (deallocation ns rs) found.0 ≡ true =
      and_from _ _ (le-leb 0 found.0 (omega arith)) (lt-ltb found.0 (0 + ns.nsze) (omega (arith, below))) in
      (unit_is_met ns (deallocation ns rs) unit (omega arith)).1
      (reached_some ns (deallocation ns rs) unit found.0
      (and_from (ranges_have rs found.0) (is_in_range (deallocation ns rs) found.0) found.1 inside) found.2)),
)

-- the range at a place of the data ends in the namespace
pub range_ends : (ns : Namespace) (payload : List ℕ) (place : ℕ) → EndInNamespace ns (ranges_of payload)
    → place < range_count payload
    → (range_at payload place).first + (range_at payload place).blocks ≤ ns.nsze
range_ends ns payload place fit inside =
    let is = get_or-map-range_with_len (range_at payload) 0 (range_count payload) place place (range_at payload place)
    inside (omega arith) in
    let P : LbaRange → Type 0 = λ r. r.first + r.blocks ≤ ns.nsze in
    subst P is (fit place (range_at payload place)
    (omega (arith, inside, length-map-range_with_len (range_at payload) 0 (range_count payload))))

-- and where each does, they all end there
pub ranges_end : (ns : Namespace) (payload : List ℕ)
    → ((k : ℕ) → k < range_count payload → (range_at payload k).first + (range_at payload k).blocks ≤ ns.nsze)
    → EndInNamespace ns (ranges_of payload)
ranges_end ns payload each k d inside =
    let below : k < range_count payload =
    omega (arith, inside, length-map-range_with_len (range_at payload) 0 (range_count payload)) in
    let is = get_or-map-range_with_len (range_at payload) 0 (range_count payload) k k d below (omega arith) in
    let P : LbaRange → Type 0 = λ r. r.first + r.blocks ≤ ns.nsze in
    subst P (sym is) (each k below)

-- a filter of a filter keeps what passes both
filter_twice : (p q : ℕ → Bool) (xs : List ℕ) → filter p (filter q xs) ≡ filter (λ x. q x && p x) xs
filter_twice p q [] = refl
filter_twice p q (x ∷ xs) =
    elim (cases_Bool (q x)) [
      | inl t ↦
          elim (cases_Bool (p x)) [
            | inl s ↦ rw (t, s) (ap (λ ys. x ∷ ys) (filter_twice p q xs))
            | inr f ↦ rw (t, f) (filter_twice p q xs)
          ]
      | inr f ↦ rw f (filter_twice p q xs)
    ]

-- the units from the lowest one on
pub units_from_lowest : (ns : Namespace) (op : Operation) (from unit : ℕ) → unit < units_of ns
    → IsLowest (meets ns op) from (Some unit)
    → units_met_from ns op from ≡ unit ∷ units_met_from ns op (unit + 1)
unfolding units_where
units_from_lowest ns op from unit known lowest =
    filter_twice (λ x. nat_le from x) (λ x. meets ns op x) (range_with_len 0 (units_of ns))
    ∙ kept_first (λ x. meets ns op x && nat_le from x) (λ x. meets ns op x && nat_le (unit + 1) x) (units_of ns) unit
    (λ x below. missed x below)
    (and_from _ _ lowest.1 (le-leb from unit lowest.0))
    (λ x low. and_right (meets ns op x) (nat_le (unit + 1) x) (lt-leb (unit + 1) x (omega (arith, low))))
    (λ x above. rw (le-leb from x (omega (arith, above, lowest.0)), le-leb (unit + 1) x (omega (arith, above))) refl)
    known
    ∙ ap (λ xs. unit ∷ xs)
    (sym (filter_twice (λ x. nat_le (unit + 1) x) (λ x. meets ns op x) (range_with_len 0 (units_of ns))))
  where
    missed : (x : ℕ) → x < unit → (meets ns op x && nat_le from x) ≡ false
    missed x below =
        elim (cases_lt x from) [
          | inl l ↦ and_right (meets ns op x) (nat_le from x) (lt-leb from x l)
          | inr h ↦ and_left (meets ns op x) (nat_le from x) (lowest.2 x h below)
        ]

-- and none, where there is no lowest
pub units_from_none : (ns : Namespace) (op : Operation) (from : ℕ) → IsLowest (meets ns op) from None
    → units_met_from ns op from ≡ []
unfolding units_where
units_from_none ns op from none =
    filter_twice (λ x. nat_le from x) (λ x. meets ns op x) (range_with_len 0 (units_of ns))
    ∙ filter_agree (λ x. meets ns op x && nat_le from x) (λ _. false) missed (range_with_len 0 (units_of ns))
    ∙ filter_none (range_with_len 0 (units_of ns))
  where
    missed : (x : ℕ) → (meets ns op x && nat_le from x) ≡ false
    missed x =
        elim (cases_lt x from) [
          | inl l ↦ and_right (meets ns op x) (nat_le from x) (lt-leb from x l)
          | inr h ↦ and_left (meets ns op x) (nat_le from x) (none x h)
        ]

-- from unit 0 on these are all
pub units_from_first : (ns : Namespace) (op : Operation) → units_met_from ns op 0 ≡ units_met ns op
units_from_first ns op = all (units_met ns op)
  where
    all : (xs : List ℕ) → filter (λ unit. nat_le 0 unit) xs ≡ xs
    all [] = refl
    all (x ∷ xs) = rw (le-leb 0 x (omega arith)) (ap (λ ys. x ∷ ys) (all xs))

-- a unit is met only where the operation reaches an LBA of it
not_met : (ns : Namespace) (op : Operation) (unit : ℕ)
    → ((lba : ℕ) → reaches op lba ≡ true → unit_number ns lba ≡ unit → ⊥)
    → meets ns op unit ≡ false
not_met ns op unit none =
    le-ltb 0 (reached_in ns op unit)
    (elim (cases_lt 0 (reached_in ns op unit)) [
      | inl l ↦ let found = some_reached ns op unit l in absurd (none found.0 found.1 found.2)
      | inr h ↦ h
    ])

-- so the first of the units met is that of the lowest LBA that is reached
pub lowest_lba_first : (ns : Namespace) (op : Operation) (from lba : ℕ) → op.first + op.blocks ≤ ns.nsze
    → reaches op lba ≡ true → from ≤ unit_number ns lba
    → ((x : ℕ) → from ≤ unit_number ns x → x < lba → reaches op x ≡ false)
    → units_met_from ns op from ≡ unit_number ns lba ∷ units_met_from ns op (unit_number ns lba + 1)
lowest_lba_first ns op from lba inside reached above least =
    let some = reached_some ns op (unit_number ns lba) lba reached refl in
    units_from_lowest ns op from (unit_number ns lba) (reached_known ns op (unit_number ns lba) inside some) (
      above,
      lt-ltb 0 (reached_in ns op (unit_number ns lba)) some,
      (λ k low below. not_met ns op k (λ x has here. elim (cases_lt x lba) [
        | inl l ↦ false≢true (sym (least x (omega (arith, low, here)) l) ∙ has)
        | inr h ↦ omega (arith, below, here, count_rises ns.nabsn ns.nabo lba x h)
      ])),
    )

-- and none is met where none is reached
pub no_lba_none : (ns : Namespace) (op : Operation) (from : ℕ)
    → ((x : ℕ) → from ≤ unit_number ns x → reaches op x ≡ false) → units_met_from ns op from ≡ []
no_lba_none ns op from none =
    units_from_none ns op from
    (λ k low. not_met ns op k (λ x has here. false≢true (sym (none x (omega (arith, low, here))) ∙ has)))
