-- The pieces of a range: none of an empty one, and else the LBAs up to the end of the first unit,
-- and then the pieces of the rest.
use Rattle.std.proofs.Common.{◌≡◌, ℕ, zero, suc, ◌+◌, ◌-◌, ◌<◌, ◌≤◌, min, Bool, true, false, inl, inr, List, [], ◌∷◌, map, refl, sym, ap, ◌∙◌, add-zero, add_assoc, arith}
use Rattle.std.specs.Prelude.{filter, nat_lt, ◌==◌}
use Rattle.std.specs.List.{range_with_len}
use Rattle.std.proofs.lemmas.Bool.{lt-ltb, le-ltb, eq-eqb, ne_eqb, cases_eq}
use Rattle.nvm_geometry.specs.Namespace.{Namespace}
use Rattle.nvm_geometry.specs.Boundaries.{unit_number, units_of}
use Rattle.nvm_geometry.specs.Parts.{blocks_below, blocks_in, units_of_range, units_where, piece_in, pieces_of}
use Rattle.nvm_geometry.proofs.UnitOrder.{count_rises}
use Rattle.nvm_geometry.proofs.Counting.{count_none_pass, count_front_passes, count_front_fails, kept_from}

-- The first n LBAs of the range lie in the unit, and the others in higher ones.
pub record IsFront (ns : Namespace) (at left n unit : ℕ) : Type 0 where
  pub some : 0 < n
  pub inside : n ≤ left
  pub here : (lba : ℕ) → at ≤ lba → lba < at + n → unit_number ns lba ≡ unit
  pub beyond : (lba : ℕ) → at + n ≤ lba → lba < at + left → unit < unit_number ns lba

below_beyond : (ns : Namespace) (at left n unit v : ℕ) → IsFront ns at left n unit → unit < v
    → blocks_below ns at left v ≡ n + blocks_below ns (at + n) (left - n) v
unfolding blocks_below
below_beyond ns at left n unit v front above =
    count_front_passes (λ lba. nat_lt (unit_number ns lba) v) at n left (at + n) (left - n) (omega (arith, front.inside)) refl
    (λ lba low high. lt-ltb _ _ (omega (arith, front.here lba low high)))

pub below_here : (ns : Namespace) (at left n unit : ℕ) → IsFront ns at left n unit → blocks_below ns at left unit ≡ 0
unfolding blocks_below
below_here ns at left n unit front =
    count_none_pass (λ lba. nat_lt (unit_number ns lba) unit) at left
    (λ lba low high. le-ltb (unit_number ns lba) unit
    (omega (arith, front.here at (omega arith) (omega (arith, front.some)), count_rises ns.nabsn ns.nabo at lba low)))

in_beyond : (ns : Namespace) (at left n unit v : ℕ) → IsFront ns at left n unit → unit < v
    → blocks_in ns at left v ≡ blocks_in ns (at + n) (left - n) v
unfolding blocks_in
in_beyond ns at left n unit v front above =
    count_front_fails (λ lba. unit_number ns lba == v) at n left (at + n) (left - n) (omega (arith, front.inside)) refl
    (λ lba low high. ne_eqb _ _ (λ e. omega (arith, front.here lba low high, e)))

in_rest : (ns : Namespace) (at left n unit v : ℕ) → IsFront ns at left n unit → v ≤ unit → blocks_in ns (at + n) (left - n) v ≡ 0
unfolding blocks_in
in_rest ns at left n unit v front low =
    count_none_pass (λ lba. unit_number ns lba == v) (at + n) (left - n)
    (λ lba above below. ne_eqb _ _ (λ e. omega (arith, front.beyond lba above (omega (arith, below, front.inside)), e)))

in_front : (ns : Namespace) (at left n unit : ℕ) → IsFront ns at left n unit → blocks_in ns at left unit ≡ n + blocks_in ns (at + n) (left - n) unit
unfolding blocks_in
in_front ns at left n unit front =
    count_front_passes (λ lba. unit_number ns lba == unit) at n left (at + n) (left - n) (omega (arith, front.inside)) refl
    (λ lba low high. eq-eqb _ _ (front.here lba low high))

pub in_here : (ns : Namespace) (at left n unit : ℕ) → IsFront ns at left n unit → blocks_in ns at left unit ≡ n
in_here ns at left n unit front = omega (arith, in_front ns at left n unit front, in_rest ns at left n unit unit front (omega arith))

in_lower : (ns : Namespace) (at left n unit v : ℕ) → IsFront ns at left n unit → v < unit → blocks_in ns at left v ≡ 0
unfolding blocks_in
in_lower ns at left n unit v front low =
    count_none_pass (λ lba. unit_number ns lba == v) at left
    (λ lba above below. ne_eqb _ _ (λ e.
    omega (arith, front.here at (omega arith) (omega (arith, front.some)), count_rises ns.nabsn ns.nabo at lba above, e)))

kept_none : {X : Type 0} (f : ℕ → X) (a k : ℕ) → map f (filter (λ _. false) (range_with_len a k)) ≡ []
kept_none f a zero = refl
kept_none f a (suc k) = kept_none f (a + 1) k

-- the pieces of an empty range
pub pieces_none : (ns : Namespace) (at : ℕ) → pieces_of ns at 0 ≡ []
unfolding units_where blocks_in
pieces_none ns at = kept_none (piece_in ns at 0) 0 (units_of ns)

-- the piece of the front
piece_front : (ns : Namespace) (at left n unit : ℕ) → IsFront ns at left n unit → piece_in ns at left unit ≡ record { unit = unit; first = at; blocks = n }
piece_front ns at left n unit front =
    rw (below_here ns at left n unit front, in_here ns at left n unit front, add-zero) refl

-- a piece beyond the front is one of the rest
piece_beyond : (ns : Namespace) (at left n unit v : ℕ) → IsFront ns at left n unit → unit < v → piece_in ns at left v ≡ piece_in ns (at + n) (left - n) v
piece_beyond ns at left n unit v front above =
    rw (below_beyond ns at left n unit v front above, in_beyond ns at left n unit v front above, ← add_assoc at n (blocks_below ns (at + n) (left - n) v)) refl

-- the pieces of a range with a front
pub pieces_front : (ns : Namespace) (at left n unit : ℕ) → IsFront ns at left n unit → unit < units_of ns
    → pieces_of ns at left ≡ record { unit = unit; first = at; blocks = n } ∷ pieces_of ns (at + n) (left - n)
unfolding units_where
pieces_front ns at left n unit front known =
    kept_from (λ v. nat_lt 0 (blocks_in ns at left v)) (λ v. nat_lt 0 (blocks_in ns (at + n) (left - n) v))
    (piece_in ns at left) (piece_in ns (at + n) (left - n)) 0 (units_of ns) unit
    (λ v low. le-ltb _ _ (omega (arith, in_lower ns at left n unit v front low)))
    (lt-ltb _ _ (omega (arith, in_here ns at left n unit front, front.some)))
    (λ v low. le-ltb _ _ (omega (arith, in_rest ns at left n unit v front low)))
    (λ v above. rw (in_beyond ns at left n unit v front above) refl)
    (λ v above. piece_beyond ns at left n unit v front above)
    (omega arith) (omega (arith, known))
    ∙ rw (piece_front ns at left n unit front) refl

-- the rest of a unit, or of the range, is a front
pub front_of_unit : (ns : Namespace) (at left n unit first blocks : ℕ) → unit ≡ unit_number ns at → 0 < left → at + left ≤ ns.nsze
    → ((lba : ℕ) → first ≤ lba → lba < first + blocks → unit_number ns lba ≡ unit)
    → ((lba : ℕ) → lba < ns.nsze → unit_number ns lba ≡ unit → (first ≤ lba) × (lba < first + blocks))
    → n ≡ min (first + blocks - at) left → IsFront ns at left n unit
front_of_unit ns at left n unit first blocks here some inside lies whole length =
    let place = whole at (omega (arith, some, inside)) (omega (arith, here)) in
    record {
      some = omega (arith, place.1, some, length);
      inside = omega (arith, length);
      here = λ lba low high. lies lba (omega (arith, place.0, low)) (omega (arith, high, length));
      beyond = λ lba low high.
          elim (cases_eq (unit_number ns lba) unit) [
            | inl same ↦ absurd (omega (arith, (whole lba (omega (arith, high, inside)) same).1, low, high, length))
            | inr other ↦ omega (arith, other, here, count_rises ns.nabsn ns.nabo at lba (omega (arith, low)))
          ];
    }

-- the piece up to the end of the unit, and then the pieces of the rest
pub next_piece : (ns : Namespace) (at left n unit first blocks : ℕ) → unit ≡ unit_number ns at → unit < units_of ns → 0 < left → at + left ≤ ns.nsze
    → ((lba : ℕ) → first ≤ lba → lba < first + blocks → unit_number ns lba ≡ unit)
    → ((lba : ℕ) → lba < ns.nsze → unit_number ns lba ≡ unit → (first ≤ lba) × (lba < first + blocks))
    → n ≡ min (first + blocks - at) left
    → pieces_of ns at left ≡ record { unit = unit; first = at; blocks = n } ∷ pieces_of ns (at + n) (left - n)
next_piece ns at left n unit first blocks here known some inside lies whole length =
    pieces_front ns at left n unit (front_of_unit ns at left n unit first blocks here some inside lies whole length) known

map_same : (xs : List ℕ) → map (λ x. x) xs ≡ xs
map_same [] = refl
map_same (x ∷ xs) = ap (λ ys. x ∷ ys) (map_same xs)

-- the units that a range with a front meets
pub units_front : (ns : Namespace) (at left n unit : ℕ) → IsFront ns at left n unit → unit < units_of ns
    → units_of_range ns at left ≡ unit ∷ units_of_range ns (at + n) (left - n)
unfolding units_where
units_front ns at left n unit front known =
    sym (map_same (filter (λ v. nat_lt 0 (blocks_in ns at left v)) (range_with_len 0 (units_of ns))))
    ∙ kept_from (λ v. nat_lt 0 (blocks_in ns at left v)) (λ v. nat_lt 0 (blocks_in ns (at + n) (left - n) v))
    (λ v. v) (λ v. v) 0 (units_of ns) unit
    (λ v low. le-ltb _ _ (omega (arith, in_lower ns at left n unit v front low)))
    (lt-ltb _ _ (omega (arith, in_here ns at left n unit front, front.some)))
    (λ v low. le-ltb _ _ (omega (arith, in_rest ns at left n unit v front low)))
    (λ v above. rw (in_beyond ns at left n unit v front above) refl)
    (λ v above. refl)
    (omega arith) (omega (arith, known))
    ∙ rw (map_same (filter (λ v. nat_lt 0 (blocks_in ns (at + n) (left - n) v)) (range_with_len 0 (units_of ns)))) refl

-- the first number that passes, and then what another test keeps that agrees above it
pub kept_first : (p q : ℕ → Bool) (n u : ℕ) → ((x : ℕ) → x < u → p x ≡ false) → p u ≡ true
    → ((x : ℕ) → x ≤ u → q x ≡ false)
    → ((x : ℕ) → u < x → p x ≡ q x) → u < n
    → filter p (range_with_len 0 n) ≡ u ∷ filter q (range_with_len 0 n)
kept_first p q n u fails passes none same below =
    sym (map_same (filter p (range_with_len 0 n)))
    ∙ kept_from p q (λ v. v) (λ v. v) 0 n u fails passes none same (λ v above. refl) (omega arith)
    (omega (arith, below))
    ∙ ap (λ vs. u ∷ vs) (map_same (filter q (range_with_len 0 n)))

pub filter_none : (xs : List ℕ) → filter (λ _. false) xs ≡ []
filter_none [] = refl
filter_none (x ∷ xs) = filter_none xs

-- where one number alone passes, it alone is kept
pub kept_one : (p : ℕ → Bool) (n u : ℕ) → p u ≡ true → u < n → ((v : ℕ) → (v ≡ u → ⊥) → p v ≡ false)
    → filter p (range_with_len 0 n) ≡ u ∷ []
kept_one p n u passes below fails =
    kept_first p (λ _. false) n u (λ v low. fails v (λ e. omega (arith, low, e))) passes (λ v low. refl)
    (λ v above. fails v (λ e. omega (arith, above, e))) below
    ∙ ap (λ vs. u ∷ vs) (filter_none (range_with_len 0 n))

-- the units of an empty range
pub units_none : (ns : Namespace) (at : ℕ) → units_of_range ns at 0 ≡ []
unfolding units_where blocks_in
units_none ns at = sym (map_same (filter (λ _. false) (range_with_len 0 (units_of ns)))) ∙ kept_none (λ x. x) 0 (units_of ns)
