-- The data that the parts of a Read answer, joined, is the Read's.
use Rattle.std.proofs.Common.{◌≡◌, ℕ, zero, suc, ◌+◌, ◌-◌, ◌<◌, ◌≤◌, Bool, true, false, ◌||◌, List, [], ◌∷◌, ◌++◌, Option, Some, None, inl, inr, refl, sym, ap, ◌∙◌, append_assoc, add-zero, arith}
use Rattle.std.specs.Prelude.{count_by, filter, nat_lt, ◌==◌}
use Rattle.std.specs.List.{range_with_len}
use Rattle.std.proofs.lemmas.Bool.{cases_Bool, cases_eq, eq-eqb, ne_eqb, ltb-true, ltb-false}
use Rattle.nvm_record.specs.declared.block.Block.{Block}
use Rattle.nvm_record.specs.declared.block.Block.TheVariants.{Bytes, Uncorrectable}
use Rattle.nvm_record.specs.Medium.{Medium, range, has_mark, bytes_of, joined}
use Rattle.nvm_record.specs.Step.{Operation, reads, data_on, data_of}
use Rattle.nvm_record.specs.Deeds.{IsLook, IsOnRange}
use Rattle.nvm_geometry.specs.Namespace.{Namespace}
use Rattle.nvm_geometry.specs.Boundaries.{units_of}
use Rattle.nvm_geometry.specs.Parts.{blocks_below, blocks_in, reached_in, units_met, units_where, part_in}
use Rattle.nvm_geometry.specs.Turns.{IsOrderOf, data_of_part, both_data, joined_data}
use Rattle.nvm_geometry.proofs.Counting.{count_no}
use Rattle.nvm_geometry.proofs.Places.{blocks_below_next, blocks_below_first, blocks_below_all}
use Rattle.nvm_geometry.proofs.Reached.{reached_all}
use Rattle.nvm_geometry.proofs.PartsMedium.{met_among}
use Rattle.nvm_geometry.proofs.PartsSuccess.{part_unchanged}

range_append : (m : Medium) (first a b : ℕ) → range m first (a + b) ≡ range m first a ++ range m (first + a) b
range_append m first zero b =
    let all : 0 + b ≡ b = omega arith in
    rw (all, add-zero first) refl
range_append m first (suc a) b =
    let all : suc a + b ≡ suc (a + b) = omega arith in
    let next : first + suc a ≡ suc first + a = omega arith in
    rw (all, next) (ap (λ bs. m first ∷ bs) (range_append m (suc first) a b))

has_mark-append : (xs ys : List Block) → has_mark (xs ++ ys) ≡ (has_mark xs || has_mark ys)
has_mark-append [] ys = refl
has_mark-append (Bytes bytes ∷ xs) ys = has_mark-append xs ys
has_mark-append (Uncorrectable ∷ xs) ys = refl

joined-append : (xs ys : List Block) → joined (xs ++ ys) ≡ joined xs ++ joined ys
joined-append [] ys = refl
joined-append (x ∷ xs) ys = ap (λ bs. bytes_of x ++ bs) (joined-append xs ys) ∙ sym (append_assoc (bytes_of x) (joined xs) (joined ys))

-- a Read of blocks in a row answers what Reads of the two parts answer, joined
both_read : (xs ys : List Block) → both_data (data_on xs reads) (data_on ys reads) ≡ data_on (xs ++ ys) reads
both_read xs ys =
    elim (cases_Bool (has_mark xs)) [
      | inl t ↦ rw (has_mark-append xs ys, t) refl
      | inr f ↦
          elim (cases_Bool (has_mark ys)) [
            | inl t ↦ rw (has_mark-append xs ys, f, t) refl
            | inr g ↦ rw (has_mark-append xs ys, joined-append xs ys, f, g) refl
          ]
    ]

-- what a Read of the part in the unit answers
abbrev read_part : Namespace → Medium → ℕ → ℕ → ℕ → Option (List ℕ)
read_part ns m first blocks unit = data_on (range m (first + blocks_below ns first blocks unit) (blocks_in ns first blocks unit)) reads

below_rises : (ns : Namespace) (first blocks a k : ℕ) → blocks_below ns first blocks a ≤ blocks_below ns first blocks (a + k)
below_rises ns first blocks a zero = rw (add-zero a) (omega arith)
below_rises ns first blocks a (suc k) =
    let next : a + suc k ≡ a + k + 1 = omega arith in
    rw next (omega (arith, below_rises ns first blocks a k, blocks_below_next ns first blocks (a + k)))

-- the parts in the k units from a on, together
joined_run : (ns : Namespace) (m : Medium) (first blocks a k end n : ℕ) → end ≡ a + k
    → blocks_below ns first blocks a + n ≡ blocks_below ns first blocks end
    → joined_data (read_part ns m first blocks) (range_with_len a k) ≡ data_on (range m (first + blocks_below ns first blocks a) n) reads
joined_run ns m first blocks a zero end n at whole =
    let same : end ≡ a = omega arith in
    let none : n ≡ 0 = omega (arith, rw same at whole) in
    rw none refl
joined_run ns m first blocks a (suc k) end n at whole =
    let later : a + 1 + k ≡ end = omega arith in
    let size = blocks_in ns first blocks a in
    let next = blocks_below_next ns first blocks a in
    let above = rw later at (below_rises ns first blocks (a + 1) k) in
    let rest = joined_run ns m first blocks (a + 1) k end (n - size) (sym later) (omega (arith, next, whole, above)) in
    let start : first + blocks_below ns first blocks (a + 1) ≡ first + blocks_below ns first blocks a + size = omega (arith, next) in
    let long : size + (n - size) ≡ n = omega (arith, next, whole, above) in
    rw rest
    (rw start
    (both_read (range m (first + blocks_below ns first blocks a) size) (range m (first + blocks_below ns first blocks a + size) (n - size))
    ∙ ap (λ bs. data_on bs reads) (sym (range_append m (first + blocks_below ns first blocks a) size (n - size)))
    ∙ ap (λ k. data_on (range m (first + blocks_below ns first blocks a) k) reads) long))

-- a unit that the range doesn't meet adds nothing
joined_kept : (p : ℕ → Bool) (f g : ℕ → Option (List ℕ)) (a k : ℕ) → ((u : ℕ) → u < a + k → p u ≡ true → f u ≡ g u)
    → ((u : ℕ) → p u ≡ false → g u ≡ Some []) → joined_data f (filter p (range_with_len a k)) ≡ joined_data g (range_with_len a k)
joined_kept p f g a zero same none = refl
joined_kept p f g a (suc k) same none =
    let rest = joined_kept p f g (a + 1) k (λ u below t. same u (omega (arith, below)) t) none in
    elim (cases_Bool (p a)) [
      | inl t ↦ rw (t, same a (omega arith) t, rest) refl
      | inr e ↦ rw (e, none a e, rest) (add_nothing (joined_data g (range_with_len (a + 1) k)))
    ]
  where
    add_nothing : (o : Option (List ℕ)) → o ≡ both_data (Some []) o
    add_nothing None = refl
    add_nothing (Some bytes) = refl

-- what a part answers in its turn is what it answers at once
answer_is : (ns : Namespace) (op : Operation) (units : List ℕ) (m : Medium) (unit : ℕ) → IsLook op.deed → 0 < count_by (λ v. v == unit) units
    → data_of_part ns op units m unit ≡ data_of (part_in ns op unit) m
answer_is ns op [] m unit look some = absurd (omega (arith, some))
answer_is ns op (u ∷ units) m unit look some =
    elim (cases_eq u unit) [
      | inl e ↦ rw (e, eq-eqb unit unit refl) refl
      | inr o ↦
          rw (ne_eqb u unit o, part_unchanged ns op u m look)
          (answer_is ns op units m unit look (omega (arith, some, count_no (λ v. v == unit) u units (ne_eqb u unit o))))
    ]

pub parts_data : (ns : Namespace) (op : Operation) (units : List ℕ) (m : Medium) → op.deed ≡ reads → op.first + op.blocks ≤ ns.nsze → IsOrderOf ns op units
    → joined_data (data_of_part ns op units m) (units_met ns op) ≡ data_of op m
unfolding units_where
parts_data ns op units m is_read fits order =
    let look : IsLook op.deed = rw is_read refl in
    let all : IsOnRange op.deed = rw is_read refl in
    joined_kept (λ u. nat_lt 0 (reached_in ns op u)) (data_of_part ns op units m) (read_part ns m op.first op.blocks) 0
    (units_of ns)
    (λ u below t.
    answer_is ns op units m u look
    (met_among ns op units u order (ltb-true 0 (reached_in ns op u) t) (omega (arith, below)))
    ∙ rw is_read refl)
    (λ u f.
    let none : blocks_in ns op.first op.blocks u ≡ 0 =
    omega (arith, ltb-false 0 (reached_in ns op u) f, reached_all ns op u all) in
    rw none refl)
    ∙ joined_run ns m op.first op.blocks 0 (units_of ns) (units_of ns) op.blocks (omega arith)
    (omega (arith, blocks_below_first ns op.first op.blocks, blocks_below_all ns op.first op.blocks fits))
    ∙ rw (blocks_below_first ns op.first op.blocks, add-zero op.first, is_read) refl
