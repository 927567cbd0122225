-- The lowest LBAs that a job reaches, range by range.
use Rattle.std.proofs.Common.{◌≡◌, ℕ, ◌+◌, ◌^◌, ◌<◌, ◌≤◌, Bool, true, false, ◌&&◌, ◌||◌, List, [], ◌∷◌, ◌++◌, map, Option, Some, None, IsSome, inl, inr, refl, sym, ap, ◌∙◌, subst, arith}
use Rattle.std.specs.Prelude.{◌↔◌, All, Contains, IfNone, IfSome, IsTrue, filter, nat_le, nat_lt, unwrap_or}
use Rattle.std.specs.List.{range_with_len}
use Rattle.std.proofs.Math.Bool.{or_assoc}
use Rattle.std.proofs.lemmas.Bool.{cases_Bool, cases_lt, or_cases, and_parts, and_from, ltb-true, le-leb, lt-ltb}
use Rattle.std.proofs.lemmas.List.Elements.{All-head, All-tail}
use Rattle.std.proofs.lemmas.Option.{same_Some}
use Rattle.std.proofs.lemmas.List.FromFn.{get_or-map-range_with_len, length-map-range_with_len, map-range_with_len_more}
use Rattle.nvm_record.specs.Deeds.{IsOnRange}
use Rattle.nvm_record.specs.Ranges.{range_has, ranges_have, range_at, range_count, ranges_of}
use Rattle.nvm_record.specs.PayloadRef.{lent_bytes}
use Rattle.nvm_record.specs.Step.{Deed, Operation, is_about, is_in_range, reaches, writes, zeroes, uncorrectable, reads, compares, pairs, deallocates}
use Rattle.nvm_record.specs.declared.lba_range.LbaRange.{LbaRange}
use Rattle.nvm_geometry.specs.Namespace.{Namespace}
use Rattle.nvm_geometry.specs.Boundaries.{unit_number}
use Rattle.nvm_geometry.specs.Deallocation.{deallocation, units_met_from, EndInNamespace}
use Rattle.nvm_geometry.specs.Lowest.{IsLowest}
use Rattle.nvm_geometry.specs.Parts.{part_in, units_met}
use Rattle.nvm_geometry.specs.Place.{IsPlaceOf}
use Rattle.nvm_plan.specs.declared.job.Job.{Job}
use Rattle.nvm_plan.specs.declared.reach.Reach.{Reach}
use Rattle.nvm_plan.specs.declared.reach.Reach.TheVariants.{Range, Ranges}
use Rattle.nvm_plan.specs.Checks.{refusal_of}
use Rattle.nvm_plan.specs.Inside.Reach.{AreFrom, IsReachOf, IsReachedFrom, EndsLow, reach_has}
use Rattle.nvm_plan.specs.JobPart.{job_part_in, job_units}
use Rattle.nvm_plan.specs.Operation.{job_operation_of}
use Rattle.nvm_plan.proofs.JobParts.{some_part}
use Rattle.nvm_plan.proofs.ReachOfJobs.{some_operation}

-- ranges have an LBA where those before the last have it, or the last has
ranges_push : (rs : List LbaRange) (r : LbaRange) (lba : ℕ) → ranges_have (rs ++ r ∷ []) lba ≡ (ranges_have rs lba || range_has r lba)
ranges_push [] r lba =
    elim (cases_Bool (range_has r lba)) [
      | inl t ↦ rw t refl
      | inr f ↦ rw f refl
    ]
ranges_push (x ∷ rs) r lba =
    ap (λ b. range_has x lba || b) (ranges_push rs r lba) ∙ sym (or_assoc (range_has x lba) (ranges_have rs lba) (range_has r lba))

-- so up to the next place of the data
pub ranges_more : (payload : List ℕ) (place lba : ℕ) → ranges_have (map (range_at payload) (range_with_len 0 (place + 1))) lba
    ≡ (ranges_have (map (range_at payload) (range_with_len 0 place)) lba || range_has (range_at payload place) lba)
ranges_more payload place lba =
    ap (λ rs. ranges_have rs lba) (map-range_with_len_more (range_at payload) 0 place place (omega arith))
    ∙ ranges_push (map (range_at payload) (range_with_len 0 place)) (range_at payload place) lba

-- where all ranges end low, the one at a place does
pub range_ends_low : (payload : List ℕ) (place most : ℕ) → All (λ r. r.first + r.blocks ≤ most) (ranges_of payload)
    → place < range_count payload → (range_at payload place).first + (range_at payload place).blocks ≤ most
range_ends_low payload place most fit inside =
    let is = get_or-map-range_with_len (range_at payload) 0 (range_count payload) place place (range_at payload place) inside (omega arith) in
    let P : LbaRange → Type 0 = λ r. r.first + r.blocks ≤ most in
    subst P is (fit place (range_at payload place) (omega (arith, inside, length-map-range_with_len (range_at payload) 0 (range_count payload))))

-- tests that agree have one lowest number
pub lowest_agree : (p q : ℕ → Bool) (from : ℕ) (o : Option ℕ) → ((k : ℕ) → p k ≡ q k) → IsLowest p from o → IsLowest q from o
lowest_agree p q from None same lowest = λ k low. sym (same k) ∙ lowest k low
lowest_agree p q from (Some lba) same lowest =
    (lowest.0, sym (same lba) ∙ lowest.1, (λ k low below. sym (same k) ∙ lowest.2 k low below))

-- a deed that is no Deallocate has to do with each LBA
on_range_reaches : (op : Operation) (lba : ℕ) → IsOnRange op.deed → reaches op lba ≡ is_in_range op lba
on_range_reaches op lba whole = ap (λ b. b && is_in_range op lba) (about op.deed whole)
  where
    about : (deed : Deed) → IsOnRange deed → is_about deed lba ≡ true
    about (writes payload) w = refl
    about zeroes w = refl
    about uncorrectable w = refl
    about reads w = refl
    about (compares payload) w = refl
    about (pairs payload new) w = refl
    about (deallocates ranges) w = absurd (cc w)

-- an LBA of ranges in the namespace lies in it
lba_inside : (most : ℕ) (rs : List LbaRange) (lba : ℕ) → All (λ r. r.first + r.blocks ≤ most) rs → ranges_have rs lba ≡ true → lba < most
lba_inside most [] lba fit have = absurd (cc have)
lba_inside most (r ∷ rs) lba fit have =
    elim (or_cases (range_has r lba) (ranges_have rs lba) have) [
      | inl here ↦
          let parts = and_parts (nat_le r.first lba) (nat_lt lba (r.first + r.blocks)) here in
          let ends = All-head (λ (x : LbaRange). x.first + x.blocks ≤ most) r rs fit in
          omega (arith, ltb-true _ _ parts.1, ends)
      | inr later ↦ lba_inside most rs lba (All-tail (λ (x : LbaRange). x.first + x.blocks ≤ most) r rs fit) later
    ]

-- a Deallocate in the namespace reaches the LBAs of its ranges
ranges_reached : (ns : Namespace) (rs : List LbaRange) (lba : ℕ) → EndInNamespace ns rs → reaches (deallocation ns rs) lba ≡ ranges_have rs lba
ranges_reached ns rs lba fit =
    elim (cases_Bool (ranges_have rs lba)) [
      | inl t ↦
          let inside : is_in_range (deallocation ns rs) lba ≡ true =
          and_from _ _ (le-leb 0 lba (omega arith)) (lt-ltb lba (0 + ns.nsze) (omega (arith, lba_inside ns.nsze rs lba fit t))) in
          and_from (ranges_have rs lba) (is_in_range (deallocation ns rs) lba) t inside ∙ sym t
      | inr f ↦ rw f refl
    ]

-- an LBA that an operation in the namespace reaches lies in it
reached_inside : (ns : Namespace) (op : Operation) (lba : ℕ) → op.first + op.blocks ≤ ns.nsze → reaches op lba ≡ true → lba < ns.nsze
reached_inside ns op lba inside reached =
    let parts = and_parts (is_about op.deed lba) (is_in_range op lba) reached in
    let ends = and_parts (nat_le op.first lba) (nat_lt lba (op.first + op.blocks)) parts.1 in
    omega (arith, ltb-true _ _ ends.1, inside)

-- what a job's operation reaches
reach_reached : (ns : Namespace) (reach : Reach) (op : Operation) → IsReachOf ns reach op
    → ((rs : List LbaRange) → op.deed ≡ deallocates rs → EndInNamespace ns rs)
    → (lba : ℕ) → reaches op lba ≡ reach_has reach lba
reach_reached ns (Range first blocks) op is fit lba =
    on_range_reaches op lba is.0 ∙ ap (λ n. nat_le n lba && nat_lt lba (n + op.blocks)) is.1
    ∙ ap (λ n. nat_le first lba && nat_lt lba (first + n)) is.2
reach_reached ns (Ranges ranges) op is fit lba =
    let rs = ranges_of (lent_bytes ranges) in
    ap (λ (o : Operation). reaches o lba) is ∙ ranges_reached ns rs lba (fit rs (ap (λ (o : Operation). o.deed) is))

-- it ends low, as the namespace does
reach_ends_low : (ns : Namespace) (reach : Reach) (op : Operation) → IsReachOf ns reach op → ns.nsze ≤ 2 ^ 40
    → op.first + op.blocks ≤ ns.nsze → ((rs : List LbaRange) → op.deed ≡ deallocates rs → EndInNamespace ns rs) → EndsLow reach
reach_ends_low ns (Range first blocks) op is small inside fit = omega (arith, is.1, is.2, small, inside)
reach_ends_low ns (Ranges ranges) op is small inside fit =
    let rs = ranges_of (lent_bytes ranges) in
    λ k d below. omega (arith, fit rs (ap (λ (o : Operation). o.deed) is) k d below, small)

-- Of the units from `start` on, which are those of the LBAs from `from` on, the first is that of the lowest LBA which the operation reaches.
first_met : (ns : Namespace) (op : Operation) (start from : ℕ) (o : Option ℕ) (units : List ℕ) → op.first + op.blocks ≤ ns.nsze
    → AreFrom ns start from
    → ((lba : ℕ) → reaches op lba ≡ true → start ≤ unit_number ns lba
    → ((x : ℕ) → start ≤ unit_number ns x → x < lba → reaches op x ≡ false)
    → units_met_from ns op start ≡ unit_number ns lba ∷ units_met_from ns op (unit_number ns lba + 1))
    → (((x : ℕ) → start ≤ unit_number ns x → reaches op x ≡ false) → units_met_from ns op start ≡ [])
    → units ≡ units_met ns op → IsLowest (reaches op) from o
    → IfSome o (λ lba. filter (λ u. nat_le start u) units ≡ unit_number ns lba ∷ filter (λ u. nat_le (unit_number ns lba + 1) u) units)
    × IfNone o (filter (λ u. nat_le start u) units ≡ [])
first_met ns op start from None units inside at first none is lowest =
    (tt, subst (λ (us : List ℕ). filter (λ u. nat_le start u) us ≡ []) (sym is) (none missed))
  where
    missed : (x : ℕ) → start ≤ unit_number ns x → reaches op x ≡ false
    missed x above =
        elim (cases_Bool (reaches op x)) [
          | inl t ↦ lowest x ((at x (reached_inside ns op x inside t)).0 above)
          | inr f ↦ f
        ]
first_met ns op start from (Some lba) units inside at first none is lowest =
    let below = reached_inside ns op lba inside lowest.1 in (
      subst (λ (us : List ℕ). filter (λ u. nat_le start u) us ≡ unit_number ns lba ∷ filter (λ u. nat_le (unit_number ns lba + 1) u) us) (sym is)
          (first lba lowest.1 ((at lba below).1 lowest.0) (λ x above under. lowest.2 x ((at x (omega (arith, under, below))).0 above) under)),
      tt,
    )

-- the lowest LBA that an operation in the namespace reaches lies in it
lowest_inside : (ns : Namespace) (op : Operation) (from : ℕ) (o : Option ℕ) → op.first + op.blocks ≤ ns.nsze → IsLowest (reaches op) from o
    → IfSome o (λ lba. lba < ns.nsze)
lowest_inside ns op from None inside lowest = tt
lowest_inside ns op from (Some lba) inside lowest = reached_inside ns op lba inside lowest.1

-- what is known of a job to which no check applies
module _ (ns : Namespace) (job : Job) (reach : Reach) (stands : IsSome (job_operation_of ns job))
    (reached : (op : Operation) → job_operation_of ns job ≡ Some op → IsReachOf ns reach op)
    (inside : (op : Operation) → job_operation_of ns job ≡ Some op → op.first + op.blocks ≤ ns.nsze)
    (fit : (op : Operation) (rs : List LbaRange) → job_operation_of ns job ≡ Some op → op.deed ≡ deallocates rs
    → (op ≡ deallocation ns rs) × EndInNamespace ns rs) where
  abbrev op : Operation
  op = (some_operation (job_operation_of ns job) stands).0

  is : job_operation_of ns job ≡ Some op
  is = (some_operation (job_operation_of ns job) stands).1

  pub ends_low : ns.nsze ≤ 2 ^ 40 → EndsLow reach
  ends_low small = reach_ends_low ns reach op (reached op is) small (inside op is) (λ rs e. (fit op rs is e).1)

  lowest_of_job : (from : ℕ) (o : Option ℕ) → IsLowest (reach_has reach) from o
      → (q : Operation) → job_operation_of ns job ≡ Some q → IsLowest (reaches q) from o
  lowest_of_job from o lowest q q_is =
      lowest_agree (reach_has reach) (reaches q) from o
      (λ k. sym (reach_reached ns reach q (reached q q_is) (λ rs e. (fit q rs q_is e).1) k)) lowest

  pub reached_from : (from : ℕ) (o : Option ℕ)
      → ((q : Operation) (begin lba : ℕ) → q.first + q.blocks ≤ ns.nsze → reaches q lba ≡ true → begin ≤ unit_number ns lba
      → ((x : ℕ) → begin ≤ unit_number ns x → x < lba → reaches q x ≡ false)
      → units_met_from ns q begin ≡ unit_number ns lba ∷ units_met_from ns q (unit_number ns lba + 1))
      → ((q : Operation) (begin : ℕ) → q.first + q.blocks ≤ ns.nsze
      → ((x : ℕ) → begin ≤ unit_number ns x → reaches q x ≡ false) → units_met_from ns q begin ≡ [])
      → ((q : Operation) → job_operation_of ns job ≡ Some q → job_units ns job ≡ units_met ns q)
      → IsLowest (reach_has reach) from o → IsReachedFrom ns job from o
  reached_from from o first none units lowest =
      let lowest_is = lowest_of_job from o lowest op is in
      let met = λ (start : ℕ) (at : AreFrom ns start from).
      first_met ns op start from o (job_units ns job) (inside op is) at (λ lba. first op start lba (inside op is)) (none op start (inside op is))
      (units op is) lowest_is in
      record {
        lowest = lowest_of_job from o lowest;
        known = lowest_inside ns op from o (inside op is) lowest_is;
        first = λ start at. (met start at).0;
        none = λ start at. (met start at).1;
      }

-- behind the unit of an LBA are the LBAs from its end on
module _ (ns : Namespace) (lba end : ℕ) (rises : (a b : ℕ) → a ≤ b → unit_number ns a ≤ unit_number ns b)
    (next : end < ns.nsze → unit_number ns end ≡ unit_number ns lba + 1)
    (lies : (x : ℕ) → lba ≤ x → x < end → unit_number ns x ≡ unit_number ns lba) where
  behind_end : (x : ℕ) → end ≤ x → x < ns.nsze → unit_number ns lba + 1 ≤ unit_number ns x
  behind_end x from below = omega (arith, rises end x from, next (omega (arith, from, below)))

  end_before : (x : ℕ) → unit_number ns lba + 1 ≤ unit_number ns x → end ≤ x
  end_before x above =
      elim (cases_lt x end) [
        | inl l ↦
            elim (cases_lt x lba) [
              | inl below ↦ absurd (omega (arith, rises x lba (omega (arith, below)), above))
              | inr h ↦ absurd (omega (arith, lies x h l, above))
            ]
        | inr h ↦ h
      ]

  pub from_end : AreFrom ns (unit_number ns lba + 1) end
  from_end x below = (end_before x, (λ from. behind_end x from below))

-- from unit 0 on are all LBAs
pub from_first : (ns : Namespace) → AreFrom ns 0 0
from_first ns x below = ((λ _. omega arith), (λ _. omega arith))

-- A job has a part in a unit exactly where the lowest LBA that it reaches from the unit's first on lies there.
module _ (ns : Namespace) (job : Job) (unit : ℕ) (stands : IsSome (job_operation_of ns job))
    (inside : (op : Operation) → job_operation_of ns job ≡ Some op → op.first + op.blocks ≤ ns.nsze)
    (met : (op : Operation) → op.first + op.blocks ≤ ns.nsze
    → Contains (units_met ns op) unit ↔ ((lba : ℕ) × IsTrue (reaches op lba) × (unit_number ns lba ≡ unit)))
    (part : (op : Operation) → job_operation_of ns job ≡ Some op → Contains (units_met ns op) unit → job_part_in ns job unit ≡ Some (part_in ns op unit))
    (known : (part : Operation) → job_part_in ns job unit ≡ Some part
    → (refusal_of ns job ≡ None) × (op : Operation) × (job_operation_of ns job ≡ Some op) × Contains (units_met ns op) unit × (part ≡ part_in ns op unit)) where
  abbrev whole : (op : Operation) × (job_operation_of ns job ≡ Some op)
  whole = some_operation (job_operation_of ns job) stands

  part_by_lba : (lba : ℕ) → IsTrue (reaches whole.0 lba) → unit_number ns lba ≡ unit → IsSome (job_part_in ns job unit)
  part_by_lba lba has here = rw (part whole.0 whole.1 ((met whole.0 (inside whole.0 whole.1)).1 (lba, has, here))) refl

  lba_of_part : (first blocks : ℕ) → IsPlaceOf ns unit first blocks → IsSome (job_part_in ns job unit)
      → (lba : ℕ) × IsTrue (reaches whole.0 lba) × (first ≤ lba) × (lba < first + blocks)
  lba_of_part first blocks place there =
      let its = some_part (job_part_in ns job unit) there in
      let is = known its.0 its.1 in
      let same = same_Some _ _ (sym is.2 ∙ whole.1) in
      let found = (met whole.0 (inside whole.0 whole.1)).0 (subst (λ (op : Operation). Contains (units_met ns op) unit) same is.3) in
      let at = place.whole found.0 (reached_inside ns whole.0 found.0 (inside whole.0 whole.1) found.1) found.2 in
      (found.0, found.1, at.0, at.1)

  by_lowest : (first blocks : ℕ) (o : Option ℕ) → IsPlaceOf ns unit first blocks → IsLowest (reaches whole.0) first o
      → IsTrue (nat_lt (unwrap_or o (first + blocks)) (first + blocks)) ↔ IsSome (job_part_in ns job unit)
  by_lowest first blocks None place lowest = (
    (λ below. absurd (omega (arith, ltb-true _ _ below))),
    (λ there.
        let found = lba_of_part first blocks place there in
        absurd (cc (found.1, lowest found.0 found.2))),
  )
  by_lowest first blocks (Some lba) place lowest = (
    (λ below. part_by_lba lba lowest.1 (place.lies lba lowest.0 (ltb-true _ _ below))),
    (λ there.
        let found = lba_of_part first blocks place there in
        elim (cases_lt found.0 lba) [
          | inl below ↦ absurd (cc (found.1, lowest.2 found.0 found.2 below))
          | inr above ↦ lt-ltb lba (first + blocks) (omega (arith, found.3, above))
        ]),
  )

  pub part_by_lowest : (first blocks : ℕ) (o : Option ℕ) → IsPlaceOf ns unit first blocks
      → ((op : Operation) → job_operation_of ns job ≡ Some op → IsLowest (reaches op) first o)
      → IsTrue (nat_lt (unwrap_or o (first + blocks)) (first + blocks)) ↔ IsSome (job_part_in ns job unit)
  part_by_lowest first blocks o place lowest = by_lowest first blocks o place (lowest whole.0 whole.1)
