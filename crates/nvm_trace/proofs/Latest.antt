-- A table of the greatest beginnings, one step after the other.
use Rattle.std.proofs.Common.{◌≡◌, ◌≢◌, ◌⊎◌, ℕ, ◌+◌, ◌<◌, ◌≤◌, List, [], ◌∷◌, ◌++◌, max, map, length, take, set, All, get_or, refl, sym, ap, subst, ◌∙◌, inl, inr, arith, length-set, get_or-set_same, get_or-set_other}
use Rattle.std.proofs.lemmas.Bool.{cases_eq, cases_lt}
use Rattle.std.proofs.lemmas.List.{get_or-map, get_or_past, take_more}
use Rattle.std.proofs.lemmas.List.Elements.{Contains-append_left, Contains-push, Contains-push_cases}
use Rattle.nvm_trace.specs.declared.step.Step.{Step}
use Rattle.nvm_trace.specs.Order.{level_of}
use Rattle.nvm_trace.specs.Inside.Latest.{greatest, time_at, HasRoom, IsLatest, HasEachLevel, HasUpToEach, AreRaisedTo}
use Rattle.nvm_trace.proofs.Greatest.{greatest_above, greatest_there}

-- the row of a unit
abbrev pub row_of : List (List ℕ) → ℕ → List ℕ
row_of rows unit = get_or rows unit []

-- Rows of the same lengths have the same places.
pub room_in_same : (rows others : List (List ℕ)) → length others ≡ length rows
    → ((unit : ℕ) → length (row_of others unit) ≡ length (row_of rows unit)) → (s : Step) → HasRoom rows s → HasRoom others s
room_in_same rows others long each s room =
    let same = each s.unit in
    let low = room.0 in
    let within = room.1 in
    (omega (arith, long, low), omega (arith, same, within))

module _ (rows : List (List ℕ)) (unit : ℕ) (row : List ℕ) (low : unit < length rows) where
  pub row_there : row_of (set rows unit row) unit ≡ row
  row_there = get_or-set_same rows unit row [] low

  pub row_elsewhere : (other : ℕ) → other ≢ unit → row_of (set rows unit row) other ≡ row_of rows other
  row_elsewhere other apart = get_or-set_other rows unit other row [] apart

  -- A row was replaced by one as long.
  pub room_after : length row ≡ length (row_of rows unit) → (s : Step) → HasRoom rows s → HasRoom (set rows unit row) s
  room_after long = room_in_same rows (set rows unit row) (length-set rows unit row) same
    where
      same : (other : ℕ) → length (row_of (set rows unit row) other) ≡ length (row_of rows other)
      same other = elim (cases_eq other unit) [
        | inl e ↦
            subst (λ (n : ℕ). length (row_of (set rows unit row) n) ≡ length (row_of rows n)) (sym e) (ap length row_there ∙ long)
        | inr apart ↦ ap length (row_elsewhere other apart)
      ]

module _ (steps : List Step) (s : Step) (unit : ℕ) (Passes : ℕ → Type 0) (time : ℕ) (old : IsLatest steps unit Passes time) where
  -- A step more that isn't of the unit, or doesn't pass, changes nothing.
  pub latest_without : ((s.unit ≡ unit) → Passes (level_of s) → ⊥) → IsLatest (steps ++ s ∷ []) unit Passes time
  latest_without apart = record {
    above = λ t has of passes. elim (Contains-push_cases steps s t has) [
      | inl before ↦ old.above t before of passes
      | inr same ↦ absurd (apart (ap (λ (x : Step). x.unit) same ∙ of) (subst (λ (x : Step). Passes (level_of x)) (sym same) passes))
    ];
    one = λ some. let o = old.one some in (o.0, Contains-append_left steps (s ∷ []) o.0 o.1, o.2, o.3, o.4);
  }

  pub latest_with : s.unit ≡ unit → Passes (level_of s) → IsLatest (steps ++ s ∷ []) unit Passes (max time s.began)
  latest_with of passes = record {
    above = λ t has of passes. elim (Contains-push_cases steps s t has) [
      | inl before ↦ let le = old.above t before of passes in omega (arith, le)
      | inr same ↦ let e : s.began ≡ t.began = ap (λ (x : Step). x.began) same in omega (arith, e)
    ];
    one = λ some. elim (cases_lt time s.began) [
      | inl less ↦ (s, Contains-push steps s, of, passes, omega (arith, less))
      | inr most ↦
          let o = old.one (omega (arith, some, most)) in
          let e = o.4 in
          (o.0, Contains-append_left steps (s ∷ []) o.0 o.1, o.2, o.3, omega (arith, e, most))
    ];
  }

-- a row in which the step's beginning was noted at its level
abbrev pub row_with : List ℕ → Step → List ℕ
row_with row s = set row (level_of s) (max (get_or row (level_of s) 0) s.began)

module _ (steps : List Step) (rows : List (List ℕ)) (s : Step) (room : HasRoom rows s) (old : HasEachLevel steps rows) where
  in_row : (level : ℕ) → (level ≡ level_of s) ⊎ (level ≡ level_of s → ⊥)
      → IsLatest (steps ++ s ∷ []) s.unit (λ l. l ≡ level) (get_or (row_with (row_of rows s.unit) s) level 0)
  in_row level (inl e) =
      let row = row_of rows s.unit in
      subst (λ (n : ℕ). IsLatest (steps ++ s ∷ []) s.unit (λ l. l ≡ n) (get_or (row_with row s) n 0)) (sym e)
      (subst (λ (t : ℕ). IsLatest (steps ++ s ∷ []) s.unit (λ l. l ≡ level_of s) t)
      (sym (get_or-set_same row (level_of s) (max (get_or row (level_of s) 0) s.began) 0 room.1))
      (latest_with steps s s.unit (λ l. l ≡ level_of s) (get_or row (level_of s) 0) (old s.unit (level_of s)) refl refl))
  in_row level (inr apart) =
      let row = row_of rows s.unit in
      subst (λ (t : ℕ). IsLatest (steps ++ s ∷ []) s.unit (λ l. l ≡ level) t)
      (sym (get_or-set_other row (level_of s) level (max (get_or row (level_of s) 0) s.began) 0 apart))
      (latest_without steps s s.unit (λ l. l ≡ level) (get_or row level 0) (old s.unit level) (λ of passes. apart (sym passes)))

  in_table : (unit level : ℕ) → (unit ≡ s.unit) ⊎ (unit ≡ s.unit → ⊥)
      → IsLatest (steps ++ s ∷ []) unit (λ l. l ≡ level) (time_at (set rows s.unit (row_with (row_of rows s.unit) s)) unit level)
  in_table unit level (inl e) =
      let new = row_with (row_of rows s.unit) s in
      subst (λ (n : ℕ). IsLatest (steps ++ s ∷ []) n (λ l. l ≡ level) (time_at (set rows s.unit new) n level)) (sym e)
      (subst (λ (r : List ℕ). IsLatest (steps ++ s ∷ []) s.unit (λ l. l ≡ level) (get_or r level 0)) (sym (row_there rows s.unit new room.0))
      (in_row level (cases_eq level (level_of s))))
  in_table unit level (inr apart) =
      let new = row_with (row_of rows s.unit) s in
      subst (λ (r : List ℕ). IsLatest (steps ++ s ∷ []) unit (λ l. l ≡ level) (get_or r level 0)) (sym (row_elsewhere rows s.unit new room.0 unit apart))
      (latest_without steps s unit (λ l. l ≡ level) (time_at rows unit level) (old unit level) (λ of passes. apart (sym of)))

  -- The step's beginning was noted at its level.
  pub noted : HasEachLevel (steps ++ s ∷ []) (set rows s.unit (row_with (row_of rows s.unit) s))
  noted = λ unit level. in_table unit level (cases_eq unit s.unit)

-- Each row has the greatest up to each of its levels.
pub raised : (steps : List Step) (rows others : List (List ℕ))
    → ((unit level : ℕ) → level < length (row_of rows unit) → time_at others unit level ≡ greatest (take (level + 1) (row_of rows unit)))
    → ((unit : ℕ) → length (row_of others unit) ≡ length (row_of rows unit)) → HasEachLevel steps rows → HasUpToEach steps others
raised steps rows others each long old unit level within =
    subst (λ (t : ℕ). IsLatest steps unit (λ l. l ≤ level) t) (sym (each unit level low))
    (record {
      above =
          λ s has of le.
          let at = (old unit (level_of s)).above s has of refl in
          let le' = greatest_above (row_of rows unit) (level_of s) (level + 1) (omega (arith, le)) (omega (arith, le, low)) in
          omega (arith, at, le');
      one =
          λ some.
          let there = greatest_there (row_of rows unit) (level + 1) some in
          let e = there.3 in
          let o = (old unit there.0).one (omega (arith, some, e)) in
          let same : level_of o.0 ≡ there.0 = o.3 in
          let low' = there.1 in
          let began = o.4 in
          (o.0, o.1, o.2, omega (arith, same, low'), omega (arith, began, e));
    })
  where
    low : level < length (row_of rows unit)
    low = let l = long unit in omega (arith, within, l)

-- What was read of the rows, as the table shows it.
pub row_read : {A : Type 0} → (f : A → List ℕ) (xs : List A) (unit : ℕ) (x : A) → unit < length xs → x ≡ get_or xs unit x
    → f x ≡ row_of (map f xs) unit
row_read f xs unit x low is = ap f is ∙ sym (get_or-map f xs unit x [] low)

-- A step more was noted.
pub all_kept : (rows others : List (List ℕ)) (steps : List Step) → ((s : Step) → HasRoom rows s → HasRoom others s) → All (HasRoom rows) steps
    → All (HasRoom others) steps
all_kept rows others steps kept all = λ k d low. kept (get_or steps k d) (all k d low)

-- The step was read of a list that was lent.
pub room_read : (rows : List (List ℕ)) (xs ys : List Step) (k : ℕ) (d : Step) → xs ≡ ys → All (HasRoom rows) ys → k < length xs
    → HasRoom rows (get_or xs k d)
room_read rows xs ys k d same all low =
    let long = ap length same in
    subst (λ (zs : List Step). HasRoom rows (get_or zs k d)) (sym same) (all k d (omega (arith, long, low)))

pub noted_more : (rows : List (List ℕ)) (xs ys : List Step) (k : ℕ) (d : Step) → xs ≡ ys → k < length xs
    → HasEachLevel (take k ys ++ get_or xs k d ∷ []) rows → HasEachLevel (take (k + 1) ys) rows
noted_more rows xs ys k d same low old =
    let long = ap length same in
    subst (λ (zs : List Step). HasEachLevel zs rows)
    (ap (λ (zs : List Step). take k ys ++ get_or zs k d ∷ []) same ∙ sym (take_more ys k d (omega (arith, long, low)))) old

pub raised_begin : (rows : List (List ℕ)) → AreRaisedTo rows rows 0
raised_begin rows = record {
  long = refl;
  each = λ u. refl;
  raised = λ u level low within. absurd (omega (arith, low));
  left = λ u above. refl;
}

-- The row of one unit more was raised.
pub raised_row : (old rows : List (List ℕ)) (unit : ℕ) (row : List ℕ) → AreRaisedTo old rows unit → unit < length rows
    → length row ≡ length (row_of rows unit)
    → ((k : ℕ) → k < length (row_of rows unit) → get_or row k 0 ≡ greatest (take (k + 1) (row_of rows unit)))
    → AreRaisedTo old (set rows unit row) (unit + 1)
raised_row old rows unit row to low long greatest_up = record {
  long = length-set rows unit row ∙ to.long;
  each = λ u. elim (cases_eq u unit) [
    | inl e ↦
        subst (λ (n : ℕ). length (row_of (set rows unit row) n) ≡ length (row_of old n)) (sym e)
        (ap length (row_there rows unit row low) ∙ long ∙ to.each unit)
    | inr apart ↦ ap length (row_elsewhere rows unit row low u apart) ∙ to.each u
  ];
  raised = λ u level below within. elim (cases_eq u unit) [
    | inl e ↦
        let was = to.left unit (omega arith) in
        let within' : level < length (row_of old unit) = subst (λ (n : ℕ). level < length (row_of old n)) e within in
        let wide = ap length was in
        subst (λ (n : ℕ). time_at (set rows unit row) n level ≡ greatest (take (level + 1) (row_of old n))) (sym e)
        (ap (λ (r : List ℕ). get_or r level 0) (row_there rows unit row low) ∙ greatest_up level (omega (arith, within', wide))
        ∙ ap (λ (r : List ℕ). greatest (take (level + 1) r)) was)
    | inr apart ↦
        ap (λ (r : List ℕ). get_or r level 0) (row_elsewhere rows unit row low u apart) ∙ to.raised u level (omega (arith, below, apart)) within
  ];
  left = λ u above. row_elsewhere rows unit row low u (omega (arith, above)) ∙ to.left u (omega (arith, above));
}

-- All rows were raised.
pub all_raised : (steps : List Step) (old rows : List (List ℕ)) (unit : ℕ) → AreRaisedTo old rows unit → length old ≤ unit
    → HasEachLevel steps old → HasUpToEach steps rows
all_raised steps old rows unit to whole each =
    raised steps old rows (λ u level within. to.raised u level (within_rows u level within) within) to.each each
  where
    within_rows : (u level : ℕ) → level < length (row_of old u) → u < unit
    within_rows u level within = elim (cases_lt u unit) [
      | inl below ↦ below
      | inr above ↦
          let none : row_of old u ≡ [] = get_or_past old u [] (omega (arith, whole, above)) in
          let empty = ap length none in
          absurd (omega (arith, within, empty))
    ]

pub room_raised : (old rows : List (List ℕ)) (unit : ℕ) → AreRaisedTo old rows unit → (s : Step) → HasRoom old s → HasRoom rows s
room_raised old rows unit to = room_in_same old rows to.long to.each

pub room_there : (rows : List (List ℕ)) (steps : List Step) (k : ℕ) (s : Step) → All (HasRoom rows) steps → k < length steps
    → s ≡ get_or steps k s → HasRoom rows s
room_there rows steps k s all low is = subst (λ (t : Step). HasRoom rows t) (sym is) (all k s low)
