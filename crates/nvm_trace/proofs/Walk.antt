-- Steps of a unit in the order of their levels are a run of the step along the points of the unit's history.
use Rattle.std.proofs.Common.{◌≡◌, ◌⊎◌, ℕ, zero, suc, ◌+◌, ◌*◌, ◌<◌, ◌≤◌, List, [], ◌∷◌, length, get_or, All, Contains, Bool, true, false, cond, refl, sym, ap, subst, ◌∙◌, inl, inr, arith}
use Rattle.std.proofs.lemmas.Bool.{cases_lt, cases_eq}
use Rattle.std.proofs.lemmas.List.Elements.{All-head, All-tail, All-contains}
use mathlib.Core.Bool.{true≢false}
use Rattle.nvm_record.specs.Step.{medium_after}
use Rattle.nvm_geometry.specs.Namespace.{Namespace}
use Rattle.nvm_plan.specs.declared.part.PartResult.{PartResult}
use Rattle.nvm_plan.specs.declared.part.PartResult.TheVariants.{Done, Failed, Looked, NoMemory, Full}
use Rattle.nvm_store.specs.HistoryEntry.{HistoryEntry}
use Rattle.nvm_store.specs.Point.{point}
use Rattle.nvm_trace.specs.Linearization.{TakenStep, operation_taken, HasReplyOn, HaveReplies}
use Rattle.nvm_trace.proofs.Sorting.{Pairwise, IsOrder}

-- A part that ended so made an entry.
abbrev pub made_by : PartResult → Bool
made_by Done = true
made_by Failed = false
made_by Looked = false
made_by NoMemory = false
made_by Full = false

abbrev pub made : TakenStep → Bool
made s = made_by s.part.part.result

abbrev pub point_of : TakenStep → ℕ
point_of s = s.part.part.point

abbrev pub level : TakenStep → ℕ
level s = 2 * point_of s + cond (made s) 1 0

-- The one's level is lower, or it is the same and the one's moment isn't later.
abbrev pub NotAfter : TakenStep → TakenStep → Type 0
NotAfter s t = (level s < level t) ⊎ ((level s ≡ level t) × (s.moment ≤ t.moment))

-- They didn't make the same entry.
abbrev pub MadeApart : TakenStep → TakenStep → Type 0
MadeApart s t = made s ≡ true → made t ≡ true → ¬ (point_of s ≡ point_of t)

pub apart_back : (s t : TakenStep) → MadeApart s t → MadeApart t s
apart_back s t apart second first same = apart first second (sym same)

pub no_lower : (s t : TakenStep) → NotAfter s t → level s ≤ level t
no_lower s t (inl less) = omega (arith, less)
no_lower s t (inr same) = let e = same.0 in omega (arith, e)

-- Any two steps have an order.
pub not_after_order : IsOrder NotAfter
not_after_order = record {
  either = λ s t. elim (cases_lt (level s) (level t)) [
    | inl less ↦ inl (inl less)
    | inr most ↦ elim (cases_lt (level t) (level s)) [
      | inl less ↦ inr (inl less)
      | inr least ↦ elim (cases_lt (s.moment) (t.moment)) [
        | inl early ↦ inl (inr (omega (arith, most, least), omega (arith, early)))
        | inr late ↦ inr (inr (omega (arith, most, least), late))
      ]
    ]
  ];
  next = λ s t u first second. by s t u first second;
}
  where
    by : (s t u : TakenStep) → NotAfter s t → NotAfter t u → NotAfter s u
    by s t u (inl less) second = let le = no_lower t u second in inl (omega (arith, less, le))
    by s t u (inr same) (inl less) = let e = same.0 in inl (omega (arith, less, e))
    by s t u (inr same) (inr also) =
        let e = same.0 in
        let f = also.0 in
        let early = same.1 in
        let later = also.1 in
        inr (omega (arith, e, f), omega (arith, early, later))

level_made : (s : TakenStep) → made s ≡ true → level s ≡ 2 * point_of s + 1
level_made s is = ap (λ (b : Bool). 2 * point_of s + cond b 1 0) is

level_looked : (s : TakenStep) → made s ≡ false → level s ≡ 2 * point_of s + 0
level_looked s is = ap (λ (b : Bool). 2 * point_of s + cond b 1 0) is

pub first_or_behind : {A : Type 0} (y : A) (ys : List A) (x : A) → Contains (y ∷ ys) x → (y ≡ x) ⊎ Contains ys x
first_or_behind y ys x has = go has.0 has.1 has.2
  where
    go : (k : ℕ) → k < length (y ∷ ys) → get_or (y ∷ ys) k x ≡ x → (y ≡ x) ⊎ Contains ys x
    go zero low is = inl is
    go (suc k) low is = inr (k, omega (arith, low), is)

-- the point that a step at this point leaves
abbrev pub point_after : Bool → ℕ → ℕ
point_after true n = n + 1
point_after false n = n

module _ (ns : Namespace) (history : List HistoryEntry) where
  -- The history has come to the step's point, there it has its reply, and it leaves the next point or the same.
  pub record IsRight (s : TakenStep) : Type 0 where
    pub within : point_of s ≤ length history
    pub reply : HasReplyOn ns s (point ns.block_size history (point_of s))
    pub leaves :
        medium_after ns.block_size (operation_taken ns s) (point ns.block_size history (point_of s))
        ≡ point ns.block_size history (point_after (made s) (point_of s))

  -- One of the steps made the entry at this place.
  abbrev pub MakeEntry : List TakenStep → ℕ → Type 0
  MakeEntry steps k = (s : TakenStep) × Contains steps s × (made s ≡ true) × (point_of s ≡ k)

  abbrev MakeRest : ℕ → List TakenStep → Type 0
  MakeRest n steps = (k : ℕ) → n ≤ k → k < length history → MakeEntry steps k

  -- The first of the steps is at the point that all of them come to.
  first_there : (n : ℕ) (s : TakenStep) (steps : List TakenStep) → All (NotAfter s) steps → n ≤ point_of s → point_of s ≤ length history
      → MakeRest n (s ∷ steps) → point_of s ≡ n
  first_there n s steps order from within rest = elim (cases_lt n (point_of s)) [
    | inl less ↦
        let it = rest n (omega arith) (omega (arith, less, within)) in
        let at = it.3 in
        elim (first_or_behind s steps it.0 it.1) [
          | inl same ↦ let p = ap point_of same in absurd (omega (arith, p, at, less))
          | inr behind ↦
              let le = no_lower s it.0 (All-contains (NotAfter s) steps it.0 order behind) in
              let l = level_made it.0 it.2 in
              let low : 2 * point_of s ≤ level s = omega arith in
              absurd (omega (arith, le, l, low, at, less))
        ]
    | inr most ↦ omega (arith, from, most)
  ]

  -- What comes after the step that made an entry is past the entry.
  behind_entry : (n : ℕ) (s t : TakenStep) → made s ≡ true → point_of s ≡ n → NotAfter s t → MadeApart s t → n ≤ point_of t
      → n + 1 ≤ point_of t
  behind_entry n s t is at order apart from = by (made t) refl
    where
      le : level s ≤ level t
      le = no_lower s t order

      l : level s ≡ 2 * point_of s + 1
      l = level_made s is

      by : (b : Bool) → made t ≡ b → n + 1 ≤ point_of t
      by true also = elim (cases_eq (point_of s) (point_of t)) [
        | inl same ↦ absurd (apart is also same)
        | inr other ↦ omega (arith, other, at, from)
      ]
      by false not = let low = level_looked t not in omega (arith, le, l, low, at)

  -- From this point on, the steps have their replies.
  pub walk : (n : ℕ) (steps : List TakenStep) → Pairwise NotAfter steps → Pairwise MadeApart steps → All IsRight steps
      → All (λ s. n ≤ point_of s) steps → MakeRest n steps → HaveReplies ns (point ns.block_size history n) steps
  walk n [] order apart right from rest = tt
  walk n (s ∷ steps) order apart right from rest = (
    subst (λ (k : ℕ). HasReplyOn ns s (point ns.block_size history k)) at is.reply,
    subst (λ m. HaveReplies ns m steps) (sym left)
        (by (λ k low more. walk k steps order.1 apart.1 (All-tail IsRight s steps right) low more) (made s) refl),
  )
    where
      is : IsRight s
      is = All-head IsRight s steps right

      at : point_of s ≡ n
      at = first_there n s steps order.0 (All-head (λ t. n ≤ point_of t) s steps from) is.within rest

      left : medium_after ns.block_size (operation_taken ns s) (point ns.block_size history n)
          ≡ point ns.block_size history (point_after (made s) n)
      left = subst (λ (k : ℕ). medium_after ns.block_size (operation_taken ns s) (point ns.block_size history k)
          ≡ point ns.block_size history (point_after (made s) k)) at is.leaves

      behind : All (λ t. n ≤ point_of t) steps
      behind = All-tail (λ t. n ≤ point_of t) s steps from

      by : ((k : ℕ) → All (λ t. k ≤ point_of t) steps → MakeRest k steps → HaveReplies ns (point ns.block_size history k) steps)
          → (b : Bool) → made s ≡ b → HaveReplies ns (point ns.block_size history (point_after b n)) steps
      by on true entry =
          on (n + 1)
          (λ k d low. behind_entry n s (get_or steps k d) entry at (order.0 k d low) (apart.0 k d low) (behind k d low))
          (λ k above low.
          let it = rest k (omega (arith, above)) low in
          elim (first_or_behind s steps it.0 it.1) [
            | inl same ↦ let p = ap point_of same in let q = it.3 in absurd (omega (arith, p, q, at, above))
            | inr after ↦ (it.0, after, it.2, it.3)
          ])
      by on false none =
          on n behind
          (λ k above low.
          let it = rest k above low in
          elim (first_or_behind s steps it.0 it.1) [
            | inl same ↦ absurd (true≢false (sym it.2 ∙ sym (ap made same) ∙ none))
            | inr after ↦ (it.0, after, it.2, it.3)
          ])
