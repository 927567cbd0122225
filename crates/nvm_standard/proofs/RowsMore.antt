-- One more position, and the rows of what was done.
use Rattle.std.proofs.Common.{◌≡◌, ◌≢◌, ℕ, ◌+◌, ◌-◌, ◌<◌, ◌≤◌, inl, inr, List, [], ◌∷◌, ◌++◌, Some, length, replicate, slice_get, slice_index, ap, sym, subst, refl, ◌∙◌, arith}
use Rattle.std.proofs.Math.ListN.{set, get_or-append, length-append}
use Rattle.std.proofs.Math.Seq.{get_or-append_seam}
use Rattle.std.proofs.lemmas.Bool.{cases_eq}
use Rattle.std.proofs.lemmas.List.{length-set, length-replicate, get_or-replicate, get_or_past}
use Rattle.std.proofs.lemmas.Option.{slice_get_within, slice_get-get_or, get_or_from_slice_get}
use Rattle.nvm_standard.specs.PointView.{PointView, TableView}
use Rattle.nvm_standard.specs.declared.point.Presence.TheVariants.{Repeated}
use Rattle.nvm_standard.specs.Fits.{FitsPoint}
use Rattle.nvm_standard.specs.Inside.Done.{AreRows, IsRowOf}
use Rattle.nvm_standard.specs.OrderView.{OrderView, PlacedView}
use Rattle.nvm_standard.specs.Places.{StandsAt, HasBlock, IsDoneAt}
use Rattle.nvm_standard.specs.Presence.{ArePresent}
use Rattle.nvm_standard.proofs.Setting.{set_other, set_same}
use Rattle.nvm_standard.proofs.Standing.{below_or_past, earlier_or_last, some_same}

-- A place where something stands is one of the row's.
pub place_within : (row : List ℕ) (a : ℕ) → slice_index row a ≢ 0 → a < length row
place_within row a ne =
    elim (below_or_past a (length row)) [ inl h ↦ h | inr past ↦ absurd (ne (get_or_past row a 0 past)) ]

pub no_places : (n a : ℕ) → slice_index (replicate n 0) a ≡ 0
no_places n a =
    elim (below_or_past a n) [
      | inl h ↦ get_or-replicate n a 0 0 h
      | inr past ↦ get_or_past (replicate n 0) a 0 (omega (arith, past, length-replicate {A = ℕ}))
    ]

pub empty_row_of : (o : OrderView) (n blocks : ℕ) (q : PointView) (row : List ℕ) → row ≡ replicate blocks 0
    → (q.presence ≢ Repeated → blocks ≡ q.blocks) → IsRowOf o 0 n q row
empty_row_of o n blocks q row is same =
    record {
      all = λ ne. let few = same ne in ap length is ∙ length-replicate blocks 0 ∙ few;
      sound = λ a i there. let none = no_places blocks a in let here = ap (λ (r : List ℕ). slice_index r a) is in absurd (omega (arith, there, none, here));
      early = λ a. let none = no_places blocks a in let here = ap (λ (r : List ℕ). slice_index r a) is in omega (arith, none, here);
      whole = λ ne x i below done. absurd (omega arith);
    }

-- What is done at the last position is what stands there.
done_last : (t : TableView) (o : OrderView) (k n x : ℕ) (p : PlacedView) (q : PointView) → StandsAt t o k p q → IsDoneAt o n x k → (p.point ≡ n) × HasBlock p x
done_last t o k n x p q s done =
    let same : done.p ≡ p = some_same done.p p (sym done.placed ∙ s.placed) in
    (sym (ap (λ (r : PlacedView). r.point) same) ∙ done.its, subst (λ (r : PlacedView). HasBlock r x) same done.block)

sound_more : (t : TableView) (o : OrderView) (k : ℕ) (p : PlacedView) (q : PointView) (row new : List ℕ) → StandsAt t o k p q → FitsPoint t p q
    → IsRowOf o k p.point q row
    → ((a : ℕ) → a < p.first - q.first → slice_index new a ≡ slice_index row a)
    → ((a : ℕ) → p.first - q.first + p.blocks ≤ a → slice_index new a ≡ slice_index row a)
    → ((a : ℕ) → p.first - q.first ≤ a → a < p.first - q.first + p.blocks → slice_index new a ≡ k + 1)
    → (a i : ℕ) → slice_index new a ≡ i + 1 → IsDoneAt o p.point (q.first + a) i
sound_more t o k p q row new s fits is below above noted a i there =
    let low = fits.from in
    elim (below_or_past a (p.first - q.first)) [
      | inl h ↦ is.sound a i (sym (below a h) ∙ there)
      | inr h ↦ elim (below_or_past a (p.first - q.first + p.blocks)) [
        | inr past ↦ is.sound a i (sym (above a past) ∙ there)
        | inl inside ↦
            let here = noted a h inside in
            let e : k ≡ i = omega (arith, here, there) in
            let done : IsDoneAt o p.point (q.first + a) k =
            record { p = p; placed = s.placed; its = refl; block = record { from = omega arith; below = omega arith } } in
            subst (λ (j : ℕ). IsDoneAt o p.point (q.first + a) j) e done
      ]
    ]

whole_more : (t : TableView) (o : OrderView) (k : ℕ) (p : PlacedView) (q : PointView) (row new : List ℕ) → StandsAt t o k p q → FitsPoint t p q
    → IsRowOf o k p.point q row
    → ((a : ℕ) → a < p.first - q.first → slice_index new a ≡ slice_index row a)
    → ((a : ℕ) → p.first - q.first + p.blocks ≤ a → slice_index new a ≡ slice_index row a)
    → ((a : ℕ) → p.first - q.first ≤ a → a < p.first - q.first + p.blocks → slice_index row a ≡ 0)
    → ((a : ℕ) → p.first - q.first ≤ a → a < p.first - q.first + p.blocks → slice_index new a ≡ k + 1)
    → q.presence ≢ Repeated → (x i : ℕ) → i < k + 1 → IsDoneAt o p.point x i → slice_index new (x - q.first) ≡ i + 1
whole_more t o k p q row new s fits is below above free noted ne x i less done =
    let low = fits.from in
    let a = x - q.first in
    elim (earlier_or_last i k less) [
      | inl h ↦
          let old : slice_index row a ≡ i + 1 = is.whole ne x i h done in
          elim (below_or_past a (p.first - q.first)) [
            | inl l ↦ below a l ∙ old
            | inr g ↦ elim (below_or_past a (p.first - q.first + p.blocks)) [
              | inr past ↦ above a past ∙ old
              | inl inside ↦ let none = free a g inside in absurd (omega (arith, none, old))
            ]
          ]
      | inr e ↦
          let last = done_last t o k p.point x p q s (subst (λ (j : ℕ). IsDoneAt o p.point x j) e done) in
          let from = last.1.from in
          let to = last.1.below in
          let here : slice_index new a ≡ k + 1 = noted a (omega (arith, from, low)) (omega (arith, to, from, low)) in
          here ∙ ap (λ (j : ℕ). j + 1) (sym e)
    ]

early_more : (k : ℕ) (p : PlacedView) (q : PointView) (row new : List ℕ) → ((a : ℕ) → slice_index row a ≤ k)
    → ((a : ℕ) → a < p.first - q.first → slice_index new a ≡ slice_index row a)
    → ((a : ℕ) → p.first - q.first + p.blocks ≤ a → slice_index new a ≡ slice_index row a)
    → ((a : ℕ) → p.first - q.first ≤ a → a < p.first - q.first + p.blocks → slice_index new a ≡ k + 1)
    → (a : ℕ) → slice_index new a ≤ k + 1
early_more k p q row new early below above noted a =
    let old = early a in
    elim (below_or_past a (p.first - q.first)) [
      | inl h ↦ let e = below a h in omega (arith, e, old)
      | inr h ↦ elim (below_or_past a (p.first - q.first + p.blocks)) [
        | inr past ↦ let e = above a past in omega (arith, e, old)
        | inl inside ↦ let e = noted a h inside in omega (arith, e)
      ]
    ]

-- The row of what stands there has it noted.
row_more : (t : TableView) (o : OrderView) (k : ℕ) (p : PlacedView) (q : PointView) (row new : List ℕ) → StandsAt t o k p q → FitsPoint t p q
    → IsRowOf o k p.point q row → length new ≡ length row
    → ((a : ℕ) → a < p.first - q.first → slice_index new a ≡ slice_index row a)
    → ((a : ℕ) → p.first - q.first + p.blocks ≤ a → slice_index new a ≡ slice_index row a)
    → ((a : ℕ) → p.first - q.first ≤ a → a < p.first - q.first + p.blocks → slice_index row a ≡ 0)
    → ((a : ℕ) → p.first - q.first ≤ a → a < p.first - q.first + p.blocks → slice_index new a ≡ k + 1)
    → IsRowOf o (k + 1) p.point q new
row_more t o k p q row new s fits is many below above free noted =
    record {
      all = λ ne. many ∙ is.all ne;
      sound = λ a i there. sound_more t o k p q row new s fits is below above noted a i there;
      early = λ a. early_more k p q row new is.early below above noted a;
      whole = λ ne x i less done. whole_more t o k p q row new s fits is below above free noted ne x i less done;
    }

-- Another's row stays.
row_other : (t : TableView) (o : OrderView) (k n : ℕ) (p : PlacedView) (q q' : PointView) (row : List ℕ) → StandsAt t o k p q
    → (p.point ≡ n → q'.presence ≡ Repeated) → IsRowOf o k n q' row → IsRowOf o (k + 1) n q' row
row_other t o k n p q q' row s other is =
    record {
      all = is.all;
      sound = is.sound;
      early = λ a. let old = is.early a in omega (arith, old);
      whole = λ ne x i less done.
          elim (earlier_or_last i k less) [
            | inl h ↦ is.whole ne x i h done
            | inr e ↦ absurd (ne (other (done_last t o k n x p q s (subst (λ (j : ℕ). IsDoneAt o n x j) e done)).0))
          ];
    }

-- What may be done any number of times is noted nowhere.
pub rows_same : (t : TableView) (o : OrderView) (k : ℕ) (p : PlacedView) (q : PointView) (rows : List (List ℕ)) → StandsAt t o k p q
    → q.presence ≡ Repeated → AreRows t o k rows → AreRows t o (k + 1) rows
rows_same t o k p q rows s repeated are =
    record {
      many = are.many;
      each = λ n q' row its at.
          row_other t o k n p q q' row s
          (λ same. let its' : slice_get t.points p.point ≡ Some q' = subst (λ (m : ℕ). slice_get t.points m ≡ Some q') (sym same) its in
          let e : q ≡ q' = some_same q q' (sym s.its ∙ its') in subst (λ (r : PointView). r.presence ≡ Repeated) e repeated)
          (are.each n q' row its at);
    }

pub rows_more : (t : TableView) (o : OrderView) (k : ℕ) (p : PlacedView) (q : PointView) (rows : List (List ℕ)) (row new : List ℕ)
    → StandsAt t o k p q → FitsPoint t p q → AreRows t o k rows → slice_get rows p.point ≡ Some row → length new ≡ length row
    → ((a : ℕ) → a < p.first - q.first → slice_index new a ≡ slice_index row a)
    → ((a : ℕ) → p.first - q.first + p.blocks ≤ a → slice_index new a ≡ slice_index row a)
    → ((a : ℕ) → p.first - q.first ≤ a → a < p.first - q.first + p.blocks → slice_index row a ≡ 0)
    → ((a : ℕ) → p.first - q.first ≤ a → a < p.first - q.first + p.blocks → slice_index new a ≡ k + 1)
    → AreRows t o (k + 1) (set rows p.point new)
rows_more t o k p q rows row new s fits are at many below above free noted =
    record {
      many = length-set rows p.point new ∙ are.many;
      each = λ n q' row' its at'.
          elim (cases_eq n p.point) [
            | inl same ↦
                let its' : slice_get t.points p.point ≡ Some q' = subst (λ (m : ℕ). slice_get t.points m ≡ Some q') same its in
                let e : q ≡ q' = some_same q q' (sym s.its ∙ its') in
                let new_is : new ≡ row' = set_same rows p.point new row' (subst (λ (m : ℕ). slice_get (set rows p.point new) m ≡ Some row') same at') in
                let is : IsRowOf o (k + 1) p.point q new =
                row_more t o k p q row new s fits (are.each p.point q row s.its at) many below above free noted in
                subst (λ (m : ℕ). IsRowOf o (k + 1) m q' row') (sym same)
                (subst (λ (r : PointView). IsRowOf o (k + 1) p.point r row') e (subst (IsRowOf o (k + 1) p.point q) new_is is))
            | inr ne ↦
                row_other t o k n p q q' row' s (λ same. absurd (ne (sym same)))
                (are.each n q' row' its (set_other rows p.point n new row' ne at'))
          ];
    }

-- One more row for a point.
pub rows_push : (o : OrderView) (qs : List PointView) (xs : List (List ℕ)) (new : List ℕ)
    → ((q : PointView) → slice_get qs (length xs) ≡ Some q → IsRowOf o 0 (length xs) q new)
    → ((n : ℕ) (q : PointView) (row : List ℕ) → slice_get qs n ≡ Some q → slice_get xs n ≡ Some row → IsRowOf o 0 n q row)
    → (n : ℕ) (q : PointView) (row : List ℕ) → slice_get qs n ≡ Some q → slice_get (xs ++ new ∷ []) n ≡ Some row → IsRowOf o 0 n q row
rows_push o qs xs new here before n q row its at =
    elim (below_or_past n (length xs)) [
      | inl h ↦
          let old : slice_get xs n ≡ Some row =
          slice_get-get_or xs n new h ∙ ap Some (sym (get_or-append xs (new ∷ []) new n h) ∙ get_or_from_slice_get (xs ++ new ∷ []) n row new at) in
          before n q row its old
      | inr past ↦
          let inside : n < length (xs ++ new ∷ []) = slice_get_within (xs ++ new ∷ []) n row at in
          let e : n ≡ length xs = omega (arith, inside, past, length-append xs (new ∷ [])) in
          let at' : slice_get (xs ++ new ∷ []) (length xs) ≡ Some row = subst (λ (m : ℕ). slice_get (xs ++ new ∷ []) m ≡ Some row) e at in
          let is : new ≡ row = sym (get_or-append_seam xs new [] new) ∙ get_or_from_slice_get (xs ++ new ∷ []) (length xs) row new at' in
          subst (λ (m : ℕ). IsRowOf o 0 m q row) (sym e)
          (subst (IsRowOf o 0 (length xs) q) is (here q (subst (λ (m : ℕ). slice_get qs m ≡ Some q) e its)))
    ]

-- Where each point is there as its presence says, what stands there wasn't done before.
pub free_of_present : (t : TableView) (o : OrderView) (k : ℕ) (p : PlacedView) (q : PointView) (row : List ℕ) → StandsAt t o k p q → FitsPoint t p q
    → q.presence ≢ Repeated → IsRowOf o k p.point q row → ArePresent t o
    → (a : ℕ) → p.first - q.first ≤ a → a < p.first - q.first + p.blocks → slice_index row a ≡ 0
free_of_present t o k p q row s fits ne is present a from to =
    let low = fits.from in
    elim (cases_eq (slice_index row a) 0) [
      | inl none ↦ none
      | inr there ↦
          let v = slice_index row a - 1 in
          let value : slice_index row a ≡ v + 1 = omega (arith, there) in
          let before = is.sound a v value in
          let now : IsDoneAt o p.point (q.first + a) k =
          record { p = p; placed = s.placed; its = refl; block = record { from = omega arith; below = omega arith } } in
          let same = (present p.point q s.its).once ne (q.first + a) v k before now in
          let early = is.early a in
          absurd (omega (arith, value, same, early))
    ]
