-- A row is taken away: the last one takes its slot, and what it held becomes what row 0 is.
use Rattle.std.proofs.Common.{◌≡◌, ◌⊎◌, ℕ, suc, ◌+◌, ◌-◌, ◌*◌, ◌<◌, ◌≤◌, List, ◌++◌, append_assoc, length, get_or, take, drop, sym, ap, ◌∙◌, subst, arith, inl, inr}
use mathlib.Core.Option.{some-injective}
use Rattle.std.proofs.Math.Seq.{drop-append-add}
use Rattle.std.proofs.lemmas.Bool.Decides.{eqb_tells, leb_tells}
use Rattle.std.proofs.lemmas.List.{drop-drop, drop-take, length-append, length-drop, length-take-le, take-take}
use Rattle.nvm_record.specs.declared.block.Block.{Block}
use Rattle.nvm_record.specs.Lists.{IsAt}
use Rattle.nvm_store.specs.Inside.Gathered.{row_of, gathered, named, IsGathered}
use Rattle.nvm_store.specs.Inside.Pages.{IsRemoved}
use Rattle.nvm_store.specs.Inside.Rewrite.{IsRewritten}
use Rattle.nvm_store.proofs.AtLemmas.{at_read}
use Rattle.nvm_store.proofs.Gathering.{all_there, at_first, at_gathered, at_row, at_row_back, found, length_gathered, row_before, row_behind, rows_within}
use Rattle.nvm_store.proofs.Rewrites.{at_below}

-- One row fewer: the row `last` takes the slot of row `n`, if that is before it, and the others are as they were.
pub record IsMoved {A : Type 0} (w n last : ℕ) (rows others : List A) : Type 0 where
  pub len : length others ≡ last * w
  pub same : (r : ℕ) → r < last → (r ≡ n → ⊥) → row_of w others r ≡ row_of w rows r
  pub moved : n < last → row_of w others n ≡ row_of w rows last

module _ {A : Type 0} where
  -- The rows that are kept at the front are the same.
  row_kept : (w r m : ℕ) (rows : List A) → r < m → row_of w (take (m * w) rows) r ≡ row_of w rows r
  row_kept w r m rows lt =
      let far = rows_within r m w lt in
      let k = m * w - r * w in
      let whole : m * w ≡ r * w + k = omega (arith, far) in
      ap (λ (l : ℕ). take w (drop (r * w) (take l rows))) whole
      ∙ ap (take w) (drop-take (r * w) k rows)
      ∙ take-take w k (drop (r * w) rows) (omega (arith, far, whole))

  -- The last row alone is cut off.
  pub cut_rows : (w n last : ℕ) (rows : List A) → last ≤ n → length rows ≡ suc last * w → IsMoved w n last rows (take (last * w) rows)
  cut_rows w n last rows le len =
      let far = rows_within last (suc last) w (omega arith) in
      record {
        len = length-take-le (last * w) rows (omega (arith, far, len));
        same = λ r lt off. row_kept w r last rows lt;
        moved = λ lt. absurd (omega (arith, lt, le));
      }

  -- The last row is put over another, and then cut off.
  pub moved_rows : (w n last : ℕ) (rows : List A) → n < last → length rows ≡ suc last * w
      → IsMoved w n last rows (take (last * w) (take (n * w) rows ++ (take w (drop (last * w) rows) ++ drop (n * w + w) rows)))
  moved_rows w n last rows lt len =
      let front = take (n * w) rows in
      let mid = take w (drop (last * w) rows) in
      let rest = drop (n * w + w) rows in
      let all = front ++ (mid ++ rest) in
      let far = rows_within n last w lt in
      let end = rows_within last (suc last) w (omega arith) in
      let len_front : length front ≡ n * w = length-take-le (n * w) rows (omega (arith, far, end, len)) in
      let len_mid : length mid ≡ w = length-take-le w (drop (last * w) rows) (let e = length-drop (last * w) rows in omega (arith, e, end, len)) in
      let len_rest = length-drop (n * w + w) rows in
      let two = length-append mid rest in
      let three = length-append front (mid ++ rest) in
      let len_both = length-append front mid in
      record {
        len = length-take-le (last * w) all (omega (arith, len_front, len_mid, len_rest, two, three, far, end, len));
        same =
            λ r below off.
            row_kept w r last all below
            ∙ elim (leb_tells r n) [
              | inl low ↦
                  let le = low.1 in
                  let lower : r < n = omega (arith, le, off) in
                  let near = rows_within r n w lower in
                  row_before w front (mid ++ rest) r (omega (arith, near, len_front)) ∙ row_kept w r n rows lower
              | inr high ↦
                  let higher = high.1 in
                  let near = rows_within n r w higher in
                  let k = r * w - (n * w + w) in
                  let place : r * w ≡ n * w + w + k = omega (arith, near) in
                  let there : r * w ≡ length (front ++ mid) + k = omega (arith, place, len_both, len_front, len_mid) in
                  ap (λ (l : List A). row_of w l r) (sym (append_assoc front mid rest))
                  ∙ ap (λ (p : ℕ). take w (drop p ((front ++ mid) ++ rest))) there
                  ∙ ap (take w) (drop-append-add (front ++ mid) rest k)
                  ∙ ap (take w) (drop-drop k (n * w + w) rows)
                  ∙ ap (λ (p : ℕ). take w (drop p rows)) (sym place)
            ];
        moved =
            λ below.
            row_kept w n last all below
            ∙ ap (λ (l : List A). row_of w l n) (sym (append_assoc front mid rest))
            ∙ row_before w (front ++ mid) rest n (omega (arith, len_both, len_front, len_mid))
            ∙ row_behind w front mid n len_front len_mid;
      }

-- A place had the last number, and has `n` now.
pub record HadLast (place n m i : ℕ) (old : List ℕ) : Type 0 where
  pub off : i ≡ place → ⊥
  pub now : m ≡ n
  pub below : n < named old
  pub was : IsAt old i (named old)

-- A place had the same number as now, which isn't the last.
pub record HadSame (place m i : ℕ) (old : List ℕ) : Type 0 where
  pub off : i ≡ place → ⊥
  pub below : m < named old
  pub was : IsAt old i m

module _ {A : Type 0} where
  -- What a place had that has `m` now.
  had : (w : ℕ) (thing : A) (rows : List A) (old new : List ℕ) (place n i m : ℕ) → IsGathered w thing rows old → IsAt old place n → 0 < n
      → IsRemoved place n old new → IsAt new i m → ((i ≡ place) × (m ≡ 0)) ⊎ (HadLast place n m i old ⊎ HadSame place m i old)
  had w thing rows old new place n i m is at some gone now =
      elim (eqb_tells i place) [
        | inl here ↦
            let there : IsAt new place m = subst (λ (j : ℕ). IsAt new j m) here.1 now in
            inl (here.1, some-injective m 0 (sym there ∙ gone.none))
        | inr there ↦
            let off : i ≡ place → ⊥ = there.1 in
            let below = at_below new i m now in
            let len = gone.len in
            let was = at_read old i 0 (omega (arith, below, len)) in
            let before = get_or old i 0 in
            elim (eqb_tells before (named old)) [
              | inl last ↦
                  let was_last : IsAt old i (named old) = subst (λ (l : ℕ). IsAt old i l) last.1 was in
                  let moved : IsAt new i n = elim (gone.moved i was_last) [ inl same ↦ absurd (off same) | inr moved ↦ moved ] in
                  let le = is.within place n at in
                  let not : n ≡ named old → ⊥ =
                  λ e.
                  elim (is.once i place (named old) was_last (subst (λ (l : ℕ). IsAt old place l) e at)) [
                    | inl none ↦ omega (arith, none, e, some)
                    | inr same ↦ off same
                  ] in
                  inr (inl (record { off = off; now = some-injective m n (sym now ∙ moved); below = omega (arith, le, not); was = was_last }))
              | inr other ↦
                  let not = other.1 in
                  let le = is.within i before was in
                  let stays : IsAt new i before =
                  elim (gone.others i before was) [
                    | inl last ↦ absurd (not last)
                    | inr rest ↦ elim rest [ inl same ↦ absurd (off same) | inr stays ↦ stays ]
                  ] in
                  let same : before ≡ m = some-injective before m (sym stays ∙ now) in
                  inr (inr (record { off = off; below = omega (arith, le, not, same); was = subst (λ (l : ℕ). IsAt old i l) same was }))
            ]
      ]

  -- Of the number that is taken away there was no other place, unless it is 0.
  no_other : (w : ℕ) (thing : A) (rows : List A) (old : List ℕ) (place n i m : ℕ) → IsGathered w thing rows old → IsAt old place n
      → m ≡ n → (i ≡ place → ⊥) → IsAt old i m → m ≡ 0
  no_other w thing rows old place n i m is at same off was =
      elim (is.once i place m was (subst (λ (l : ℕ). IsAt old place l) (sym same) at)) [ inl none ↦ none | inr here ↦ absurd (off here) ]

  -- The rows that are left have the numbers that are left.
  pub removed : (w : ℕ) (thing : A) (rows others : List A) (old new : List ℕ) (place n : ℕ) → IsGathered w thing rows old → IsAt old place n → 0 < n
      → IsRemoved place n old new → IsMoved w n (named old) rows others → IsGathered w thing others new
  removed w thing rows others old new place n is at some gone moved =
      let count = gone.count in
      record {
        some = is.some;
        first = moved.same 0 (omega (arith, count)) (λ e. omega (arith, e, some)) ∙ is.first;
        count = moved.len ∙ ap (λ (m : ℕ). m * w) count;
        within =
            λ i m now.
            elim (had w thing rows old new place n i m is at some gone now) [
              | inl here ↦ let none = here.1 in omega (arith, none)
              | inr there ↦
                  elim there [
                    | inl last ↦ let e = last.now in let lt = last.below in omega (arith, e, lt, count)
                    | inr same ↦ let lt = same.below in omega (arith, lt, count)
                  ]
            ];
        once =
            λ i j m now_i now_j.
            elim (had w thing rows old new place n i m is at some gone now_i) [
              | inl here ↦ inl here.1
              | inr there ↦
                  elim (had w thing rows old new place n j m is at some gone now_j) [
                    | inl here ↦ inl here.1
                    | inr there' ↦
                        elim there [
                          | inl last ↦
                              elim there' [
                                | inl last' ↦
                                    elim (is.once i j (named old) last.was last'.was) [
                                      | inl none ↦ let lt = last.below in absurd (omega (arith, none, lt))
                                      | inr same ↦ inr same
                                    ]
                                | inr same' ↦ inl (no_other w thing rows old place n j m is at last.now same'.off same'.was)
                              ]
                          | inr same ↦
                              elim there' [
                                | inl last' ↦ inl (no_other w thing rows old place n i m is at last'.now same.off same.was)
                                | inr same' ↦ is.once i j m same.was same'.was
                              ]
                        ]
                  ]
            ];
      }

  -- The row of a number is where it was, or where the last one went.
  same_place : (w : ℕ) (rows others : List A) (r s j : ℕ) (x : A) → row_of w others s ≡ row_of w rows r → j < w
      → IsAt rows (r * w + j) x → IsAt others (s * w + j) x
  same_place w rows others r s j x same lt is =
      (at_row_back w others s j x (subst (λ (l : List A). IsAt l j x) (sym same) (at_row w rows r j x lt is))).1

-- What was gathered is the thing at that place, and elsewhere as it was.
pub removed_is : (w : ℕ) (thing : Block) (rows others : List Block) (old new : List ℕ) (place n : ℕ) → IsGathered w thing rows old → IsAt old place n
    → 0 < n → IsRemoved place n old new → IsMoved w n (named old) rows others
    → IsRewritten (place * w) w (λ _. thing) (gathered w rows old) (gathered w others new)
removed_is w thing rows others old new place n is at some gone moved =
    let is' = removed w thing rows others old new place n is at some gone moved in
    let there = all_there w thing rows old is in
    let there' = all_there w thing others new is' in
    record {
      len = length_gathered w others new there' ∙ ap (λ (m : ℕ). m * w) gone.len ∙ sym (length_gathered w rows old there);
      rewritten = λ i lt. at_gathered w others new place 0 i thing there' gone.none lt (at_first w thing others new i is' lt);
      others =
          λ i block out at_i.
          let it = found w rows old i block there at_i in
          let e = it.place in
          let off : it.k ≡ place → ⊥ =
          λ same.
          let f = ap (λ (m : ℕ). m * w) same in
          let below = it.below in
          elim out [ inl before ↦ omega (arith, before, e, f) | inr after ↦ omega (arith, after, e, f, below) ] in
          let le = is.within it.k it.n it.number in
          subst (λ (p : ℕ). IsAt (gathered w others new) p block) (sym e)
          (elim (eqb_tells it.n (named old)) [
            | inl last ↦
                let was : IsAt old it.k (named old) = subst (λ (m : ℕ). IsAt old it.k m) last.1 it.number in
                let now : IsAt new it.k n = elim (gone.moved it.k was) [ inl same ↦ absurd (off same) | inr now ↦ now ] in
                let le' = is.within place n at in
                let not : n ≡ named old → ⊥ =
                λ same. let none = no_other w thing rows old place n it.k (named old) is at (sym same) off was in omega (arith, none, same, some) in
                let row : row_of w others n ≡ row_of w rows it.n = moved.moved (omega (arith, le', not)) ∙ ap (row_of w rows) (sym last.1) in
                at_gathered w others new it.k n it.j block there' now it.below (same_place w rows others it.n n it.j block row it.below it.is)
            | inr other ↦
                let not_last = other.1 in
                let now : IsAt new it.k it.n =
                elim (gone.others it.k it.n it.number) [
                  | inl last ↦ absurd (not_last last)
                  | inr rest ↦ elim rest [ inl same ↦ absurd (off same) | inr now ↦ now ]
                ] in
                let not : it.n ≡ n → ⊥ =
                λ same. let none = no_other w thing rows old place n it.k it.n is at same off it.number in omega (arith, none, same, some) in
                let row = moved.same it.n (omega (arith, le, not_last)) not in
                at_gathered w others new it.k it.n it.j block there' now it.below (same_place w rows others it.n it.n it.j block row it.below it.is)
          ]);
    }
