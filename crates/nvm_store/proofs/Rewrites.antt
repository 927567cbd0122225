-- A range of blocks is rewritten block by block, or stretch by stretch.
use Rattle.std.proofs.Common.{◌≡◌, ◌⊎◌, ℕ, zero, suc, ◌+◌, ◌-◌, ◌<◌, ◌≤◌, List, [], ◌∷◌, ◌++◌, length, get_or, take, refl, sym, ap, ◌∙◌, subst, arith, inl, inr}
use mathlib.Core.Option.{some-injective, some-ne-none}
use Rattle.std.proofs.Math.ListN.{set}
use Rattle.std.proofs.lemmas.Bool.Decides.{eqb_tells, leb_tells}
use Rattle.std.proofs.lemmas.List.{length-append, length-set, length-take-le}
use Rattle.nvm_record.specs.declared.block.Block.{Block}
use Rattle.nvm_record.specs.Lists.{IsAt}
use Rattle.nvm_store.specs.Inside.Rewrite.{IsRewritten}

module _ {A : Type 0} where
  pub at_set_same : (xs : List A) (i : ℕ) (x : A) → i < length xs → IsAt (set xs i x) i x
  at_set_same [] i x lt = absurd (omega arith)
  at_set_same (y ∷ ys) zero x lt = refl
  at_set_same (y ∷ ys) (suc i) x lt = at_set_same ys i x (omega arith)

  pub at_set_other : (xs : List A) (i j : ℕ) (x y : A) → (j ≡ i → ⊥) → IsAt xs j y → IsAt (set xs i x) j y
  at_set_other [] i j x y off at = at
  at_set_other (z ∷ zs) zero zero x y off at = absurd (off refl)
  at_set_other (z ∷ zs) zero (suc j) x y off at = at
  at_set_other (z ∷ zs) (suc i) zero x y off at = at
  at_set_other (z ∷ zs) (suc i) (suc j) x y off at = at_set_other zs i j x y (λ e. off (ap suc e)) at

  pub at_below : (xs : List A) (i : ℕ) (x : A) → IsAt xs i x → i < length xs
  at_below [] i x e = absurd (some-ne-none x (sym e))
  at_below (y ∷ ys) zero x e = omega arith
  at_below (y ∷ ys) (suc i) x e = let h = at_below ys i x e in omega arith

  pub get_or_at_place : (xs : List A) (i : ℕ) (x d : A) → IsAt xs i x → get_or xs i d ≡ x
  get_or_at_place [] i x d e = absurd (some-ne-none x (sym e))
  get_or_at_place (y ∷ ys) zero x d e = some-injective y x e
  get_or_at_place (y ∷ ys) (suc i) x d e = get_or_at_place ys i x d e

  -- What is in two lists, one after the other, is in one of them.
  pub at_append : (xs ys : List A) (i : ℕ) (y : A) → IsAt (xs ++ ys) i y
      → IsAt xs i y ⊎ ((k : ℕ) × (i ≡ length xs + k) × IsAt ys k y)
  at_append [] ys i y e = inr (i, omega arith, e)
  at_append (x ∷ xs) ys zero y e = inl e
  at_append (x ∷ xs) ys (suc i) y e =
      elim (at_append xs ys i y e) [
        | inl here ↦ inl here
        | inr there ↦ let place : i ≡ length xs + there.0 = there.1 in inr (there.0, omega arith, there.2)
      ]

  pub at_append_left : (xs ys : List A) (i : ℕ) (x : A) → IsAt xs i x → IsAt (xs ++ ys) i x
  at_append_left [] ys i x e = absurd (some-ne-none x (sym e))
  at_append_left (y ∷ xs) ys zero x e = e
  at_append_left (y ∷ xs) ys (suc i) x e = at_append_left xs ys i x e

  pub at_append_right : (xs ys : List A) (k : ℕ) (y : A) → IsAt ys k y → IsAt (xs ++ ys) (length xs + k) y
  at_append_right [] ys k y e = let n : 0 + k ≡ k = omega arith in rw n e
  at_append_right (x ∷ xs) ys k y e = let n : suc (length xs) + k ≡ suc (length xs + k) = omega arith in rw n (at_append_right xs ys k y e)

  pub at_end : (xs ys : List A) (x : A) → IsAt (xs ++ x ∷ ys) (length xs) x
  at_end [] ys x = refl
  at_end (y ∷ xs) ys x = at_end xs ys x

  pub at_take_back : (n : ℕ) (xs : List A) (i : ℕ) (y : A) → IsAt (take n xs) i y → IsAt xs i y × (i < n)
  at_take_back zero xs i y e = absurd (some-ne-none y (sym e))
  at_take_back (suc n) [] i y e = absurd (some-ne-none y (sym e))
  at_take_back (suc n) (x ∷ xs) zero y e = (e, omega arith)
  at_take_back (suc n) (x ∷ xs) (suc i) y e = let h = at_take_back n xs i y e in let lt : i < n = h.1 in (h.0, omega arith)

  pub at_take : (n : ℕ) (xs : List A) (i : ℕ) (y : A) → IsAt xs i y → i < n → IsAt (take n xs) i y
  at_take zero xs i y e lt = absurd (omega arith)
  at_take (suc n) [] i y e lt = e
  at_take (suc n) (x ∷ xs) zero y e lt = e
  at_take (suc n) (x ∷ xs) (suc i) y e lt = at_take n xs i y e (omega arith)

-- One more block is put after those that are already new.
pub rewritten_more : (at i place : ℕ) (news : ℕ → Block) (old mid new : List Block) → IsRewritten at i news old mid → place ≡ at + i
    → place < length old → new ≡ set mid place (news i) → IsRewritten at (i + 1) news old new
rewritten_more at i place news old mid new so_far here below put = record {
  len = ap length put ∙ length-set mid place (news i) ∙ so_far.len;
  rewritten =
      λ j lt.
      elim (eqb_tells j i) [
        | inl same ↦
            let is : j ≡ i = same.1 in
            let there : at + j ≡ place = omega arith in
            let len : length mid ≡ length old = so_far.len in
            rw (there, is, put) (at_set_same mid place (news i) (omega arith))
        | inr other ↦
            let not : j ≡ i → ⊥ = other.1 in
            rw put
            (at_set_other mid place (at + j) (news i) (news j) (λ e. not (omega arith)) (so_far.rewritten j (omega arith)))
      ];
  others =
      λ j block out is.
      let off : j ≡ place → ⊥ = λ e. elim out [ inl low ↦ omega arith | inr high ↦ omega arith ] in
      let out' : (j < at) ⊎ (at + i ≤ j) = elim out [ inl low ↦ inl low | inr high ↦ inr (omega arith) ] in
      rw put (at_set_other mid place j (news i) block off (so_far.others j block out' is));
}

pub rewritten_none : (at : ℕ) (news : ℕ → Block) (old : List Block) → IsRewritten at 0 news old old
rewritten_none at news old = record { len = refl; rewritten = λ j lt. absurd (omega arith); others = λ j block out is. is }

-- Where all blocks are new, it doesn't matter which there were.
pub rewritten_all : (n : ℕ) (news : ℕ → Block) (old new : List Block) → length new ≡ n → length old ≡ n
    → ((i : ℕ) → i < n → IsAt new i (news i)) → IsRewritten 0 n news old new
rewritten_all n news old new count same at = record {
  len = count ∙ sym same;
  rewritten = λ i lt. let here : 0 + i ≡ i = omega arith in rw here (at i lt);
  others =
      λ j block out is.
      let below : j < length old = at_below old j block is in
      absurd (elim out [ inl low ↦ omega arith | inr high ↦ omega (arith, below, same) ]);
}

-- What is new may be said otherwise.
pub rewritten_same : (at n : ℕ) (news others : ℕ → Block) (old new : List Block) → ((i : ℕ) → i < n → news i ≡ others i)
    → IsRewritten at n news old new → IsRewritten at n others old new
rewritten_same at n news others old new same put = record {
  len = put.len;
  rewritten = λ i lt. subst (λ (b : Block). IsAt new (at + i) b) (same i lt) (put.rewritten i lt);
  others = put.others;
}

-- Some more blocks are put after those that are already new.
pub rewritten_on : (at i n place : ℕ) (news : ℕ → Block) (old mid new : List Block) → IsRewritten at i news old mid → place ≡ at + i
    → IsRewritten place n (λ j. news (i + j)) mid new → IsRewritten at (i + n) news old new
rewritten_on at i n place news old mid new so_far here put = record {
  len = put.len ∙ so_far.len;
  rewritten =
      λ j lt.
      elim (leb_tells i j) [
        | inl high ↦
            let le : i ≤ j = high.1 in
            let k = j - i in
            let is : i + k ≡ j = omega arith in
            let there : place + k ≡ at + j = omega arith in
            subst (λ (m : ℕ). IsAt new m (news j)) there
            (subst (λ (m : ℕ). IsAt new (place + k) (news m)) is (put.rewritten k (omega arith)))
        | inr low ↦
            let lt' : j < i = low.1 in
            put.others (at + j) (news j) (inl (omega arith)) (so_far.rewritten j lt')
      ];
  others =
      λ j block out is.
      let before : (j < at) ⊎ (at + i ≤ j) = elim out [ inl low ↦ inl low | inr high ↦ inr (omega arith) ] in
      let now : (j < place) ⊎ (place + n ≤ j) = elim out [ inl low ↦ inl (omega arith) | inr high ↦ inr (omega arith) ] in
      put.others j block now (so_far.others j block before is);
}

-- Blocks that are the new ones already stay.
pub rewritten_as_they_were : (at n : ℕ) (news : ℕ → Block) (old : List Block) → ((i j : ℕ) → i < n → IsAt old (at + i) (news j))
    → IsRewritten at n news old old
rewritten_as_they_were at n news old same = record { len = refl; rewritten = λ i lt. same i i lt; others = λ j block out is. is }

-- So may those after blocks that are already new.
pub rewritten_on_as_they_were : (at i n place : ℕ) (news : ℕ → Block) (old new : List Block) → IsRewritten at i news old new → place ≡ at + i
    → ((j k : ℕ) → j < n → IsAt old (place + j) (news k)) → IsRewritten at (i + n) news old new
rewritten_on_as_they_were at i n place news old new so_far here same =
    rewritten_on at i n place news old new new so_far here
    (rewritten_as_they_were place n (λ j. news (i + j)) new
    (λ j k lt. so_far.others (place + j) (news (i + k)) (inr (omega arith)) (same j (i + k) lt)))

-- So are the blocks at the front, where the range lies in it.
pub rewritten_front : (at n count : ℕ) (news : ℕ → Block) (old new : List Block) → at + n ≤ count → count ≤ length old
    → IsRewritten at n news old new → IsRewritten at n news (take count old) (take count new)
rewritten_front at n count news old new within enough put =
    let same : length new ≡ length old = put.len in
    record {
      len = length-take-le count new (omega arith) ∙ sym (length-take-le count old enough);
      rewritten = λ i lt. at_take count new (at + i) (news i) (put.rewritten i lt) (omega arith);
      others =
          λ j block out is.
          let back = at_take_back count old j block is in
          at_take count new j block (put.others j block out back.0) back.1;
    }

-- So are they with others before them, and with others after them.
others_behind_one : (at n : ℕ) (news : ℕ → Block) (x : Block) (old new : List Block) → IsRewritten at n news old new → (j : ℕ) (block : Block)
    → (j < suc at) ⊎ (suc at + n ≤ j) → IsAt (x ∷ old) j block → IsAt (x ∷ new) j block
others_behind_one at n news x old new put zero block out is = is
others_behind_one at n news x old new put (suc j) block out is =
    let out' : (j < at) ⊎ (at + n ≤ j) = elim out [ inl low ↦ inl (omega arith) | inr high ↦ inr (omega arith) ] in
    put.others j block out' is

pub rewritten_behind : (front : List Block) (at n place : ℕ) (news : ℕ → Block) (old new : List Block) → place ≡ length front + at
    → IsRewritten at n news old new → IsRewritten place n news (front ++ old) (front ++ new)
rewritten_behind [] at n place news old new e put = let here : place ≡ at = omega arith in rw here put
rewritten_behind (x ∷ front) at n place news old new e put =
    let inner = length front + at in
    let here : place ≡ suc inner = omega arith in
    let rest = rewritten_behind front at n inner news old new refl put in
    rw here
    (record {
      len = ap suc rest.len;
      rewritten = λ i lt. let there : suc inner + i ≡ suc (inner + i) = omega arith in rw there (rest.rewritten i lt);
      others = others_behind_one inner n news x (front ++ old) (front ++ new) rest;
    })

pub rewritten_before : (rest : List Block) (at n : ℕ) (news : ℕ → Block) (old new : List Block) → IsRewritten at n news old new
    → IsRewritten at n news (old ++ rest) (new ++ rest)
rewritten_before rest at n news old new put = record {
  len = length-append new rest ∙ ap (λ (k : ℕ). k + length rest) put.len ∙ sym (length-append old rest);
  rewritten = λ i lt. at_append_left new rest (at + i) (news i) (put.rewritten i lt);
  others =
      λ j block out is.
      elim (at_append old rest j block is) [
        | inl here ↦ at_append_left new rest j block (put.others j block out here)
        | inr there ↦
            let place : length new + there.0 ≡ j = ap (λ (k : ℕ). k + there.0) put.len ∙ sym there.1 in
            subst (λ (m : ℕ). IsAt (new ++ rest) m block) place (at_append_right new rest there.0 block there.2)
      ];
}

-- The front of a rewritten list, as far as it is made.
pub record IsBegun (at count : ℕ) (news : ℕ → Block) (old front : List Block) : Type 0 where
  pub rewritten : (i : ℕ) → i < count → at + i < length front → IsAt front (at + i) (news i)
  pub others : (j : ℕ) (block : Block) → (j < at) ⊎ (at + count ≤ j) → j < length front → IsAt old j block → IsAt front j block

-- One more block is as it must be.
pub begun_more : (at count place : ℕ) (news : ℕ → Block) (old front : List Block) (x : Block) → length front ≡ place
    → ((i : ℕ) → i < count → at + i ≡ place → x ≡ news i)
    → ((block : Block) → (place < at) ⊎ (at + count ≤ place) → IsAt old place block → x ≡ block)
    → IsBegun at count news old front → IsBegun at count news old (front ++ x ∷ [])
begun_more at count place news old front x len new kept so_far =
    let more : length (front ++ x ∷ []) ≡ place + 1 = length-append front (x ∷ []) ∙ ap (λ (k : ℕ). k + 1) len in
    let last : IsAt (front ++ x ∷ []) place x = subst (λ (k : ℕ). IsAt (front ++ x ∷ []) k x) len (at_end front [] x) in
    record {
      rewritten =
          λ i lt below.
          elim (eqb_tells (at + i) place) [
            | inl here ↦
                subst (λ (k : ℕ). IsAt (front ++ x ∷ []) k (news i)) (sym here.1)
                (subst (λ (b : Block). IsAt (front ++ x ∷ []) place b) (new i lt here.1) last)
            | inr there ↦
                let not : at + i ≡ place → ⊥ = there.1 in
                at_append_left front (x ∷ []) (at + i) (news i) (so_far.rewritten i lt (omega arith))
          ];
      others =
          λ j block out below is.
          elim (eqb_tells j place) [
            | inl here ↦
                let e : j ≡ place = here.1 in
                let out' : (place < at) ⊎ (at + count ≤ place) = rw e at out in
                let is' : IsAt old place block = rw e at is in
                rw e (subst (λ (b : Block). IsAt (front ++ x ∷ []) place b) (kept block out' is') last)
            | inr there ↦
                let not : j ≡ place → ⊥ = there.1 in
                at_append_left front (x ∷ []) j block (so_far.others j block out (omega arith) is)
          ];
    }

-- All of it is made.
pub rewritten_whole : (at count : ℕ) (news : ℕ → Block) (old new : List Block) → length new ≡ length old → at + count ≤ length old
    → IsBegun at count news old new → IsRewritten at count news old new
rewritten_whole at count news old new len within begun = record {
  len = len;
  rewritten = λ i lt. begun.rewritten i lt (omega arith);
  others = λ j block out is. let below = at_below old j block is in begun.others j block out (omega arith) is;
}
