-- The blocks of parts of one span, joined: where a place lies, and what a change there does.
use Rattle.std.proofs.Common.{◌≡◌, ℕ, zero, suc, ◌+◌, ◌-◌, ◌*◌, ◌/◌, ◌%◌, ◌<◌, ◌≤◌, List, [], ◌∷◌, ◌++◌, length, get_or, take, drop, replicate, Bool, true, false, refl, sym, ap, ◌∙◌, arith, inl, inr}
use Rattle.std.proofs.Math.ListN.{set, length-take}
use Rattle.std.proofs.Math.Nat.{div-add-mod}
use Rattle.std.proofs.Math.Seq.{drop-append-add, map-set_same}
use Rattle.std.proofs.lemmas.List.{drop-append-le, take-append-le, set-append_left, set-append_right, length-append, length-map, get_or-map, map-set, map-append, length-set, take_more, replicate-append-replicate}
use Rattle.std.proofs.lemmas.Nat.{div_below, mod_below}
use Rattle.std.specs.Prelude.{Result, Ok, Err, IfOk, OnOk, OnErr}
use Rattle.std.specs.Arc.{arc_value}
use Rattle.std.specs.declared.sync.Arc.{Arc}
use Rattle.nvm_record.specs.declared.block.Block.{Block}
use Rattle.nvm_store.specs.Inside.Rewrite.{IsRewritten}
use Rattle.nvm_store.specs.Inside.Source.{source_block, IsFilled}
use Rattle.nvm_store.proofs.Rewrites.{rewritten_before, rewritten_behind}
use Rattle.nvm_store.specs.declared.blocks.source.Source.{Source}
use Rattle.nvm_store.specs.Inside.Tree.{AreOfSpan, IsFork, IsStretch, joined_parts, parts_of}

pub length-joined_parts : (span : ℕ) (parts : List (List Block)) → AreOfSpan span parts → length (joined_parts parts) ≡ length parts * span
length-joined_parts span [] spans = let none : 0 ≡ 0 * span = omega arith in none
length-joined_parts span (p ∷ ps) spans =
    let len : length p ≡ span = spans.0 in
    let rest : length (joined_parts ps) ≡ length ps * span = length-joined_parts span ps spans.1 in
    let all : length p + length ps * span ≡ suc (length ps) * span = grind (arith, len) in
    length-append p (joined_parts ps) ∙ ap (λ (n : ℕ). length p + n) rest ∙ all

pub span_at : (span : ℕ) (parts : List (List Block)) (k : ℕ) → AreOfSpan span parts → k < length parts → length (get_or parts k []) ≡ span
span_at span [] k spans lt = absurd (omega arith)
span_at span (p ∷ ps) zero spans lt = spans.0
span_at span (p ∷ ps) (suc k) spans lt = span_at span ps k spans.1 (omega arith)

-- A part of the same span takes another's place.
pub spans-set : (span : ℕ) (parts : List (List Block)) (k : ℕ) (part : List Block) → AreOfSpan span parts → length part ≡ span
    → AreOfSpan span (set parts k part)
spans-set span [] k part spans len = tt
spans-set span (p ∷ ps) zero part spans len = (len, spans.1)
spans-set span (p ∷ ps) (suc k) part spans len = (spans.0, spans-set span ps k part spans.1 len)

pub spans-replicate : (n span : ℕ) (part : List Block) → length part ≡ span → AreOfSpan span (replicate n part)
spans-replicate zero span part len = tt
spans-replicate (suc n) span part len = (len, spans-replicate n span part len)

-- a place of the k-th part and what is after it
pub drop-joined_parts : (span : ℕ) (parts : List (List Block)) (k r at : ℕ) → AreOfSpan span parts → k < length parts → r < span
    → at ≡ k * span + r → drop at (joined_parts parts) ≡ drop r (get_or parts k []) ++ joined_parts (drop (suc k) parts)
drop-joined_parts span [] k r at spans lt rt e = absurd (omega arith)
drop-joined_parts span (p ∷ ps) zero r at spans lt rt e =
    let len : length p ≡ span = spans.0 in
    let here : at ≡ r = omega arith in
    rw here (drop-append-le r p (joined_parts ps) (omega arith))
drop-joined_parts span (p ∷ ps) (suc k) r at spans lt rt e =
    let len : length p ≡ span = spans.0 in
    let there : at ≡ length p + (k * span + r) = grind (arith, len, e) in
    rw there (drop-append-add p (joined_parts ps) (k * span + r)
    ∙ drop-joined_parts span ps k r (k * span + r) spans.1 (omega arith) rt refl)

-- a change at a place of the k-th part
pub set-joined_parts : (span : ℕ) (parts : List (List Block)) (k r at : ℕ) (x : Block) → AreOfSpan span parts → k < length parts → r < span
    → at ≡ k * span + r → set (joined_parts parts) at x ≡ joined_parts (set parts k (set (get_or parts k []) r x))
set-joined_parts span [] k r at x spans lt rt e = absurd (omega arith)
set-joined_parts span (p ∷ ps) zero r at x spans lt rt e =
    let len : length p ≡ span = spans.0 in
    let here : at ≡ r = omega arith in
    rw here (set-append_left p (joined_parts ps) r x (omega arith))
set-joined_parts span (p ∷ ps) (suc k) r at x spans lt rt e =
    let len : length p ≡ span = spans.0 in
    let there : at ≡ span + (k * span + r) = grind (arith, e) in
    let rest : at - span ≡ k * span + r = omega arith in
    set-append_right p (joined_parts ps) span at x len (omega arith)
    ∙ ap (λ (n : ℕ). p ++ set (joined_parts ps) n x) rest
    ∙ ap (λ (bs : List Block). p ++ bs) (set-joined_parts span ps k r (k * span + r) x spans.1 (omega arith) rt refl)

-- A range of the k-th part is rewritten.
pub rewritten-joined_parts : (span : ℕ) (parts : List (List Block)) (k r at n : ℕ) (news : ℕ → Block) (part : List Block) → AreOfSpan span parts
    → k < length parts → at ≡ k * span + r → IsRewritten r n news (get_or parts k []) part
    → IsRewritten at n news (joined_parts parts) (joined_parts (set parts k part))
rewritten-joined_parts span [] k r at n news part spans lt e put = absurd (omega arith)
rewritten-joined_parts span (p ∷ ps) zero r at n news part spans lt e put =
    let here : at ≡ r = omega arith in
    rw here (rewritten_before (joined_parts ps) r n news p part put)
rewritten-joined_parts span (p ∷ ps) (suc k) r at n news part spans lt e put =
    let len : length p ≡ span = spans.0 in
    let there : at ≡ length p + (k * span + r) = grind (arith, len, e) in
    rewritten_behind p (k * span + r) n at news (joined_parts ps) (joined_parts (set ps k part)) there
    (rewritten-joined_parts span ps k r (k * span + r) n news part spans.1 (omega arith) refl put)

-- A stretch of a part is one of the whole.
pub stretch_of_part : (span : ℕ) (parts : List (List Block)) (k r at : ℕ) (stretch : List Block) → AreOfSpan span parts → k < length parts → r < span
    → at ≡ k * span + r → IsStretch (get_or parts k []) r stretch → IsStretch (joined_parts parts) at stretch
stretch_of_part span parts k r at stretch spans lt rt e is =
    let part = drop r (get_or parts k []) in
    let len : length (take (length stretch) part) ≡ length stretch = ap length is.is in
    let within : length stretch ≤ length part = omega (arith, len, length-take (length stretch) part) in
    record {
      some = is.some;
      is = rw (drop-joined_parts span parts k r at spans lt rt e)
          (take-append-le (length stretch) part (joined_parts (drop (suc k) parts)) within ∙ is.is);
    }

-- Where a place of parts of one span lies: in which, and where there.
pub record LiesIn (span at count : ℕ) : Type 0 where
  pub part : at / span < count
  pub within : at % span < span
  pub is : at ≡ at / span * span + at % span

pub lies_in : (span at count : ℕ) → 0 < span → at < count * span → LiesIn span at count
lies_in span at count some lt = record {
  part = div_below at span count some lt;
  within = mod_below at span some;
  is = let e = div-add-mod at span in grind (arith, e);
}

module _ {X Z : Type 0} where
  -- the blocks of the k-th child
  pub part_is : (blocks : X → List Block) (kids : List (Arc X Z)) (k : ℕ) (kid d : Arc X Z) → k < length kids → get_or kids k d ≡ kid
      → get_or (parts_of blocks kids) k [] ≡ blocks (arc_value kid)
  part_is blocks kids k kid d lt is =
      get_or-map (λ kid. blocks (arc_value kid)) kids k d [] lt ∙ ap (λ (a : Arc X Z). blocks (arc_value a)) is

  pub place_in : (blocks : X → List Block) (kids : List (Arc X Z)) (span at : ℕ) → IsFork span (parts_of blocks kids)
      → at < length (joined_parts (parts_of blocks kids)) → LiesIn span at (length kids)
  place_in blocks kids span at fork lt =
      let parts = parts_of blocks kids in
      let all = length-joined_parts span parts fork.spans in
      let count : length parts ≡ length kids = length-map kids (λ kid. blocks (arc_value kid)) in
      let lt' : at < length kids * span = rw (all, count) at lt in
      lies_in span at (length kids) fork.some lt'

  pub parts_count : (blocks : X → List Block) (kids : List (Arc X Z)) → length (parts_of blocks kids) ≡ length kids
  parts_count blocks kids = length-map kids (λ kid. blocks (arc_value kid))

  -- The child of a place has that place.
  pub within_part : (blocks : X → List Block) (kids : List (Arc X Z)) (span at : ℕ) (kid : Arc X Z) → IsFork span (parts_of blocks kids)
      → LiesIn span at (length kids) → get_or kids (at / span) kid ≡ kid → at % span < length (blocks (arc_value kid))
  within_part blocks kids span at kid fork lies is =
      let k = at / span in
      let parts = parts_of blocks kids in
      let count : k < length parts = rw (parts_count blocks kids) lies.part in
      let len : length (get_or parts k []) ≡ span = span_at span parts k fork.spans count in
      let len' : length (blocks (arc_value kid)) ≡ span = rw (part_is blocks kids k kid kid lies.part is) at len in
      rw len' lies.within

  -- A child with a changed block takes the place of the one before.
  pub set_in_kids : (blocks : X → List Block) (kids : List (Arc X Z)) (span at : ℕ) (x : Block) (kid other : Arc X Z) → IsFork span (parts_of blocks kids)
      → LiesIn span at (length kids) → get_or kids (at / span) kid ≡ kid
      → blocks (arc_value other) ≡ set (blocks (arc_value kid)) (at % span) x
      → joined_parts (parts_of blocks (set kids (at / span) other)) ≡ set (joined_parts (parts_of blocks kids)) at x
  set_in_kids blocks kids span at x kid other fork lies is changed =
      let k = at / span in
      let r = at % span in
      let parts = parts_of blocks kids in
      let count : k < length parts = rw (parts_count blocks kids) lies.part in
      let part : get_or parts k [] ≡ blocks (arc_value kid) = part_is blocks kids k kid kid lies.part is in
      let now : blocks (arc_value other) ≡ set (get_or parts k []) r x = rw part changed in
      let moved : parts_of blocks (set kids k other) ≡ set parts k (blocks (arc_value other)) =
      map-set (λ (a : Arc X Z). blocks (arc_value a)) kids k other in
      ap joined_parts (moved ∙ ap (λ (bs : List Block). set parts k bs) now)
      ∙ sym (set-joined_parts span parts k r at x fork.spans count lies.within lies.is)

  -- A child that has the same blocks changes none.
  pub same_in_kids : (blocks : X → List Block) (kids : List (Arc X Z)) (k : ℕ) (kid other : Arc X Z) → k < length kids
      → get_or kids k kid ≡ kid → blocks (arc_value other) ≡ blocks (arc_value kid)
      → parts_of blocks (set kids k other) ≡ parts_of blocks kids
  same_in_kids blocks kids k kid other lt is same =
      map-set_same (λ (a : Arc X Z). blocks (arc_value a)) kids k other kid (same ∙ ap (λ (a : Arc X Z). blocks (arc_value a)) (sym is))

  -- A child that was filled takes the place of the one before.
  pub filled_in_kids : (blocks : X → List Block) (kids : List (Arc X Z)) (span at from to least n : ℕ) (source : Source) (kid other : Arc X Z)
      → IsFork span (parts_of blocks kids) → LiesIn span at (length kids) → get_or kids (at / span) kid ≡ kid
      → IsFilled source (at % span) from to least n (blocks (arc_value kid)) (blocks (arc_value other))
      → IsFilled source at from to least n (joined_parts (parts_of blocks kids)) (joined_parts (parts_of blocks (set kids (at / span) other)))
  filled_in_kids blocks kids span at from to least n source kid other fork lies is filled =
      let k = at / span in
      let r = at % span in
      let parts = parts_of blocks kids in
      let count : k < length parts = rw (parts_count blocks kids) lies.part in
      let part : get_or parts k [] ≡ blocks (arc_value kid) = part_is blocks kids k kid kid lies.part is in
      let news = λ (i : ℕ). source_block source (from + i) in
      let now : IsRewritten r n news (get_or parts k []) (blocks (arc_value other)) = rw part filled.is in
      let moved : parts_of blocks (set kids k other) ≡ set parts k (blocks (arc_value other)) =
      map-set (λ (a : Arc X Z). blocks (arc_value a)) kids k other in
      record {
        enough =
            elim filled.enough [
              | inl all ↦ inl all
              | inr none ↦ inr (none.0, none.1, ap joined_parts (same_in_kids blocks kids k kid other lies.part is none.2))
            ];
        few = filled.few;
        is = rw moved (rewritten-joined_parts span parts k r at n news (blocks (arc_value other)) fork.spans count lies.is now);
      }

  -- A child of the span's length keeps the fork one.
  pub fork-set : (blocks : X → List Block) (kids : List (Arc X Z)) (span at : ℕ) (kid other : Arc X Z) → IsFork span (parts_of blocks kids)
      → LiesIn span at (length kids) → get_or kids (at / span) kid ≡ kid → length (blocks (arc_value other)) ≡ length (blocks (arc_value kid))
      → IsFork span (parts_of blocks (set kids (at / span) other))
  fork-set blocks kids span at kid other fork lies is same =
      let k = at / span in
      let parts = parts_of blocks kids in
      let count : k < length parts = rw (parts_count blocks kids) lies.part in
      let len : length (get_or parts k []) ≡ span = span_at span parts k fork.spans count in
      let len' : length (blocks (arc_value kid)) ≡ span = rw (part_is blocks kids k kid kid lies.part is) at len in
      let moved : parts_of blocks (set kids k other) ≡ set parts k (blocks (arc_value other)) =
      map-set (λ (a : Arc X Z). blocks (arc_value a)) kids k other in
      record { some = fork.some; spans = rw moved (spans-set span parts k (blocks (arc_value other)) fork.spans (same ∙ len')) }

  -- One more child is copied.
  pub copied_more : (blocks : X → List Block) (kids copies : List (Arc X Z)) (i : ℕ) (kid copy : Arc X Z) → i < length kids
      → kid ≡ get_or kids i kid → arc_value copy ≡ arc_value kid → parts_of blocks copies ≡ take i (parts_of blocks kids)
      → parts_of blocks (copies ++ copy ∷ []) ≡ take (i + 1) (parts_of blocks kids)
  copied_more blocks kids copies i kid copy lt is same so_far =
      let parts = parts_of blocks kids in
      let count : i < length parts = rw (parts_count blocks kids) lt in
      let part : get_or parts i [] ≡ blocks (arc_value kid) = part_is blocks kids i kid kid lt (sym is) in
      let more : take (i + 1) parts ≡ take i parts ++ get_or parts i [] ∷ [] = take_more parts i [] count in
      let this : blocks (arc_value copy) ≡ get_or parts i [] = ap blocks same ∙ sym part in
      map-append (λ (a : Arc X Z). blocks (arc_value a)) copies (copy ∷ [])
      ∙ ap (λ (ps : List (List Block)). ps ++ blocks (arc_value copy) ∷ []) so_far
      ∙ ap (λ (p : List Block). take i parts ++ p ∷ []) this
      ∙ sym more

-- A change leaves as many blocks, also where it is refused.
pub keeps_length : {T E : Type 0} (r : Result T E) (old new : List Block) (i : ℕ) (x : Block)
    → OnOk r (new ≡ set old i x) → OnErr r (new ≡ old) → length new ≡ length old
keeps_length (Ok y) old new i x ok err = ap length ok ∙ length-set old i x
keeps_length (Err y) old new i x ok err = ap length err

pub overwriting_keeps_length : (taken : Bool) (old new : List Block) (i : ℕ) (x : Block)
    → (taken ≡ true → new ≡ set old i x) → (taken ≡ false → new ≡ old) → length new ≡ length old
overwriting_keeps_length true old new i x ok left = ap length (ok refl) ∙ length-set old i x
overwriting_keeps_length false old new i x ok left = ap length (left refl)

pub filling_keeps_length : {E : Type 0} (r : Result ℕ E) (source : Source) (at from to least : ℕ) (old new : List Block)
    → IfOk r (λ n. IsFilled source at from to least n old new) → OnErr r (new ≡ old) → length new ≡ length old
filling_keeps_length (Ok n) source at from to least old new ok err = ok.is.len
filling_keeps_length (Err y) source at from to least old new ok err = ap length err

-- Forks of one block alone.
pub joined_parts-replicate : (n span : ℕ) (block : Block) → joined_parts (replicate n (replicate span block)) ≡ replicate (n * span) block
joined_parts-replicate zero span block = let none : 0 * span ≡ 0 = omega arith in rw none refl
joined_parts-replicate (suc n) span block =
    let more : suc n * span ≡ span + n * span = grind arith in
    rw more (ap (λ (bs : List Block). replicate span block ++ bs) (joined_parts-replicate n span block)
    ∙ replicate-append-replicate span (n * span) block)
