-- Where passes are in the groups, when a group steps, takes in another or is cut in two.
use Rattle.std.proofs.Common.{◌≡◌, ◌≢◌, ◌⊎◌, ℕ, zero, suc, ◌+◌, ◌-◌, ◌<◌, ◌≤◌, List, [], ◌∷◌, ◌++◌, length, map, take, drop, set, subst, refl, sym, ap, ◌∙◌, arith, inl, inr, eqb, eq-eqb, ne_eqb, if◌then◌else◌}
use Rattle.std.proofs.Math.Dec.{ltb}
use Rattle.std.proofs.lemmas.Bool.{lt-ltb, le-ltb}
use Rattle.std.proofs.Math.ListN.{length-set}
use native.Mathlib.Decide.{dec_lt}
use mathlib.Core.Option.{some-injective, some-ne-none}
use mathlib.Core.Logic.{dite}
use native.Mathlib.Decide.{ℕ_discrete}
use Rattle.atomic_table.proofs.Lists.{at_set, set_here, set_else, at_map, at_longer, at_last}
use Rattle.nvm_unit.specs.declared.views.PassView.{PassView}
use Rattle.nvm_unit.specs.declared.views.Group.{Group}
use Rattle.nvm_unit.specs.Machine.{StandsAt, EachPass, IsNumbered}
use Rattle.nvm_record.specs.Lists.{IsAt}
use Rattle.nvm_unit.specs.Events.{idle}
use Rattle.nvm_unit.specs.Knowledge.{ArePlaced}
use Rattle.nvm_unit.proofs.Lists.{at_one, at_below, at_map_back, at_append, at_append_right, at_take, at_take_back, at_drop, at_drop_back}

-- The pass at a place is one.
pub stands_one : (groups : List Group) (j i : ℕ) (g : Group) (p : PassView) → IsAt groups j g → StandsAt groups j i p → IsAt g.passes i p
stands_one groups j i g p at s = subst (λ (x : Group). IsAt x.passes i p) (at_one groups j s.group g s.at at) s.inside

-- Where a pass is after the group j became g', whose passes are f of what they were.
pub moved_back : (groups : List Group) (j : ℕ) (g g' : Group) (f : PassView → PassView) → IsAt groups j g → g'.passes ≡ map f g.passes
    → (k i : ℕ) (q : PassView) → StandsAt (set groups j g') k i q
    → ((k ≡ j) × (p : PassView) × StandsAt groups j i p × (q ≡ f p)) ⊎ ((k ≢ j) × StandsAt groups k i q)
moved_back groups j g g' f at is k i q s =
    elim (at_set groups j k g' s.group s.at) [
      | inl here ↦
          let within : IsAt (map f g.passes) i q =
          subst (λ (ps : List PassView). IsAt ps i q) (ap (λ (x : Group). x.passes) (sym here.1) ∙ is) s.inside in
          let old = at_map_back f g.passes i q within in
          inl (here.0, old.0, record { group = g; at = at; inside = old.1 }, old.2)
      | inr else_ ↦ inr (else_.0, record { group = s.group; at = else_.1; inside = s.inside })
    ]

-- The same of a pass that stood there before.
pub moved_forth : (groups : List Group) (j : ℕ) (g g' : Group) (f : PassView → PassView) → IsAt groups j g → g'.passes ≡ map f g.passes
    → ((p : PassView) → (f p).number ≡ p.number)
    → (k i : ℕ) (p : PassView) → StandsAt groups k i p → (q : PassView) × StandsAt (set groups j g') k i q × (q.number ≡ p.number)
moved_forth groups j g g' f at is same k i p s =
    dite (ℕ_discrete k j)
    (λ here.
    let inside : IsAt g.passes i p = stands_one groups j i g p at (subst (λ (n : ℕ). StandsAt groups n i p) here s) in
    let new : IsAt (set groups j g') k g' = subst (λ (n : ℕ). IsAt (set groups j g') n g') (sym here) (set_here groups j g' (at_below groups j g at)) in
    (f p, record { group = g'; at = new; inside = subst (λ (ps : List PassView). IsAt ps i (f p)) (sym is) (at_map f g.passes i p inside) }, same p))
    (λ away. (p, record { group = s.group; at = set_else groups j k g' away ∙ s.at; inside = s.inside }, refl))

-- What is kept of each pass.
pub each_moved : (P Q : PassView → Type 0) (groups : List Group) (j : ℕ) (g g' : Group) (f : PassView → PassView) → IsAt groups j g → g'.passes ≡ map f g.passes
    → EachPass P groups
    → ((i : ℕ) (p : PassView) → StandsAt groups j i p → P p → Q (f p))
    → ((k i : ℕ) (p : PassView) → k ≢ j → StandsAt groups k i p → P p → Q p)
    → EachPass Q (set groups j g')
each_moved P Q groups j g g' f at is each mover other k i q s =
    elim (moved_back groups j g g' f at is k i q s) [
      | inl here ↦ subst Q (sym here.3) (mover i here.1 here.2 (each j i here.1 here.2))
      | inr else_ ↦ other k i q else_.0 else_.1 (each k i q else_.1)
    ]

pub placed_moved : (n : ℕ) (spot : ℕ → ℕ × ℕ) (groups : List Group) (j : ℕ) (g g' : Group) (f : PassView → PassView) → IsAt groups j g → g'.passes ≡ map f g.passes
    → ((p : PassView) → (f p).number ≡ p.number) → ArePlaced n spot groups → ArePlaced n spot (set groups j g')
placed_moved n spot groups j g g' f at is same placed =
    record {
      below = each_moved (λ p. p.number < n) (λ p. p.number < n) groups j g g' f at is placed.below
          (λ i p s lt. let e = same p in omega arith) (λ k i p away s lt. lt);
      here = λ k i q s.
          elim (moved_back groups j g g' f at is k i q s) [
            | inl here ↦
                let number : q.number ≡ here.1.number = ap (λ (x : PassView). x.number) here.3 ∙ same here.1 in
                let at_place : spot here.1.number ≡ (j, i) = placed.here j i here.1 here.2 in
                let target : (λ (x : ℕ). let y : ℕ × ℕ = (x, i) in y) j ≡ (λ (x : ℕ). let y : ℕ × ℕ = (x, i) in y) k = ap (λ (x : ℕ). let y : ℕ × ℕ = (x, i) in y) (sym here.0) in
                ap spot number ∙ (at_place ∙ target)
            | inr else_ ↦ placed.here k i q else_.1
          ];
      all = λ number lt.
          let old = placed.all number lt in
          let new = moved_forth groups j g g' f at is same (spot number).0 (spot number).1 old.0 old.1 in
          (new.0, new.1, new.2 ∙ old.2);
    }

-- A number is that of some pass exactly where it is below their count.
pub numbered : (n : ℕ) (spot : ℕ → ℕ × ℕ) (groups : List Group) → ArePlaced n spot groups → (number : ℕ) → number < n → IsNumbered groups number
numbered n spot groups placed number lt =
    let s = placed.all number lt in ((spot number).0, (spot number).1, s.0, s.1, s.2)

pub numbered_below : (n : ℕ) (spot : ℕ → ℕ × ℕ) (groups : List Group) → ArePlaced n spot groups → (number : ℕ) → IsNumbered groups number → number < n
numbered_below n spot groups placed number s =
    let lt = placed.below s.0 s.1 s.2 s.3 in let e = s.4 in omega arith

-- Passes of two groups have two numbers.
pub number_apart : (n : ℕ) (spot : ℕ → ℕ × ℕ) (groups : List Group) → ArePlaced n spot groups
    → (j i k m : ℕ) (p q : PassView) → StandsAt groups j i p → StandsAt groups k m q → k ≢ j → q.number ≢ p.number
number_apart n spot groups placed j i k m p q at_p at_q away same =
    away (ap (λ (x : ℕ × ℕ). x.0) (sym (placed.here k m q at_q) ∙ (ap spot same ∙ placed.here j i p at_p)))

-- Each pass is somewhere before and after, and `moves` says where.
pub record AreRearranged (moves : ℕ × ℕ → ℕ × ℕ) (groups groups' : List Group) : Type 0 where
  pub back : (m i : ℕ) (q : PassView) → StandsAt groups' m i q → (k : ℕ) × (l : ℕ) × StandsAt groups k l q × (moves (k, l) ≡ (m, i))
  pub forth : (k l : ℕ) (p : PassView) → StandsAt groups k l p → StandsAt groups' (moves (k, l)).0 (moves (k, l)).1 p

pub each_rearranged : (P : PassView → Type 0) (moves : ℕ × ℕ → ℕ × ℕ) (groups groups' : List Group)
    → AreRearranged moves groups groups' → EachPass P groups → EachPass P groups'
each_rearranged P moves groups groups' re each m i q s = let old = re.back m i q s in each old.0 old.1 q old.2

pub placed_rearranged : (n : ℕ) (spot : ℕ → ℕ × ℕ) (moves : ℕ × ℕ → ℕ × ℕ) (groups groups' : List Group)
    → AreRearranged moves groups groups' → ArePlaced n spot groups → ArePlaced n (λ number. moves (spot number)) groups'
placed_rearranged n spot moves groups groups' re placed =
    record {
      below = each_rearranged (λ p. p.number < n) moves groups groups' re placed.below;
      here = λ m i q s.
          let old = re.back m i q s in
          ap moves (placed.here old.0 old.1 q old.2) ∙ old.3;
      all = λ number lt.
          let old = placed.all number lt in
          (old.0, re.forth (spot number).0 (spot number).1 old.0 old.1, old.2);
    }

-- What is in a list of one.
pub at_single : (p q : PassView) (i : ℕ) → IsAt (p ∷ []) i q → p ≡ q
at_single p q zero e = some-injective p q e
at_single p q (suc i) e = absurd (some-ne-none q (sym e))

at_last_one : (x y : Group) (i : ℕ) → IsAt (x ∷ []) i y → x ≡ y
at_last_one x y zero e = some-injective x y e
at_last_one x y (suc i) e = absurd (some-ne-none y (sym e))

at_last_zero : (x y : Group) (i : ℕ) → IsAt (x ∷ []) i y → i ≡ 0
at_last_zero x y zero e = refl
at_last_zero x y (suc i) e = absurd (some-ne-none y (sym e))

-- Where a pass is after the group j, of `count` passes, took in the group k.
abbrev pub moves_joined : ℕ → ℕ → ℕ → ℕ × ℕ → ℕ × ℕ
moves_joined j k count at = if eqb at.0 k then (j, count + at.1) else at

moved_in : (j k count a i : ℕ) → a ≡ k → moves_joined j k count (a, i) ≡ (j, count + i)
moved_in j k count a i is = rw (eq-eqb a k is) refl

stays_in : (j k count a i : ℕ) → a ≢ k → moves_joined j k count (a, i) ≡ (a, i)
stays_in j k count a i not = rw (ne_eqb a k not) refl

pub joined : (groups : List Group) (j k : ℕ) (ps qs : List PassView) → IsAt groups j (idle ps) → IsAt groups k (idle qs) → j ≢ k
    → AreRearranged (moves_joined j k (length ps)) groups (set (set groups j (idle (ps ++ qs))) k (idle []))
joined groups j k ps qs at_j at_k apart =
    let both : Group = idle (ps ++ qs) in
    record {
      back = λ m i q s.
          elim (at_set (set groups j both) k m (idle []) s.group s.at) [
            | inl spent ↦ absurd (some-ne-none q (sym (subst (λ (x : Group). IsAt x.passes i q) (sym spent.1) s.inside)))
            | inr rest ↦
                elim (at_set groups j m both s.group rest.1) [
                  | inl here ↦
                      elim (at_append ps qs i q (subst (λ (x : Group). IsAt x.passes i q) (sym here.1) s.inside)) [
                        | inl first ↦ (j, i, record { group = idle ps; at = at_j; inside = first }, stays_in j k (length ps) j i apart ∙ ap (λ (x : ℕ). let y : ℕ × ℕ = (x, i) in y) (sym here.0))
                        | inr second ↦ (
                          k,
                          second.0,
                          record { group = idle qs; at = at_k; inside = second.2 },
                          moved_in j k (length ps) k second.0 refl
                              ∙ (ap (λ (x : ℕ). let y : ℕ × ℕ = (j, x) in y) (sym second.1) ∙ ap (λ (x : ℕ). let y : ℕ × ℕ = (x, i) in y) (sym here.0)),
                        )
                      ]
                  | inr else_ ↦ (m, i, record { group = s.group; at = else_.1; inside = s.inside }, stays_in j k (length ps) m i rest.0)
                ]
          ];
      forth = λ a i p s.
          dite (ℕ_discrete a k)
          (λ is.
          let inside : IsAt qs i p = stands_one groups k i (idle qs) p at_k (subst (λ (n : ℕ). StandsAt groups n i p) is s) in
          let new : StandsAt (set (set groups j both) k (idle [])) j (length ps + i) p =
          record {
            group = both;
            at = set_else (set groups j both) k j (idle []) apart ∙ set_here groups j both (at_below groups j (idle ps) at_j);
            inside = at_append_right ps qs i p inside;
          }
          in
          subst (λ (x : ℕ × ℕ). StandsAt (set (set groups j both) k (idle [])) x.0 x.1 p) (sym (moved_in j k (length ps) a i is)) new)
          (λ not.
          let new : StandsAt (set (set groups j both) k (idle [])) a i p =
          dite (ℕ_discrete a j)
          (λ here.
          let inside : IsAt ps i p = stands_one groups j i (idle ps) p at_j (subst (λ (n : ℕ). StandsAt groups n i p) here s) in
          let at : IsAt (set groups j both) a both = subst (λ (n : ℕ). IsAt (set groups j both) n both) (sym here) (set_here groups j both (at_below groups j (idle ps) at_j)) in
          record { group = both; at = set_else (set groups j both) k a (idle []) not ∙ at; inside = at_longer ps qs i p inside })
          (λ away.
          record { group = s.group; at = set_else (set groups j both) k a (idle []) not ∙ (set_else groups j a both away ∙ s.at); inside = s.inside })
          in
          subst (λ (x : ℕ × ℕ). StandsAt (set (set groups j both) k (idle [])) x.0 x.1 p) (sym (stays_in j k (length ps) a i not)) new);
    }

-- Where a pass is after the group j kept its first passes, and the others became the group `end`.
abbrev pub moves_split : ℕ → ℕ → ℕ → ℕ × ℕ → ℕ × ℕ
moves_split j first end at = if eqb at.0 j then (if ltb at.1 first then at else (end, at.1 - first)) else at

moved_out : (j first end a i : ℕ) → a ≡ j → first ≤ i → moves_split j first end (a, i) ≡ (end, i - first)
moved_out j first end a i is le = rw (eq-eqb a j is, le-ltb i first le) refl

stays_first : (j first end a i : ℕ) → i < first → moves_split j first end (a, i) ≡ (a, i)
stays_first j first end a i lt =
    dite (ℕ_discrete a j) (λ is. rw (eq-eqb a j is, lt-ltb i first lt) refl) (λ not. rw (ne_eqb a j not) refl)

stays_out : (j first end a i : ℕ) → a ≢ j → moves_split j first end (a, i) ≡ (a, i)
stays_out j first end a i not = rw (ne_eqb a j not) refl

pub cut : (groups : List Group) (j first : ℕ) (ps : List PassView) → IsAt groups j (idle ps)
    → AreRearranged (moves_split j first (length groups)) groups (set groups j (idle (take first ps)) ++ idle (drop first ps) ∷ [])
cut groups j first ps at_j =
    let left : Group = idle (take first ps) in
    let right : Group = idle (drop first ps) in
    let end = length groups in
    let long : length (set groups j left) ≡ end = length-set groups j left in
    record {
      back = λ m i q s.
          elim (at_append (set groups j left) (right ∷ []) m s.group s.at) [
            | inl within ↦
                elim (at_set groups j m left s.group within) [
                  | inl here ↦
                      let both = at_take_back first ps i q (subst (λ (x : Group). IsAt x.passes i q) (sym here.1) s.inside) in (
                        j,
                        i,
                        record { group = idle ps; at = at_j; inside = both.0 },
                        stays_first j first end j i both.1 ∙ ap (λ (x : ℕ). let y : ℕ × ℕ = (x, i) in y) (sym here.0),
                      )
                  | inr else_ ↦ (m, i, record { group = s.group; at = else_.1; inside = s.inside }, stays_out j first end m i else_.0)
                ]
            | inr last ↦
                let is : right ≡ s.group = at_last_one right s.group last.0 last.2 in
                let n : last.0 ≡ 0 = at_last_zero right s.group last.0 last.2 in
                let spot : m ≡ end = omega (arith, last.1) in
                let inside : IsAt ps (first + i) q = at_drop_back first ps i q (subst (λ (x : Group). IsAt x.passes i q) (sym is) s.inside) in
                let back_again : first + i - first ≡ i = omega arith in (
                  j,
                  first + i,
                  record { group = idle ps; at = at_j; inside = inside },
                  moved_out j first end j (first + i) refl (omega arith)
                      ∙ (ap (λ (x : ℕ). let y : ℕ × ℕ = (end, x) in y) back_again ∙ ap (λ (x : ℕ). let y : ℕ × ℕ = (x, i) in y) (sym spot)),
                )
          ];
      forth = λ a i p s.
          let to : ℕ × ℕ → Type 0 = λ x. StandsAt (set groups j left ++ right ∷ []) x.0 x.1 p in
          dite (ℕ_discrete a j)
          (λ here.
          let inside : IsAt ps i p = stands_one groups j i (idle ps) p at_j (subst (λ (n : ℕ). StandsAt groups n i p) here s) in
          let at : IsAt (set groups j left) a left = subst (λ (n : ℕ). IsAt (set groups j left) n left) (sym here) (set_here groups j left (at_below groups j (idle ps) at_j)) in
          dite (dec_lt i first)
          (λ lt.
          subst to (sym (stays_first j first end a i lt))
          (record { group = left; at = at_longer (set groups j left) (right ∷ []) a left at; inside = at_take first ps i p inside lt }))
          (λ not.
          let le : first ≤ i = omega arith in
          let again : first + (i - first) ≡ i = omega arith in
          subst to (sym (moved_out j first end a i here le))
          (record { group = right; at = at_last (set groups j left) right end long; inside = at_drop first ps (i - first) p (rw again inside) })))
          (λ away.
          subst to (sym (stays_out j first end a i away))
          (record { group = s.group; at = at_longer (set groups j left) (right ∷ []) a s.group (set_else groups j a left away ∙ s.at); inside = s.inside }));
    }
