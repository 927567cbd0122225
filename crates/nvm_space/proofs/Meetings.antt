-- One pass of a port that becomes another, and two ports that meet unit by unit.
use Rattle.std.proofs.Common.{◌≡◌, ℕ, ◌+◌, ◌<◌, ◌≤◌, List, length, set, get_or, sym, ap, ◌∙◌, subst, arith, inl, inr}
use Rattle.std.proofs.lemmas.List.{length-set, map-set}
use Rattle.nvm_record.specs.Lists.{IsAt}
use Rattle.nvm_geometry.specs.Boundaries.{units_of}
use Rattle.nvm_geometry.specs.Namespace.{Namespace}
use Rattle.nvm_unit.specs.declared.views.PassView.{PassView}
use Rattle.nvm_unit.specs.Ends.{views_of}
use Rattle.nvm_unit.specs.Passes.{UnitName, PassState, IsPassOf, IsProperPass}
use Rattle.nvm_unit.specs.Replies.{Meet}
use Rattle.nvm_space.specs.Inside.Meeting.{MeetBelow}
use Rattle.nvm_space.specs.Ports.{ArePassesOfAll}
use Rattle.nvm_space.specs.Visits.{BecomesAt, MeetInEach}
use Rattle.nvm_space.proofs.Lists.{at_one, at_below, at_index, at_set, at_map, at_map_back}

-- The passes are still those of all units where one of them became another of its unit.
pub still_of_all : (units : List UnitName) (n k : ℕ) (passes : List PassState) (unit : UnitName) (after : PassState) → ArePassesOfAll units n passes
    → IsAt units k unit → IsPassOf unit after → after.view.number ≡ n → ArePassesOfAll units n (set passes k after)
still_of_all units n k passes unit after all at of number = record {
  count = length-set passes k after ∙ all.count;
  each = λ j u pass in_units in_passes.
      elim (at_set passes k j after pass in_passes) [
        | inl same ↦
            let here : unit ≡ u = at_one units k unit u at (subst (λ (i : ℕ). IsAt units i u) same.0 in_units) in
            subst (λ (p : PassState). IsPassOf u p × (p.view.number ≡ n)) (sym same.1) (subst (λ (x : UnitName). IsPassOf x after) here of, number)
        | inr other ↦ all.each j u pass in_units other.1
      ];
}

pub none_met : (old other : List PassState) → MeetBelow 0 old other old other
none_met old other = record {
  met = λ k p o q r lt in_old in_other in_new in_new_other. absurd (omega arith);
  rest = λ k p q le in_old in_new. at_one old k q p in_new in_old;
  other_rest = λ k o r le in_old in_new. at_one other k r o in_new in_old;
}

-- The passes of one unit more met.
pub met_one_more : (n : ℕ) (old old_other now now_other : List PassState) (p o q r : PassState) → MeetBelow n old old_other now now_other
    → IsAt now n p → IsAt now_other n o → Meet p.view o.view q.view r.view → IsProperPass q.view → IsProperPass r.view
    → MeetBelow (n + 1) old old_other (set now n q) (set now_other n r)
met_one_more n old old_other now now_other p o q r below at at_other meets proper proper_other = record {
  met = λ k a b c d lt in_old in_other in_new in_new_other.
      elim (at_set now n k q c in_new) [
        | inl same ↦
            let first : p ≡ a = below.rest n a p (omega arith) (subst (λ (i : ℕ). IsAt old i a) same.0 in_old) at in
            let second : o ≡ b = below.other_rest n b o (omega arith) (subst (λ (i : ℕ). IsAt old_other i b) same.0 in_other) at_other in
            let last : d ≡ r = elim (at_set now_other n k r d in_new_other) [
              | inl here ↦ here.1
              | inr apart ↦ absurd (apart.0 same.0)
            ] in
            subst (λ (x : PassState). Meet a.view b.view c.view x.view × IsProperPass c.view × IsProperPass x.view) (sym last)
            (subst (λ (x : PassState). Meet a.view b.view x.view r.view × IsProperPass x.view × IsProperPass r.view) (sym same.1)
            (subst (λ (x : PassState). Meet x.view b.view q.view r.view) first (subst (λ (x : PassState). Meet p.view x.view q.view r.view) second meets), proper, proper_other))
        | inr other ↦
            let apart = other.0 in
            elim (at_set now_other n k r d in_new_other) [
              | inl here ↦ absurd (apart here.0)
              | inr too ↦ below.met k a b c d (omega arith) in_old in_other other.1 too.1
            ]
      ];
  rest = λ k a c le in_old in_new.
      elim (at_set now n k q c in_new) [
        | inl same ↦ absurd (let e = same.0 in omega arith)
        | inr other ↦ below.rest k a c (omega arith) in_old other.1
      ];
  other_rest = λ k b d le in_old in_new.
      elim (at_set now_other n k r d in_new) [
        | inl same ↦ absurd (let e = same.0 in omega arith)
        | inr other ↦ below.other_rest k b d (omega arith) in_old other.1
      ];
}

-- The unit at a place, and the port's pass of it.
module _ (ns : Namespace) (units inner : List UnitName) (n k place : ℕ) (passes : List PassState) (unit : UnitName) (pass : PassState)
    (count : length units ≡ units_of ns) (inner_is : inner ≡ units) (all : ArePassesOfAll units n passes) (known : k < units_of ns) (same : place ≡ k)
    (unit_is : unit ≡ get_or inner place unit) (pass_is : pass ≡ get_or passes place pass) where
  pub unit_there : IsAt units place unit
  unit_there = at_index units place unit (omega arith) (unit_is ∙ ap (λ (us : List UnitName). get_or us place unit) inner_is)

  pub pass_there : IsAt passes place pass
  pass_there = let counts : length passes ≡ length units = all.count in at_index passes place pass (omega arith) pass_is

  pub of_unit : IsPassOf unit pass
  of_unit = (all.each place unit pass unit_there pass_there).0

  pub of_number : pass.view.number ≡ n
  of_number = (all.each place unit pass unit_there pass_there).1

  pub still_all : (after : PassState) → IsPassOf unit after → after.view.number ≡ pass.view.number → ArePassesOfAll units n (set passes place after)
  still_all after of number = still_of_all units n place passes unit after all unit_there of (number ∙ of_number)

  pub becomes : (So : PassView → PassView → Type 0) (old : List PassState) (after : PassState) → passes ≡ old → So pass.view after.view → IsProperPass after.view
      → BecomesAt k So (views_of old) (views_of (set passes place after))
  becomes So old after is so proper =
      let there : IsAt old k pass = subst (λ (ps : List PassState). IsAt ps k pass) is (subst (λ (i : ℕ). IsAt passes i pass) same pass_there) in
      record {
        before = pass.view;
        after = after.view;
        was = at_map (λ (x : PassState). x.view) old k pass there;
        so = so;
        proper = proper;
        others = map-set (λ (x : PassState). x.view) passes place after
            ∙ (ap (λ (ps : List PassState). set (views_of ps) place after.view) is ∙ ap (λ (i : ℕ). set (views_of old) i after.view) same);
      }

  pub after_there : (after : PassState) (view : PassView) → IsAt (views_of (set passes place after)) k view → view ≡ after.view
  after_there after view in_views =
      let p = at_map_back (λ (x : PassState). x.view) (set passes place after) k view in_views in
      elim (at_set passes place k after p.0 p.1) [
        | inl here ↦ p.2 ∙ ap (λ (x : PassState). x.view) here.1
        | inr apart ↦ absurd (apart.0 (sym same))
      ]

pub all_met : (n : ℕ) (old old_other new new_other : List PassState) → MeetBelow n old old_other new new_other → length old ≤ n
    → MeetInEach (views_of old) (views_of old_other) (views_of new) (views_of new_other)
all_met n old old_other new new_other below all k p o q r in_old in_other in_new in_new_other =
    let a = at_map_back (λ (x : PassState). x.view) old k p in_old in
    let b = at_map_back (λ (x : PassState). x.view) old_other k o in_other in
    let c = at_map_back (λ (x : PassState). x.view) new k q in_new in
    let d = at_map_back (λ (x : PassState). x.view) new_other k r in_new_other in
    let met = below.met k a.0 b.0 c.0 d.0 (let lt = at_below old k a.0 a.1 in omega arith) a.1 b.1 c.1 d.1 in
    let here : Meet a.0.view b.0.view q r × IsProperPass q × IsProperPass r =
    subst (λ (y : PassView). Meet a.0.view b.0.view q y × IsProperPass q × IsProperPass y) (sym d.2)
    (subst (λ (x : PassView). Meet a.0.view b.0.view x d.0.view × IsProperPass x × IsProperPass d.0.view) (sym c.2) met) in
    subst (λ (x : PassView). Meet x o q r × IsProperPass q × IsProperPass r) (sym a.2)
    (subst (λ (x : PassView). Meet a.0.view x q r × IsProperPass q × IsProperPass r) (sym b.2) here)
