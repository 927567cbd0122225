-- Each event keeps what is known of the unit.
use Rattle.std.proofs.Common.{◌≡◌, ◌≢◌, ℕ, ◌+◌, ◌*◌, ◌/◌, ◌<◌, ◌≤◌, List, [], ◌∷◌, ◌++◌, length, map, set, subst, refl, sym, ap, ◌∙◌, arith, inl, inr, Bool, false, Option, Some, None}
use mathlib.Core.Logic.{dite}
use native.Mathlib.Decide.{ℕ_discrete}
use Rattle.atomic_table.proofs.Lists.{at_set, set_here, set_else, at_snoc}
use Rattle.std.proofs.lemmas.List.{length-append, length-map}
use Rattle.nvm_store.specs.HistoryEntry.{HistoryEntry}
use Rattle.nvm_store.specs.History.{IsLawfulHistory}
use Rattle.nvm_unit.specs.declared.bounds.Bounds.{Bounds}
use Rattle.nvm_unit.specs.declared.views.PassView.{PassView}
use Rattle.nvm_unit.specs.declared.views.Group.{Group}
use Rattle.nvm_unit.specs.Views.{Begins, entries_by, RiseWithin, marks_after, looked, shown, added}
use Rattle.nvm_unit.specs.Machine.{UnitState, StandsAt, EachPass, RestsAs, IsHand, IsHeld, AreMarked}
use Rattle.nvm_record.specs.Lists.{IsAt}
use Rattle.nvm_unit.specs.Events.{number_found, idle, CanStep, CanAdd, after_look, after_take, after_put, after_return}
use Rattle.nvm_unit.specs.Knowledge.{ArePlaced, Knows, IsKnown}
use Rattle.nvm_unit.proofs.Lists.{at_one, at_below}
use Rattle.nvm_unit.proofs.Groups.{each_moved, placed_moved, numbered, numbered_below, number_apart, at_single, stands_one}
use Rattle.nvm_unit.proofs.Histories.{begins_itself, begins_more, entries_more, entries_same, rise_after, rise_more, number_is}

abbrev state : ℕ → Option (List HistoryEntry) → List HistoryEntry → Option ℕ → List Group → UnitState
state word slot history holder groups =
    record { word = word; slot = slot; history = history; holder = holder; groups = groups }

-- A step finds as many entries as there are.
pub found_is : (b : Bounds) (s : UnitState) → IsHeld b s → number_found s ≡ length s.history
found_is b s hold = number_is s.holder s.word s.slot s.history hold.rests

-- A step that found n entries left the pass its number and its own entries.
pub record IsStep (decides : Bool) (n : ℕ) (f : PassView → PassView) : Type 0 where
  pub number : (p : PassView) → (f p).number ≡ p.number
  pub bounds : (p : PassView) → (f p).bounds ≡ p.bounds
  pub mine : (p : PassView) → (f p).mine ≡ p.mine
  pub marks : (p : PassView) → (f p).marks ≡ marks_after decides n p.marks
  pub floor : (p : PassView) → (f p).floor ≡ n

looked_is : (decides : Bool) (n : ℕ) → IsStep decides n (looked decides n)
looked_is decides n = record { number = λ p. refl; bounds = λ p. refl; mine = λ p. refl; marks = λ p. refl; floor = λ p. refl }

shown_is : (decides : Bool) (n : ℕ) (history : List HistoryEntry) → IsStep decides n (shown decides n history)
shown_is decides n history = record { number = λ p. refl; bounds = λ p. refl; mine = λ p. refl; marks = λ p. refl; floor = λ p. refl }

-- The marks of a pass after such a step rise.
rise_step : (decides : Bool) (n : ℕ) (f : PassView → PassView) (p : PassView) → IsStep decides n f
    → RiseWithin 0 p.marks p.floor → p.floor ≤ n → RiseWithin 0 (f p).marks (f p).floor
rise_step decides n f p is rises le =
    subst (λ (ms : List ℕ). RiseWithin 0 ms (f p).floor) (sym (is.marks p))
    (subst (λ (m : ℕ). RiseWithin 0 (marks_after decides n p.marks) m) (sym (is.floor p)) (rise_after decides p.marks p.floor n rises le))

module _ (b : Bounds) (s : UnitState) (kept : IsKnown b s) (j : ℕ) (g g' : Group) (at : IsAt s.groups j g) where
  module _ (decides : Bool) (f : PassView → PassView) (is : g'.passes ≡ map f g.passes) (step : IsStep decides (number_found s) f) where
    -- What the passes have found and done, after a step that leaves the history.
    same_marks : (word : ℕ) (slot : Option (List HistoryEntry)) (holder : Option ℕ) → AreMarked (state word slot s.history holder (set s.groups j g'))
    same_marks word slot holder =
        let old = kept.sound.marks in
        let n = number_found s in
        let now : n ≡ length s.history = found_is b s kept.sound.hold in
        let placed : ArePlaced b.passes kept.spot (set s.groups j g') = placed_moved b.passes kept.spot s.groups j g g' f at is step.number kept.placed in
        record {
          marks = each_moved (λ p. RiseWithin 0 p.marks p.floor) (λ p. RiseWithin 0 p.marks p.floor) s.groups j g g' f at is old.marks
              (λ i p stands rises. let low : p.floor ≤ length s.history = old.floors j i p stands in rise_step decides n f p step rises (omega arith))
              (λ k i p away stands rises. rises);
          floors = each_moved (λ p. p.floor ≤ length s.history) (λ p. p.floor ≤ length s.history) s.groups j g g' f at is old.floors
              (λ i p stands low. let e : (f p).floor ≡ n = step.floor p in omega arith)
              (λ k i p away stands low. low);
          bears = λ k entry line_at.
              numbered b.passes kept.spot (set s.groups j g') placed entry.pass
              (numbered_below b.passes kept.spot s.groups kept.placed entry.pass (old.bears k entry line_at));
          mine = each_moved (λ p. entries_by p.number s.history ≡ p.mine) (λ p. entries_by p.number s.history ≡ p.mine) s.groups j g g' f at is old.mine
              (λ i p stands own. ap (λ (m : ℕ). entries_by m s.history) (step.number p) ∙ (own ∙ sym (step.mine p)))
              (λ k i p away stands own. own);
        }

    -- What goes beyond, after such a step.
    same_placed : ArePlaced b.passes kept.spot (set s.groups j g')
    same_placed = placed_moved b.passes kept.spot s.groups j g g' f at is step.number kept.placed

    same_knows : ((i : ℕ) (p : PassView) → StandsAt s.groups j i p → entries_by p.number p.seen ≡ p.mine → entries_by (f p).number (f p).seen ≡ (f p).mine)
        → EachPass (Knows b) (set s.groups j g')
    same_knows own =
        each_moved (Knows b) (Knows b) s.groups j g g' f at is kept.knows
        (λ i p stands knows. record { bounds = step.bounds p ∙ knows.bounds; own = own i p stands knows.own })
        (λ k i p away stands knows. knows)

  -- A spent group doesn't hold the unit, where the one that stepped isn't spent.
  same_hands : 0 < length g'.passes → (k : ℕ) (x : Group) (held : List HistoryEntry) → IsAt (set s.groups j g') k x → x.held ≡ Some held → 0 < length x.passes
  same_hands filled k x held x_at holds =
      elim (at_set s.groups j k g' x x_at) [
        | inl here ↦ subst (λ (y : Group). 0 < length y.passes) here.1 filled
        | inr else_ ↦ kept.hands k x held else_.1 holds
      ]

-- A group that isn't the holder holds nothing, whoever is.
hand_free : (history : List HistoryEntry) (holder : Option ℕ) (k : ℕ) (held : Option (List HistoryEntry)) → IsHand None history k held → IsHand holder history k held
hand_free history holder k None hand = tt
hand_free history holder k (Some h) hand = let x = hand.0 in absurd (cc)

hand_else : (history history' : List HistoryEntry) (j k : ℕ) (holder : Option ℕ) (held : Option (List HistoryEntry)) → k ≢ j → IsHand (Some j) history k held → IsHand holder history' k held
hand_else history history' j k holder None away hand = tt
hand_else history history' j k holder (Some h) away hand = let x : Some j ≡ Some k = hand.0 in let y : j ≡ k = cc in absurd (away (sym y))

hand_same : (history : List HistoryEntry) (holder : Option ℕ) (k : ℕ) (a b : Option (List HistoryEntry)) → a ≡ b → IsHand holder history k a → IsHand holder history k b
hand_same history holder k a b same hand = subst (λ (x : Option (List HistoryEntry)). IsHand holder history k x) same hand

-- An even word says that nobody holds the unit.
free : (holder : Option ℕ) (word : ℕ) (slot : Option (List HistoryEntry)) (history : List HistoryEntry) → RestsAs holder word slot history → word ≡ 2 * (word / 2) → holder ≡ None
free None word slot history rests even = refl
free (Some j) word slot history rests even = let h = rests.0 in absurd (omega arith)

-- There are as many passes as before.
map_filled : (f : PassView → PassView) (ps : List PassView) → 0 < length ps → 0 < length (map f ps)
map_filled f ps filled = omega (arith, length-map ps f)

module _ (b : Bounds) (s : UnitState) (kept : IsKnown b s) where
  -- A load, or a compare_exchange that is lost.
  pub keeps_look : (j : ℕ) (g : Group) (decides : Bool) → CanStep s j g decides → IsKnown b (after_look s j g decides)
  keeps_look j g decides can =
      let n = number_found s in
      let g' : Group = record g { passes = map (looked decides n) g.passes } in
      let hold = kept.sound.hold in
      record {
        sound = record {
          hold = record {
            lawful = hold.lawful;
            within = hold.within;
            rests = hold.rests;
            holder = λ k is.
                let old = hold.holder k is in
                dite (ℕ_discrete k j)
                (λ here.
                let same : old.0 ≡ g = at_one s.groups j old.0 g (subst (λ (m : ℕ). IsAt s.groups m old.0) here old.1) can.at in
                (g', subst (λ (m : ℕ). IsAt (set s.groups j g') m g') (sym here) (set_here s.groups j g' (at_below s.groups j g can.at)), ap (λ (x : Group). x.held) (sym same) ∙ old.2))
                (λ away. (old.0, set_else s.groups j k g' away ∙ old.1, old.2));
            others = λ k x x_at.
                elim (at_set s.groups j k g' x x_at) [
                  | inl here ↦
                      hand_same s.history s.holder k g.held x.held (ap (λ (y : Group). y.held) here.1)
                      (subst (λ (m : ℕ). IsHand s.holder s.history m g.held) (sym here.0) (hold.others j g can.at))
                  | inr else_ ↦ hold.others k x else_.1
                ];
            seen = each_moved (λ p. Begins p.seen s.history) (λ p. Begins p.seen s.history) s.groups j g g' (looked decides n) can.at refl hold.seen (λ i p stands begins. begins) (λ k i p away stands begins. begins);
          };
          marks = same_marks b s kept j g g' can.at decides (looked decides n) refl (looked_is decides n) s.word s.slot s.holder;
        };
        spot = kept.spot;
        placed = same_placed b s kept j g g' can.at decides (looked decides n) refl (looked_is decides n);
        knows = same_knows b s kept j g g' can.at decides (looked decides n) refl (looked_is decides n) (λ i p stands own. own);
        hands = same_hands b s kept j g g' can.at (map_filled (looked decides n) g.passes can.some);
      }

  -- A take: nobody held the unit.
  pub free_is : s.word ≡ 2 * number_found s → s.holder ≡ None
  free_is even = free (s.holder) s.word s.slot s.history kept.sound.hold.rests even

  pub keeps_take : (j : ℕ) (g : Group) → CanStep s j g false → s.word ≡ 2 * number_found s → IsKnown b (after_take s j g)
  keeps_take j g can even =
      let n = number_found s in
      let g' : Group = record { passes = map (looked false n) g.passes; held = s.slot } in
      let hold = kept.sound.hold in
      let now : n ≡ length s.history = found_is b s hold in
      let nobody : s.holder ≡ None = free_is even in
      let home : s.slot ≡ Some s.history = (let r : RestsAs None s.word s.slot s.history = subst (λ (h : Option ℕ). RestsAs h s.word s.slot s.history) nobody hold.rests in r.1) in
      record {
        sound = record {
          hold = record {
            lawful = hold.lawful;
            within = hold.within;
            rests = (omega arith, refl);
            holder = λ k is.
                let here : k ≡ j = cc in
                (g', subst (λ (m : ℕ). IsAt (set s.groups j g') m g') (sym here) (set_here s.groups j g' (at_below s.groups j g can.at)), home);
            others = λ k x x_at.
                elim (at_set s.groups j k g' x x_at) [
                  | inl here ↦
                      hand_same s.history (Some j) k (Some s.history) x.held (sym home ∙ ap (λ (y : Group). y.held) here.1)
                      (ap Some (sym here.0), refl)
                  | inr else_ ↦ hand_free s.history (Some j) k x.held (subst (λ (h : Option ℕ). IsHand h s.history k x.held) nobody (hold.others k x else_.1))
                ];
            seen = each_moved (λ p. Begins p.seen s.history) (λ p. Begins p.seen s.history) s.groups j g g' (looked false n) can.at refl hold.seen (λ i p stands begins. begins) (λ k i p away stands begins. begins);
          };
          marks = same_marks b s kept j g g' can.at false (looked false n) refl (looked_is false n) (2 * n + 1) None (Some j);
        };
        spot = kept.spot;
        placed = same_placed b s kept j g g' can.at false (looked false n) refl (looked_is false n);
        knows = same_knows b s kept j g g' can.at false (looked false n) refl (looked_is false n) (λ i p stands own. own);
        hands = same_hands b s kept j g g' can.at (map_filled (looked false n) g.passes can.some);
      }

  -- What the holder holds is the history.
  pub held_is : (j : ℕ) (g : Group) → IsAt s.groups j g → s.holder ≡ Some j → g.held ≡ Some s.history
  held_is j g at is =
      let old = kept.sound.hold.holder j is in
      ap (λ (x : Group). x.held) (at_one s.groups j g old.0 at old.1) ∙ old.2

  -- A put that leaves the history.
  pub keeps_return : (j : ℕ) (g : Group) (decides : Bool) → CanStep s j g decides → s.holder ≡ Some j → IsKnown b (after_return s j g decides)
  keeps_return j g decides can holds =
      let n = number_found s in
      let g' : Group = idle (map (shown decides n s.history) g.passes) in
      let hold = kept.sound.hold in
      let now : n ≡ length s.history = found_is b s hold in
      record {
        sound = record {
          hold = record {
            lawful = hold.lawful;
            within = hold.within;
            rests = (omega arith, held_is j g can.at holds);
            holder = λ k is. absurd (cc);
            others = λ k x x_at.
                elim (at_set s.groups j k g' x x_at) [
                  | inl here ↦ hand_same s.history None k None x.held (ap (λ (y : Group). y.held) here.1) tt
                  | inr else_ ↦ hand_else s.history s.history j k None x.held else_.0 (subst (λ (h : Option ℕ). IsHand h s.history k x.held) holds (hold.others k x else_.1))
                ];
            seen = each_moved (λ p. Begins p.seen s.history) (λ p. Begins p.seen s.history) s.groups j g g' (shown decides n s.history) can.at refl hold.seen (λ i p stands begins. begins_itself s.history) (λ k i p away stands begins. begins);
          };
          marks = same_marks b s kept j g g' can.at decides (shown decides n s.history) refl (shown_is decides n s.history) (2 * n) g.held None;
        };
        spot = kept.spot;
        placed = same_placed b s kept j g g' can.at decides (shown decides n s.history) refl (shown_is decides n s.history);
        knows = same_knows b s kept j g g' can.at decides (shown decides n s.history) refl (shown_is decides n s.history) (λ i p stands own. kept.sound.marks.mine j i p stands);
        hands = same_hands b s kept j g g' can.at (map_filled (shown decides n s.history) g.passes can.some);
      }

  -- The pass that put the entry has it as its own.
  put_mine : (j : ℕ) (p : PassView) (entry : HistoryEntry) → entry.pass ≡ p.number → (n : ℕ) → n ≡ length s.history → (i : ℕ) (q : PassView) → p ≡ q
      → entries_by q.number s.history ≡ q.mine → entries_by q.number (s.history ++ entry ∷ []) ≡ q.mine ++ (n, entry) ∷ []
  put_mine j p entry number n now i q is own =
      entries_more q.number s.history entry (number ∙ ap (λ (x : PassView). x.number) is)
      ∙ (ap (λ (x : List (ℕ × HistoryEntry)). x ++ (length s.history, entry) ∷ []) own
      ∙ ap (λ (m : ℕ). q.mine ++ (m, entry) ∷ []) (sym now))

  -- A put with one entry more.
  pub keeps_put : (j : ℕ) (p : PassView) (held : List HistoryEntry) (entry : HistoryEntry) → CanAdd b s j p held entry
      → IsLawfulHistory b.place (s.history ++ entry ∷ []) → IsKnown b (after_put s j p held entry)
  keeps_put j p held entry can lawful =
      let n = number_found s in
      let g : Group = record { passes = p ∷ []; held = Some held } in
      let f : PassView → PassView = added n s.history entry in
      let g' : Group = idle (f p ∷ []) in
      let hold = kept.sound.hold in
      let old = kept.sound.marks in
      let now : n ≡ length s.history = found_is b s hold in
      let room : n < b.limit = can.room in
      let longer : length (s.history ++ entry ∷ []) ≡ n + 1 = omega (arith, length-append s.history (entry ∷ [])) in
      let same : Some held ≡ Some s.history = held_is j g can.at can.holds in
      let held_same : held ≡ s.history = cc in
      let mover : StandsAt s.groups j 0 p = record { group = g; at = can.at; inside = refl } in
      let placed : ArePlaced b.passes kept.spot (set s.groups j g') = placed_moved b.passes kept.spot s.groups j g g' f can.at refl (λ q. refl) kept.placed in
      let is_mover : (i : ℕ) (q : PassView) → StandsAt s.groups j i q → p ≡ q = λ i q stands. at_single p q i (stands_one s.groups j i g q can.at stands) in
      record {
        sound = record {
          hold = record {
            lawful = lawful;
            within = omega arith;
            rests = (omega arith, ap (λ (x : List HistoryEntry). Some (x ++ entry ∷ [])) held_same);
            holder = λ k is. absurd (cc);
            others = λ k x x_at.
                elim (at_set s.groups j k g' x x_at) [
                  | inl here ↦ hand_same (s.history ++ entry ∷ []) None k None x.held (ap (λ (y : Group). y.held) here.1) tt
                  | inr else_ ↦ hand_else s.history (s.history ++ entry ∷ []) j k None x.held else_.0 (subst (λ (h : Option ℕ). IsHand h s.history k x.held) can.holds (hold.others k x else_.1))
                ];
            seen = each_moved (λ q. Begins q.seen s.history) (λ q. Begins q.seen (s.history ++ entry ∷ [])) s.groups j g g' f can.at refl hold.seen
                (λ i q stands begins. begins_itself (s.history ++ entry ∷ []))
                (λ k i q away stands begins. begins_more q.seen s.history entry begins);
          };
          marks = record {
            marks = each_moved (λ q. RiseWithin 0 q.marks q.floor) (λ q. RiseWithin 0 q.marks q.floor) s.groups j g g' f can.at refl old.marks
                (λ i q stands rises. let low : q.floor ≤ length s.history = old.floors j i q stands in rise_more 0 q.marks q.floor n rises (omega arith))
                (λ k i q away stands rises. rises);
            floors = each_moved (λ q. q.floor ≤ length s.history) (λ q. q.floor ≤ length (s.history ++ entry ∷ [])) s.groups j g g' f can.at refl old.floors
                (λ i q stands low. omega arith) (λ k i q away stands low. omega arith);
            bears = λ k x x_at.
                elim (at_snoc s.history entry x k x_at) [
                  | inl before ↦
                      numbered b.passes kept.spot (set s.groups j g') placed x.pass
                      (numbered_below b.passes kept.spot s.groups kept.placed x.pass (old.bears k x before))
                  | inr last ↦
                      let lt : p.number < b.passes = kept.placed.below j 0 p mover in
                      let e : x.pass ≡ p.number = ap (λ (y : HistoryEntry). y.pass) (sym last) ∙ can.number in
                      numbered b.passes kept.spot (set s.groups j g') placed x.pass (omega arith)
                ];
            mine = each_moved (λ q. entries_by q.number s.history ≡ q.mine) (λ q. entries_by q.number (s.history ++ entry ∷ []) ≡ q.mine) s.groups j g g' f can.at refl old.mine
                (λ i q stands own. put_mine j p entry can.number n now i q (is_mover i q stands) own)
                (λ k i q away stands own.
                let apart : q.number ≢ p.number = number_apart b.passes kept.spot s.groups kept.placed j 0 k i p q mover stands away in
                entries_same q.number s.history entry (λ e. apart (sym e ∙ can.number)) ∙ own);
          };
        };
        spot = kept.spot;
        placed = placed;
        knows = each_moved (Knows b) (Knows b) s.groups j g g' f can.at refl kept.knows
            (λ i q stands knows. record { bounds = knows.bounds; own = put_mine j p entry can.number n now i q (is_mover i q stands) (old.mine j i q stands) })
            (λ k i q away stands knows. knows);
        hands = same_hands b s kept j g g' can.at (omega arith);
      }
