-- Every list of events from the opening state keeps what is known.
use Rattle.std.proofs.Common.{◌≡◌, ℕ, zero, suc, ◌+◌, ◌<◌, ◌≤◌, List, [], ◌∷◌, ◌++◌, subst, refl, sym, ap, ◌∙◌, arith, None}
use mathlib.Core.Option.{some, some-injective, some-ne-none}
use Rattle.nvm_store.specs.declared.place.Place.{Place}
use Rattle.nvm_store.specs.HistoryEntry.{HistoryEntry}
use Rattle.nvm_store.specs.History.{CanFollow, IsLawfulHistory}
use Rattle.nvm_unit.specs.declared.bounds.Bounds.{Bounds}
use Rattle.nvm_unit.specs.declared.views.PassView.{PassView}
use Rattle.nvm_unit.specs.declared.views.Group.{Group}
use Rattle.nvm_unit.specs.Views.{Begins, entries_by, RiseWithin, newcomer}
use Rattle.nvm_unit.specs.Machine.{UnitState, StandsAt, EachPass, IsHand, newcomers_from, newcomers, opening_state}
use Rattle.nvm_record.specs.Lists.{IsAt}
use Rattle.nvm_unit.specs.Events.{Event, loads, takes, misses, adds, returns, joins, splits, idle, Happens, Lead}
use Rattle.nvm_unit.specs.Knowledge.{Knows, IsKnown}
use Rattle.nvm_unit.proofs.Groups.{stands_one}
use Rattle.nvm_unit.proofs.Keeping.{keeps_look, keeps_take, keeps_return, keeps_put}
use Rattle.nvm_unit.proofs.Regrouping.{keeps_join, keeps_split}

-- An entry that can follow a lawful history makes a lawful one.
abbrev pub FollowsLawfully : Type 0
FollowsLawfully =
    (place : Place) (history : List HistoryEntry) (entry : HistoryEntry) → IsLawfulHistory place history
    → CanFollow place history entry → IsLawfulHistory place (history ++ entry ∷ [])

pub newcomer_back : (b : Bounds) (from n i : ℕ) (p : PassView) → IsAt (newcomers_from b from n) i p → (p ≡ newcomer b (from + i)) × (i < n)
newcomer_back b from zero i p e = absurd (some-ne-none p (sym e))
newcomer_back b from (suc n) zero p e = let m : from ≡ from + 0 = omega arith in (sym (some-injective (newcomer b from) p e) ∙ ap (newcomer b) m, omega arith)
newcomer_back b from (suc n) (suc i) p e =
    let m : suc from + i ≡ from + suc i = omega arith in
    let rest = newcomer_back b (suc from) n i p e in
    let lt : i < n = rest.1 in
    (rest.0 ∙ ap (newcomer b) m, omega arith)

newcomer_at : (b : Bounds) (from n i : ℕ) → i < n → IsAt (newcomers_from b from n) i (newcomer b (from + i))
newcomer_at b from zero i lt = absurd (omega arith)
newcomer_at b from (suc n) zero lt = let m : from ≡ from + 0 = omega arith in ap (λ (k : ℕ). some (newcomer b k)) m
newcomer_at b from (suc n) (suc i) lt =
    let m : suc from + i ≡ from + suc i = omega arith in
    subst (λ (k : ℕ). IsAt (newcomers_from b (suc from) n) i (newcomer b k)) m (newcomer_at b (suc from) n i (omega arith))

-- A pass of a new unit has seen and done nothing, and is at its number.
new_pass : (b : Bounds) (j i : ℕ) (p : PassView) → StandsAt (opening_state b).groups j i p → (j ≡ 0) × (p ≡ newcomer b i) × (i < b.passes)
new_pass b zero i p s =
    let at = newcomer_back b 0 b.passes i p (stands_one (opening_state b).groups 0 i (idle (newcomers b)) p refl s) in
    let m : 0 + i ≡ i = omega arith in
    (refl, at.0 ∙ ap (newcomer b) m, at.1)
new_pass b (suc j) i p s = absurd (some-ne-none s.group (sym s.at))

-- What holds of each pass of a new unit.
each_new : (P : PassView → Type 0) (b : Bounds) → ((number : ℕ) → number < b.passes → P (newcomer b number)) → EachPass P (opening_state b).groups
each_new P b each j i p s = let new = new_pass b j i p s in subst P (sym new.1) (each i new.2)

idle_holds_none : (b : Bounds) (j : ℕ) (g : Group) → IsAt (opening_state b).groups j g → idle (newcomers b) ≡ g
idle_holds_none b zero g e = some-injective (idle (newcomers b)) g e
idle_holds_none b (suc j) g e = absurd (some-ne-none g (sym e))

pub opening_kept : (b : Bounds) → IsKnown b (opening_state b)
opening_kept b =
    record {
      sound = record {
        hold = record {
          lawful = λ i entry at. absurd (some-ne-none entry (sym at));
          within = omega arith;
          rests = (refl, refl);
          holder = λ j is. absurd (cc);
          others = λ j g at. subst (λ (x : Group). IsHand None [] j x.held) (idle_holds_none b j g at) tt;
          seen = each_new (λ p. Begins p.seen []) b (λ number lt. ([], refl));
        };
        marks = record {
          marks = each_new (λ p. RiseWithin 0 p.marks p.floor) b (λ number lt. omega arith);
          floors = each_new (λ p. p.floor ≤ 0) b (λ number lt. omega arith);
          bears = λ k entry at. absurd (some-ne-none entry (sym at));
          mine = each_new (λ p. entries_by p.number [] ≡ p.mine) b (λ number lt. refl);
        };
      };
      spot = λ number. (0, number);
      placed = record {
        below = each_new (λ p. p.number < b.passes) b (λ number lt. lt);
        here = λ j i p s.
            let new = new_pass b j i p s in
            ap (λ (x : PassView). let y : ℕ × ℕ = (0, x.number) in y) new.1 ∙ ap (λ (x : ℕ). let y : ℕ × ℕ = (x, i) in y) (sym new.0);
        all = λ number lt. (
          newcomer b number,
          record { group = idle (newcomers b); at = refl; inside = (let m : 0 + number ≡ number = omega arith in subst (λ (k : ℕ). IsAt (newcomers b) number (newcomer b k)) m (newcomer_at b 0 b.passes number lt)) },
          refl,
        );
      };
      knows = each_new (Knows b) b (λ number lt. record { bounds = refl; own = refl });
      hands = λ j g held at is. let x : None ≡ g.held = ap (λ (y : Group). y.held) (idle_holds_none b j g at) in absurd (cc);
    }

pub event_kept : FollowsLawfully → (b : Bounds) (s : UnitState) (event : Event) (t : UnitState) → IsKnown b s → Happens b s event t → IsKnown b t
event_kept law b s (loads j decides) t kept h = subst (IsKnown b) (sym h.2) (keeps_look b s kept j h.0 decides h.1)
event_kept law b s (takes j) t kept h = subst (IsKnown b) (sym h.3) (keeps_take b s kept j h.0 h.1 h.2)
event_kept law b s (misses j decides) t kept h = subst (IsKnown b) (sym h.2) (keeps_look b s kept j h.0 decides h.1)
event_kept law b s (adds j entry) t kept h =
    subst (IsKnown b) (sym h.3)
    (keeps_put b s kept j h.0 h.1 entry h.2 (law b.place s.history entry kept.sound.hold.lawful h.2.follows))
event_kept law b s (returns j decides) t kept h = subst (IsKnown b) (sym h.3) (keeps_return b s kept j h.0 decides h.1 h.2)
event_kept law b s (joins j k) t kept h = subst (IsKnown b) (sym h.5) (keeps_join b s kept j k h.0 h.1 h.2 h.3 h.4)
event_kept law b s (splits j first) t kept h = subst (IsKnown b) (sym h.2) (keeps_split b s kept j first h.0 h.1)

pub events_kept : FollowsLawfully → (b : Bounds) (s : UnitState) (events : List Event) (t : UnitState) → IsKnown b s → Lead b s events t → IsKnown b t
events_kept law b s [] t kept same = subst (IsKnown b) (sym same) kept
events_kept law b s (event ∷ events) t kept leads = events_kept law b leads.0 events t (event_kept law b s event leads.0 kept leads.1) leads.2
