-- A table whose passes are all at one seat.
use Rattle.std.proofs.Common.{◌≡◌, ℕ, zero, suc, ◌<◌, List, [], ◌∷◌, length, subst, refl, sym, ap, ◌∙◌, arith, Option, Some, None}
use mathlib.Core.Option.{some, none}
use mathlib.Core.Option as there
use lib.ListN.{get_elem?}
use Rattle.atomic_table.specs.Table.{State, Final, Seen}
use Rattle.nvm_store.specs.HistoryEntry.{HistoryEntry}
use Rattle.nvm_unit.specs.declared.bounds.Bounds.{Bounds}
use Rattle.nvm_unit.specs.declared.views.PassView.{PassView}
use Rattle.nvm_unit.specs.declared.views.Group.{Group}
use Rattle.nvm_unit.specs.Inside.Book.{Recorded, recorded}
use Rattle.nvm_unit.specs.Ends.{HasCome, IsWholeHistory}
use Rattle.nvm_unit.specs.Inside.Seats.{AreAllViews}
use Rattle.nvm_unit.specs.Events.{idle}
use Rattle.nvm_unit.specs.Knowledge.{IsKnown}
use Rattle.nvm_unit.specs.Machine.{UnitState, StandsAt, RestsAs}
use Rattle.nvm_record.specs.Lists.{IsAt}
use Rattle.nvm_unit.specs.Inside.Rule.{slots_of, IsRuled}
use Rattle.nvm_unit.proofs.Allowed.{history_of, fitting}
use Rattle.nvm_unit.proofs.OnePass.{finds_of}
use Rattle.nvm_unit.proofs.Lists.{at_one}

-- Something is at each place below the length.
at_some : (ps : List PassView) (i : ℕ) → i < length ps → (p : PassView) × IsAt ps i p
at_some [] i lt = absurd (omega arith)
at_some (p ∷ ps) zero lt = (p, refl)
at_some (p ∷ ps) (suc i) lt = at_some ps i (omega arith)

-- Nobody holds the unit: each pass is one of these, and they rest.
unheld : (b : Bounds) (s : UnitState) → IsKnown b s → (id : ℕ) (ps : List PassView) → IsAt s.groups id (idle ps) → AreAllViews b.passes ps
    → (holder : Option ℕ) → s.holder ≡ holder → s.holder ≡ None
unheld b s kept id ps at all None is = is
unheld b s kept id ps at all (Some j) is =
    let held = kept.sound.hold.holder j is in
    let filled : 0 < length held.0.passes = kept.hands j held.0 s.history held.1 held.2 in
    let q = at_some held.0.passes 0 filled in
    let stands : StandsAt s.groups j 0 q.0 = record { group = held.0; at = held.1; inside = q.1 } in
    let lt : q.0.number < b.passes = kept.placed.below j 0 q.0 stands in
    let count : length ps ≡ b.passes = all.count in
    let p = at_some ps q.0.number (omega arith) in
    let mine : StandsAt s.groups id q.0.number p.0 = record { group = idle ps; at = at; inside = p.1 } in
    let number : p.0.number ≡ q.0.number = all.each q.0.number p.0 p.1 in
    let place : id ≡ j =
    ap (λ (x : ℕ × ℕ). x.0) (sym (kept.placed.here id q.0.number p.0 mine) ∙ (ap kept.spot number ∙ kept.placed.here j 0 q.0 stands)) in
    let same : idle ps ≡ held.0 = at_one s.groups j (idle ps) held.0 (subst (λ (k : ℕ). IsAt s.groups k (idle ps)) place at) held.1 in
    let nothing : None ≡ Some s.history = ap (λ (g : Group). g.held) same ∙ held.2 in
    absurd (cc)

-- The slot is home with the history.
at_home : (b : Bounds) (s : UnitState) → IsKnown b s → (id : ℕ) (ps : List PassView) → IsAt s.groups id (idle ps) → AreAllViews b.passes ps → s.slot ≡ Some s.history
at_home b s kept id ps at all =
    let nobody : s.holder ≡ None = unheld b s kept id ps at all s.holder refl in
    let r : RestsAs None s.word s.slot s.history = subst (λ (h : Option ℕ). RestsAs h s.word s.slot s.history) nobody kept.sound.hold.rests in
    r.1

whole : (b : Bounds) (s : UnitState) → IsKnown b s → (id : ℕ) (ps : List PassView) → IsAt s.groups id (idle ps) → IsWholeHistory b ps s.history
whole b s kept id ps at =
    record {
      lawful = history_of b s kept;
      each = λ i p inside. finds_of b s.history p (fitting b s kept id (idle ps) at i p inside) (history_of b s kept);
      marks = λ i p inside. kept.sound.marks.marks id i p (record { group = idle ps; at = at; inside = inside });
    }

-- What lies in the slot at the end.
pub closing : (b : Bounds) (id : ℕ) (ps : List PassView) (words : List ℕ) (slots : List (Option Recorded)) → AreAllViews b.passes ps
    → Final (Seen (IsRuled b) id (idle ps)) words slots → (h : List HistoryEntry) × IsAt slots 0 (Some (recorded b h)) × IsWholeHistory b ps h × HasCome b ps h
closing b id ps words slots all final =
    let t = final.0 in
    let ruled = final.1.0 in
    let s = ruled.0 in
    let kept = ruled.2 in
    let at : IsAt s.groups id (idle ps) = subst (λ (x : State (Option Recorded) Group). get_elem? x.views id ≡ some (idle ps)) ruled.1 final.1.1 in
    let home : s.slot ≡ Some s.history = at_home b s kept id ps at all in
    let homes : t.homes ≡ some (Some (recorded b s.history)) ∷ [] =
    ap (λ (x : State (Option Recorded) Group). x.homes) ruled.1 ∙ ap (slots_of b) home in (
      s.history,
      final.4 0 (Some (recorded b s.history)) (ap (λ (hs : List (there.Option (Option Recorded))). get_elem? hs 0) homes),
      whole b s kept id ps at,
      (s, id, ruled.3, refl, at),
    )
