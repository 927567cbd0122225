-- A seat that puts the unit back keeps the rule of the table.
use Rattle.std.proofs.Common.{◌≡◌, ℕ, ◌+◌, ◌*◌, ◌<◌, List, [], ◌∷◌, ◌++◌, length, map, set, get_or, subst, refl, sym, ap, ◌∙◌, arith, inl, inr, Bool, true, Option, Some, None}
use mathlib.Core.Option.{some}
use Rattle.atomic_table.specs.Table.{Step, gives, Allows}
use Rattle.std.proofs.lemmas.List.{get_or_push}
use Rattle.nvm_store.specs.HistoryEntry.{HistoryEntry}
use Rattle.nvm_store.specs.History.{CanFollow}
use Rattle.nvm_unit.specs.declared.bounds.Bounds.{Bounds}
use Rattle.nvm_unit.specs.declared.views.PassView.{PassView}
use Rattle.nvm_unit.specs.declared.views.Group.{Group}
use Rattle.nvm_unit.specs.Views.{shown, added}
use Rattle.nvm_unit.specs.Machine.{UnitState, RestsAs, IsHand}
use Rattle.nvm_record.specs.Lists.{IsAt}
use Rattle.nvm_unit.specs.Events.{adds, returns, Happens, IsReached, number_found, idle, CanStep, CanAdd, after_put, after_return}
use Rattle.nvm_unit.specs.Knowledge.{IsKnown}
use Rattle.nvm_unit.specs.Inside.Book.{recorded}
use Rattle.nvm_unit.specs.Inside.Rule.{slots_of, IsRuled}
use Rattle.nvm_unit.specs.Inside.Parts.{held_history}
use Rattle.nvm_unit.specs.Inside.Plays.{Sits, resting, holding, EachIn, puts, CanReturn, CanAppend}
use Rattle.nvm_unit.proofs.EventsKept.{FollowsLawfully}
use Rattle.nvm_unit.proofs.Keeping.{found_is, keeps_return, keeps_put}
use Rattle.atomic_table.proofs.Lists.{set_here}
use Rattle.nvm_unit.proofs.Lists.{at_below}
use Rattle.nvm_unit.proofs.Reaching.{ruled_after}
use Rattle.nvm_unit.proofs.Allowed.{Slot, Deciding, Goes, same_table, allowed}

abbrev book_or : List (ℕ × Slot) → Slot
book_or [] = None
book_or (x ∷ xs) = x.1

abbrev pages_or : Slot → List HistoryEntry
pages_or None = []
pages_or (Some book) = book.history

-- What the holder holds is the history, and the slot is out.
holder_is : (b : Bounds) (s : UnitState) → IsKnown b s → (id : ℕ) (ps : List PassView) (h : List HistoryEntry) → IsAt s.groups id (record { passes = ps; held = Some h })
    → (s.holder ≡ Some id) × (h ≡ s.history) × (s.word ≡ 2 * length s.history + 1) × (s.slot ≡ None)
holder_is b s kept id ps h at =
    let hand : IsHand s.holder s.history id (Some h) = kept.sound.hold.others id (record { passes = ps; held = Some h }) at in
    let rests : RestsAs (Some id) s.word s.slot s.history = subst (λ (x : Option ℕ). RestsAs x s.word s.slot s.history) hand.0 kept.sound.hold.rests in
    (hand.0, hand.1, rests.0, rests.1)

-- the passes of a seat
abbrev held_passes : Sits → List PassView
held_passes m = m.0.passes

-- The passes of a group say what is settled of the unit.
bounds_same : (b b' : Bounds) (s : UnitState) → IsKnown b s → (id : ℕ) (ps : List PassView) (h : List HistoryEntry) → IsAt s.groups id (record { passes = ps; held = Some h })
    → 0 < length ps → EachIn (λ p. p.bounds ≡ b') ps → b' ≡ b
bounds_same b b' s kept id [] h at filled each = absurd (omega arith)
bounds_same b b' s kept id (p ∷ ps) h at filled each =
    sym (each 0 p refl) ∙ (kept.knows id 0 p (record { group = record { passes = p ∷ ps; held = Some h }; at = at; inside = refl })).bounds

-- A store that puts the unit back as it was.
return_goes : (decides : Deciding) (st : Step Slot) (b b' : Bounds) (id entries : ℕ) (ps : List PassView) (h : List HistoryEntry) → st.first ≡ 2 * entries → entries ≡ length h
    → 0 < length ps → EachIn (λ p. p.bounds ≡ b') ps → (decides (2 * length h + 1) ≡ true → length ps ≡ 1)
    → (s : UnitState) → IsKnown b s → IsReached b s → IsAt s.groups id (record { passes = ps; held = Some h })
    → Goes b s id (holding ps h (recorded b' h)) (λ word. puts decides st (holding ps h (recorded b' h)) word) (2 * entries)
return_goes decides st b b' id entries ps h first count filled bounds alone s kept reached at =
    let x : Slot = Some (recorded b' h) in
    let g : Group = record { passes = ps; held = Some h } in
    let n = number_found s in
    let d : Bool = decides (2 * length h + 1) in
    let is = holder_is b s kept id ps h at in
    let now : n ≡ length s.history = found_is b s kept.sound.hold in
    let here : h ≡ s.history = is.1 in
    let long : length h ≡ length s.history = ap length here in
    let can : CanStep s id g d = record { at = at; some = filled; alone = alone } in
    let w : Group = idle (map (shown d (length h) h) ps) in
    let t = after_return s id g d in
    let home : s.slot ≡ None = is.3 in
    let of_unit : b' ≡ b = bounds_same b b' s kept id ps h at filled bounds in
    let homes : set (slots_of b s.slot) 0 (some x) ≡ slots_of b (Some h) =
    ap (λ (o : Option (List HistoryEntry)). set (slots_of b o) 0 (some x)) home
    ∙ ap (λ (y : Bounds). some (let z : Slot = Some (recorded y h) in z) ∷ []) of_unit in
    let views : set s.groups id w ≡ t.groups =
    ap (λ (k : ℕ). set s.groups id (idle (map (shown d k h) ps))) (long ∙ sym now)
    ∙ ap (λ (y : List HistoryEntry). set s.groups id (idle (map (shown d n y) ps))) here in
    let twice : 2 * entries ≡ 2 * n = omega arith in (
      w,
      gives,
      tt,
      ruled_after b s t (returns id d) _ reached (g, can, is.0, refl)
          (same_table (2 * entries ∷ []) (2 * n ∷ []) (set (slots_of b s.slot) 0 (some x)) (slots_of b (Some h)) (set s.groups id w) t.groups (ap (λ (y : ℕ). y ∷ []) twice) homes views)
          (keeps_return b s kept id g d can is.0),
      λ entries' first'. (
        λ ps' history book same count'.
            let same_ps : ps ≡ ps' = ap held_passes same in
            let same_history : h ≡ history = ap held_history same in
            ap (λ (y : List HistoryEntry). resting (map (shown (decides (2 * length y + 1)) (length y) y) ps)) same_history
            ∙ ap (λ (y : List PassView). resting (map (shown (decides (2 * length history + 1)) (length history) history) y)) same_ps,
        λ p history entry same count'.
            let same_length : length h ≡ length history = ap (λ (y : Sits). length (held_history y)) same in
            absurd (omega arith),
        (
          s.word,
          inl (record {
            bounds = b;
            before = s;
            after = t;
            group = id;
            reached = reached;
            happened = (let word : 2 * length h + 1 ≡ s.word = omega (arith, is.2) in subst (λ (k : ℕ). Happens b s (returns id (decides k)) t) word (g, can, is.0, refl));
            found = refl;
            at = at;
            at_after = subst (λ (gs : List Group). IsAt gs id w) views (set_here s.groups id w (at_below s.groups id g at));
          }),
        ),
      ),
    )

pub return_allowed : (decides : Deciding) (st : Step Slot) (b b' : Bounds) (slots id entries : ℕ) (m : Sits) (ps : List PassView) (h : List HistoryEntry) → st.first ≡ 2 * entries
    → CanReturn decides entries m ps h b' → Allows (IsRuled b) slots id m 0 (λ _. 2 * entries) (λ _. puts decides st m (2 * entries))
return_allowed decides st b b' slots id entries m ps h first can =
    let at : Sits = holding ps h (recorded b' h) in
    subst (λ (y : Sits). Allows (IsRuled b) slots id y 0 (λ _. 2 * entries) (λ _. puts decides st y (2 * entries))) (sym can.at)
    (allowed b slots id at (λ _. 2 * entries) (λ _. puts decides st at (2 * entries))
    (return_goes decides st b b' id entries ps h first can.count can.filled can.bounds can.alone))

-- A store that puts the unit back with one entry more.
append_goes : FollowsLawfully → (decides : Deciding) (st : Step Slot) (b : Bounds) (id entries : ℕ) (p : PassView) (h : List HistoryEntry) (entry : HistoryEntry) → st.first ≡ 2 * entries → entries ≡ length h + 1
    → entry.pass ≡ p.number → CanFollow p.bounds.place h entry → length h < p.bounds.limit
    → (s : UnitState) → IsKnown b s → IsReached b s → IsAt s.groups id (record { passes = p ∷ []; held = Some h })
    → Goes b s id (holding (p ∷ []) h (recorded p.bounds (h ++ entry ∷ []))) (λ word. puts decides st (holding (p ∷ []) h (recorded p.bounds (h ++ entry ∷ []))) word) (2 * entries)
append_goes law decides st b id entries p h entry first count number follows room s kept reached at =
    let x : Slot = Some (recorded p.bounds (h ++ entry ∷ [])) in
    let g : Group = record { passes = p ∷ []; held = Some h } in
    let n = number_found s in
    let is = holder_is b s kept id (p ∷ []) h at in
    let now : n ≡ length s.history = found_is b s kept.sound.hold in
    let here : h ≡ s.history = is.1 in
    let long : length h ≡ length s.history = ap length here in
    let of_unit : p.bounds ≡ b = (kept.knows id 0 p (record { group = g; at = at; inside = refl })).bounds in
    let follows_here : CanFollow b.place s.history entry =
    subst (λ (y : List HistoryEntry). CanFollow b.place y entry) here
    (subst (λ (y : Bounds). CanFollow y.place h entry) of_unit follows) in
    let room_here : length h < b.limit = subst (λ (y : Bounds). length h < y.limit) of_unit room in
    let can : CanAdd b s id p h entry = record { at = at; holds = is.0; number = number; follows = follows_here; room = (omega arith) } in
    let w : Group = idle (added (length h) h entry p ∷ []) in
    let t = after_put s id p h entry in
    let home : s.slot ≡ None = is.3 in
    let homes : set (slots_of b s.slot) 0 (some x) ≡ slots_of b (Some (h ++ entry ∷ [])) =
    ap (λ (o : Option (List HistoryEntry)). set (slots_of b o) 0 (some x)) home
    ∙ ap (λ (y : Bounds). some (let z : Slot = Some (recorded y (h ++ entry ∷ [])) in z) ∷ []) of_unit in
    let views : set s.groups id w ≡ t.groups =
    ap (λ (k : ℕ). set s.groups id (idle (added k h entry p ∷ []))) (long ∙ sym now)
    ∙ ap (λ (y : List HistoryEntry). set s.groups id (idle (added n y entry p ∷ []))) here in
    let twice : 2 * entries ≡ 2 * n + 2 = omega arith in (
      w,
      gives,
      tt,
      ruled_after b s t (adds id entry) _ reached (p, h, can, refl)
          (same_table (2 * entries ∷ []) ((2 * n + 2) ∷ []) (set (slots_of b s.slot) 0 (some x)) (slots_of b (Some (h ++ entry ∷ []))) (set s.groups id w) t.groups (ap (λ (y : ℕ). y ∷ []) twice) homes views)
          (keeps_put b s kept id p h entry can (law b.place s.history entry kept.sound.hold.lawful follows_here)),
      λ entries' first'. (
        λ ps' history book same count'.
            let same_length : length h ≡ length history = ap (λ (y : Sits). length (held_history y)) same in
            absurd (omega arith),
        λ p' history entry' same count'.
            let same_p : p ∷ [] ≡ p' ∷ [] = ap held_passes same in
            let same_pass : p ≡ p' = cc in
            let same_history : h ≡ history = ap held_history same in
            let pages : h ++ entry ∷ [] ≡ history ++ entry' ∷ [] = ap (λ (y : Sits). pages_or (book_or y.1)) same in
            let pages_here : h ++ entry ∷ [] ≡ h ++ entry' ∷ [] = pages ∙ ap (λ (y : List HistoryEntry). y ++ entry' ∷ []) (sym same_history) in
            let same_line : entry ≡ entry' =
            sym (get_or_push h entry entry (length h) refl) ∙ (ap (λ (y : List HistoryEntry). get_or y (length h) entry) pages_here ∙ get_or_push h entry' entry (length h) refl) in
            ap (λ (y : List HistoryEntry). resting (added (length y) y entry p ∷ [])) same_history
            ∙ (ap (λ (y : HistoryEntry). resting (added (length history) history y p ∷ [])) same_line
            ∙ ap (λ (y : PassView). resting (added (length history) history entry' y ∷ [])) same_pass),
        (
          s.word,
          inr (
            entry,
            record {
              bounds = b;
              before = s;
              after = t;
              group = id;
              reached = reached;
              happened = (p, h, can, refl);
              found = refl;
              at = at;
              at_after = subst (λ (gs : List Group). IsAt gs id w) views (set_here s.groups id w (at_below s.groups id g at));
            },
          ),
        ),
      ),
    )

pub append_allowed : FollowsLawfully → (decides : Deciding) (st : Step Slot) (b : Bounds) (slots id entries : ℕ) (m : Sits) (p : PassView) (h : List HistoryEntry) (entry : HistoryEntry) → st.first ≡ 2 * entries
    → CanAppend entries m p h entry → Allows (IsRuled b) slots id m 0 (λ _. 2 * entries) (λ _. puts decides st m (2 * entries))
append_allowed law decides st b slots id entries m p h entry first can =
    let at : Sits = holding (p ∷ []) h (recorded p.bounds (h ++ entry ∷ [])) in
    subst (λ (y : Sits). Allows (IsRuled b) slots id y 0 (λ _. 2 * entries) (λ _. puts decides st y (2 * entries))) (sym can.at)
    (allowed b slots id at (λ _. 2 * entries) (λ _. puts decides st at (2 * entries))
    (append_goes law decides st b id entries p h entry first can.count can.number can.follows can.room))
