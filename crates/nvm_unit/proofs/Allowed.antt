-- A seat that loads the word, or tries to take the unit, keeps the rule of the table, whatever the others do.
use Rattle.std.proofs.Common.{◌≡◌, ℕ, ◌+◌, ◌*◌, ◌/◌, ◌%◌, ◌<◌, ◌≤◌, List, [], ◌∷◌, length, map, set, slice_index, eqb, subst, refl, sym, ap, ◌∙◌, arith, Bool, true, false, Option, Some, None}
use mathlib.Core.Option.{some, none}
use mathlib.Core.Option as there
use lib.ListN.{get_elem?}
use prog.Atomic.{either}
use Rattle.atomic_table.specs.Table.{State, Step, Act, keeps, takes, stepped, Valid, carried_after, Allows}
use Rattle.atomic_table.proofs.Lists.{exchanged, set_here}
use Rattle.nvm_store.specs.HistoryEntry.{HistoryEntry}
use Rattle.nvm_unit.specs.declared.bounds.Bounds.{Bounds}
use Rattle.nvm_unit.specs.declared.views.Group.{Group}
use Rattle.nvm_unit.specs.Views.{looked}
use Rattle.nvm_unit.specs.Machine.{UnitState, StandsAt, RestsAs}
use Rattle.nvm_record.specs.Lists.{IsAt}
use Rattle.nvm_unit.specs.Events as events
use Rattle.nvm_unit.specs.Events.{Event, loads, misses, Happens, IsReached, number_found, idle, CanStep, CanAdd, after_look, after_take, after_put, after_return}
use Rattle.nvm_unit.specs.Knowledge.{IsKnown}
use Rattle.nvm_unit.specs.Inside.Book.{Recorded, recorded}
use Rattle.nvm_unit.specs.Passes.{IsHistoryOf, IsNotAbove}
use Rattle.nvm_unit.specs.Inside.Rule.{slots_of, table_of, IsRuled}
use Rattle.nvm_unit.specs.Inside.Plays.{Sits, EachIn, Fits, HasLooked, WasEvent, looks, tries}
use Rattle.nvm_unit.proofs.Groups.{numbered_below}
use Rattle.nvm_unit.proofs.Histories.{begins_length}
use Rattle.nvm_unit.proofs.Keeping.{found_is, free_is, keeps_look, keeps_take}
use Rattle.nvm_unit.proofs.Lists.{at_below}
use Rattle.nvm_unit.proofs.Reaching.{ruled_after}

abbrev pub Slot : Type 0
Slot = Option Recorded

-- Two tables with the same words, slots and views are the same.
pub same_table : (ws ws' : List ℕ) (hs hs' : List (there.Option Slot)) (vs vs' : List Group) → ws ≡ ws' → hs ≡ hs' → vs ≡ vs'
    → (let x : State Slot Group = record { words = ws; homes = hs; views = vs } in x) ≡ record { words = ws'; homes = hs'; views = vs' }
same_table ws ws' hs hs' vs vs' p q r = λ i. record { words = p i; homes = q i; views = r i }

-- What a step owes, where the word becomes `new`.
abbrev pub Goes : Bounds → UnitState → ℕ → Sits → (ℕ → Sits → Type 0) → ℕ → Type 0
Goes b s id m then new =
    (w : Group) × (a : Act Slot) × Valid (slots_of b s.slot) m.1 a
    × IsRuled b (stepped (table_of b s) 0 new id m.1 w a) × then s.word (w, carried_after m.1 a)

-- It is enough to look at tables that show a state.
pub allowed : (b : Bounds) (slots id : ℕ) (m : Sits) (f : ℕ → ℕ) (then : ℕ → Sits → Type 0)
    → ((s : UnitState) → IsKnown b s → IsReached b s → IsAt s.groups id m.0 → Goes b s id m then (f s.word))
    → Allows (IsRuled b) slots id m 0 f then
allowed b slots id m f then goes t ruled long at small =
    let P : State Slot Group → Type 0 =
    λ x. get_elem? x.views id ≡ some m.0
    → (w : Group) × (a : Act Slot) × Valid x.homes m.1 a × IsRuled b (stepped x 0 (f (slice_index x.words 0)) id m.1 w a)
    × then (slice_index x.words 0) (w, carried_after m.1 a) in
    subst P (sym ruled.1) (goes ruled.0 ruled.2 ruled.3) at

-- A step finds no fewer entries than a pass has found and seen.
not_above : (b : Bounds) (s : UnitState) → IsKnown b s → (id : ℕ) (g : Group) → IsAt s.groups id g → EachIn (IsNotAbove (s.word / 2)) g.passes
not_above b s kept id g at i p inside =
    let stands : StandsAt s.groups id i p = record { group = g; at = at; inside = inside } in
    let now : s.word / 2 ≡ length s.history = found_is b s kept.sound.hold in
    let low : p.floor ≤ length s.history = kept.sound.marks.floors id i p stands in
    let short : length p.seen ≤ length s.history = begins_length p.seen s.history (kept.sound.hold.seen id i p stands) in
    let within : length s.history ≤ b.limit = kept.sound.hold.within in
    let most : p.bounds.limit ≡ b.limit = ap (λ (x : Bounds). x.limit) (kept.knows id i p stands).bounds in
    record { floor = omega arith; seen = omega arith; limit = omega arith }

-- What holds of the unit's history.
pub history_of : (b : Bounds) (s : UnitState) → IsKnown b s → IsHistoryOf b s.history
history_of b s kept =
    record {
      lawful = kept.sound.hold.lawful;
      within = kept.sound.hold.within;
      bears = λ k entry at. numbered_below b.passes kept.spot s.groups kept.placed entry.pass (kept.sound.marks.bears k entry at);
    }

-- What holds of the passes of a group.
pub fitting : (b : Bounds) (s : UnitState) → IsKnown b s → (id : ℕ) (g : Group) → IsAt s.groups id g → EachIn (Fits b s.history) g.passes
fitting b s kept id g at i p inside =
    let stands : StandsAt s.groups id i p = record { group = g; at = at; inside = inside } in
    record {
      bounds = (kept.knows id i p stands).bounds;
      number = kept.placed.below id i p stands;
      seen = kept.sound.hold.seen id i p stands;
      floor = kept.sound.marks.floors id i p stands;
      mine = kept.sound.marks.mine id i p stands;
      own = (kept.knows id i p stands).own;
    }

abbrev pub Deciding : Type 0
Deciding = ℕ → Bool

-- An event of this kind is a look: a load, or a compare_exchange that is lost.
abbrev IsLook : (ℕ → Bool → Event) → Type 0
IsLook kind = (b : Bounds) (s : UnitState) (j : ℕ) (g : Group) (decides : Bool) → CanStep s j g decides → Happens b s (kind j decides) (after_look s j g decides)

-- A step that leaves the unit as it is.
look_goes : (kind : ℕ → Bool → Event) → IsLook kind → (decides : Deciding) (b : Bounds) (id : ℕ) (m : Sits) → 0 < length m.0.passes → ((word : ℕ) → decides word ≡ true → length m.0.passes ≡ 1)
    → (s : UnitState) → IsKnown b s → IsReached b s → IsAt s.groups id m.0 → Goes b s id m (λ word m'. HasLooked decides word m m' × WasEvent (λ j. kind j (decides word)) word m m') s.word
look_goes kind happens decides b id m filled alone s kept reached at =
    let d : Bool = decides s.word in
    let can : CanStep s id m.0 d = record { at = at; some = filled; alone = alone s.word } in
    let w : Group = record m.0 { passes = map (looked d (s.word / 2)) m.0.passes } in (
      w,
      keeps,
      tt,
      ruled_after b s (after_look s id m.0 d) (kind id d) _ reached (happens b s id m.0 d can) refl (keeps_look b s kept id m.0 d can),
      (
        record { after = refl; later = not_above b s kept id m.0 at },
        record {
          bounds = b;
          before = s;
          after = after_look s id m.0 d;
          group = id;
          reached = reached;
          happened = happens b s id m.0 d can;
          found = refl;
          at = at;
          at_after = set_here s.groups id w (at_below s.groups id m.0 at);
        },
      ),
    )

pub look_allowed : (decides : Deciding) (st : Step Slot) (b : Bounds) (slots id : ℕ) (m : Sits) → 0 < length m.0.passes → ((word : ℕ) → decides word ≡ true → length m.0.passes ≡ 1)
    → Allows (IsRuled b) slots id m 0 (λ n. n) (looks decides st m)
look_allowed decides st b slots id m filled alone =
    allowed b slots id m (λ n. n) (looks decides st m) (look_goes loads (λ b s j g d can. (g, can, refl)) decides b id m filled alone)

-- A compare_exchange that takes the unit.
take_goes : (decides : Deciding) (st : Step Slot) (b : Bounds) (id old : ℕ) (m : Sits) → st.first ≡ old → old % 2 ≡ 0 → m.1 ≡ [] → 0 < length m.0.passes
    → (s : UnitState) → IsKnown b s → IsReached b s → IsAt s.groups id m.0 → s.word ≡ old → Goes b s id m (tries decides st m) (old + 1)
take_goes decides st b id old m first even rests filled s kept reached at is =
    let n = number_found s in
    let now : n ≡ length s.history = found_is b s kept.sound.hold in
    let free : s.word ≡ 2 * n = omega arith in
    let can : CanStep s id m.0 false = record { at = at; some = filled; alone = λ e. absurd (cc) } in
    let nobody : s.holder ≡ None = free_is b s kept free in
    let home : s.slot ≡ Some s.history =
    (let r : RestsAs None s.word s.slot s.history = subst (λ (h : Option ℕ). RestsAs h s.word s.slot s.history) nobody kept.sound.hold.rests in r.1) in
    let book : Slot = Some (recorded b s.history) in
    let w : Group = record { passes = map (looked false n) m.0.passes; held = Some s.history } in
    let t = after_take s id m.0 in
    let words : old + 1 ≡ 2 * n + 1 = omega arith in
    let views : set s.groups id w ≡ t.groups = ap (λ (h : Option (List HistoryEntry)). set s.groups id (record { passes = map (looked false n) m.0.passes; held = h })) (sym home) in
    let out : set (slots_of b s.slot) 0 none ≡ none ∷ [] = ap (λ (h : Option (List HistoryEntry)). set (slots_of b h) 0 none) home in
    let carried : (0, book) ∷ m.1 ≡ (0, book) ∷ [] = ap (λ (xs : List (ℕ × Slot)). (0, book) ∷ xs) rests in
    let same : n ≡ length s.history = now in (
      w,
      takes 0 book,
      ap (λ (h : Option (List HistoryEntry)). get_elem? (slots_of b h) 0) home,
      ruled_after b s t (events.takes id) _ reached (m.0, can, free, refl)
          (same_table ((old + 1) ∷ []) ((2 * n + 1) ∷ []) (set (slots_of b s.slot) 0 none) (none ∷ []) (set s.groups id w) t.groups (ap (λ (x : ℕ). x ∷ []) words) out views)
          (keeps_take b s kept id m.0 can free),
      (
        λ e. (
          (
            b,
            s.history,
            record {
              after = ap (λ (k : ℕ). let y : Sits = (record { passes = map (looked false k) m.0.passes; held = Some s.history }, (0, book) ∷ m.1) in y) same
                  ∙ ap (λ (xs : List (ℕ × Slot)). let y : Sits = (record { passes = map (looked false (length s.history)) m.0.passes; held = Some s.history }, xs) in y) carried;
              fits = fitting b s kept id m.0 at;
              lawful = history_of b s kept;
            },
          ),
          record {
            bounds = b;
            before = s;
            after = t;
            group = id;
            reached = reached;
            happened = (m.0, can, free, refl);
            found = refl;
            at = at;
            at_after = subst (λ (gs : List Group). IsAt gs id w) views (set_here s.groups id w (at_below s.groups id m.0 at));
          },
        ),
        λ ne. absurd (ne (is ∙ sym first)),
      ),
    )

pub take_allowed : (decides : Deciding) (st : Step Slot) (b : Bounds) (slots id old : ℕ) (m : Sits) → st.first ≡ old → old % 2 ≡ 0 → m.1 ≡ [] → 0 < length m.0.passes
    → ((word : ℕ) → decides word ≡ true → length m.0.passes ≡ 1)
    → Allows (IsRuled b) slots id m 0 (λ n. either (eqb n old) (old + 1) n) (tries decides st m)
take_allowed decides st b slots id old m first even rests filled alone =
    allowed b slots id m (λ n. either (eqb n old) (old + 1) n) (tries decides st m)
    (λ s kept reached at.
    exchanged s.word old (old + 1) (Goes b s id m (tries decides st m))
    (take_goes decides st b id old m first even rests filled s kept reached at)
    (λ miss.
    let look = look_goes misses (λ b s j g d can. (g, can, refl)) decides b id m filled alone s kept reached at in
    (look.0, look.1, look.2, look.3, ((λ e. absurd (miss (e ∙ first))), (λ ne. look.4)))))
