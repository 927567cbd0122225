-- Groups that are joined or cut in two keep what is known of the unit.
use Rattle.std.proofs.Common.{◌≡◌, ◌≢◌, ℕ, ◌≤◌, List, [], ◌∷◌, ◌++◌, length, take, drop, set, subst, refl, ap, ◌∙◌, inl, inr, Option, Some, None}
use Rattle.atomic_table.proofs.Lists.{at_set, set_else, at_snoc, at_longer}
use Rattle.nvm_store.specs.HistoryEntry.{HistoryEntry}
use Rattle.nvm_unit.specs.declared.bounds.Bounds.{Bounds}
use Rattle.nvm_unit.specs.declared.views.PassView.{PassView}
use Rattle.nvm_unit.specs.declared.views.Group.{Group}
use Rattle.nvm_unit.specs.Views.{Begins, entries_by, RiseWithin}
use Rattle.nvm_unit.specs.Machine.{UnitState, IsHand}
use Rattle.nvm_record.specs.Lists.{IsAt}
use Rattle.nvm_unit.specs.Events.{idle, after_join, after_split}
use Rattle.nvm_unit.specs.Knowledge.{ArePlaced, Knows, IsKnown}
use Rattle.nvm_unit.proofs.Lists.{at_one}
use Rattle.nvm_unit.proofs.Groups.{numbered, numbered_below, AreRearranged, each_rearranged, placed_rearranged, moves_joined, moves_split, joined, cut}

module _ (b : Bounds) (s : UnitState) (kept : IsKnown b s) where
  hand_found : (k : ℕ) (held : Option (List HistoryEntry)) → ((h : List HistoryEntry) → held ≡ Some h → IsHand s.holder s.history k (Some h)) → IsHand s.holder s.history k held
  hand_found k None hand = tt
  hand_found k (Some h) hand = hand h refl

  -- An idle group isn't one that holds the unit.
  idle_apart : (j m : ℕ) (ps : List PassView) (g : Group) → IsAt s.groups j (idle ps) → IsAt s.groups m g → g.held ≡ Some s.history → m ≢ j
  idle_apart j m ps g at_j at_m holds is =
      let same : g ≡ idle ps = at_one s.groups j g (idle ps) (subst (λ (k : ℕ). IsAt s.groups k g) is at_m) at_j in
      let none_held : g.held ≡ None = ap (λ (x : Group). x.held) same in
      absurd (cc)

  -- Groups that were joined or cut, where those that hold something are the same.
  keeps_rearranged : (moves : ℕ × ℕ → ℕ × ℕ) (groups : List Group) → AreRearranged moves s.groups groups
      → ((m : ℕ) (g : Group) (held : List HistoryEntry) → IsAt groups m g → g.held ≡ Some held → IsAt s.groups m g)
      → ((m : ℕ) (g : Group) → IsAt s.groups m g → g.held ≡ Some s.history → IsAt groups m g)
      → IsKnown b (record s { groups = groups })
  keeps_rearranged moves groups re before after =
      let hold = kept.sound.hold in
      let old = kept.sound.marks in
      let placed : ArePlaced b.passes (λ number. moves (kept.spot number)) groups = placed_rearranged b.passes kept.spot moves s.groups groups re kept.placed in
      record {
        sound = record {
          hold = record {
            lawful = hold.lawful;
            within = hold.within;
            rests = hold.rests;
            holder = λ k is. let g = hold.holder k is in (g.0, after k g.0 g.1 g.2, g.2);
            others = λ k g at. hand_found k g.held (λ held is. subst (λ (x : Option (List HistoryEntry)). IsHand s.holder s.history k x) is (hold.others k g (before k g held at is)));
            seen = each_rearranged (λ p. Begins p.seen s.history) moves s.groups groups re hold.seen;
          };
          marks = record {
            marks = each_rearranged (λ p. RiseWithin 0 p.marks p.floor) moves s.groups groups re old.marks;
            floors = each_rearranged (λ p. p.floor ≤ length s.history) moves s.groups groups re old.floors;
            bears = λ k entry line_at.
                numbered b.passes (λ number. moves (kept.spot number)) groups placed entry.pass
                (numbered_below b.passes kept.spot s.groups kept.placed entry.pass (old.bears k entry line_at));
            mine = each_rearranged (λ p. entries_by p.number s.history ≡ p.mine) moves s.groups groups re old.mine;
          };
        };
        spot = λ number. moves (kept.spot number);
        placed = placed;
        knows = each_rearranged (Knows b) moves s.groups groups re kept.knows;
        hands = λ m g held at is. kept.hands m g held (before m g held at is) is;
      }

  -- Passes that don't step stay as they were.
  pub keeps_join : (j k : ℕ) (ps qs : List PassView) → IsAt s.groups j (idle ps) → IsAt s.groups k (idle qs) → j ≢ k → IsKnown b (after_join s j k ps qs)
  keeps_join j k ps qs at_j at_k apart =
      let both : Group = idle (ps ++ qs) in
      let groups : List Group = set (set s.groups j both) k (idle []) in
      keeps_rearranged (moves_joined j k (length ps)) groups (joined s.groups j k ps qs at_j at_k apart)
      (λ m g held g_at is.
      elim (at_set (set s.groups j both) k m (idle []) g g_at) [
        | inl spent ↦ let none_held : None ≡ g.held = ap (λ (y : Group). y.held) spent.1 in absurd (cc)
        | inr rest ↦
            elim (at_set s.groups j m both g rest.1) [
              | inl here ↦ let none_held : None ≡ g.held = ap (λ (y : Group). y.held) here.1 in absurd (cc)
              | inr else_ ↦ else_.1
            ]
      ])
      (λ m g g_at is.
      let away_k : m ≢ k = idle_apart k m qs g at_k g_at is in
      let away_j : m ≢ j = idle_apart j m ps g at_j g_at is in
      set_else (set s.groups j both) k m (idle []) away_k ∙ (set_else s.groups j m both away_j ∙ g_at))

  pub keeps_split : (j first : ℕ) (ps : List PassView) → IsAt s.groups j (idle ps) → IsKnown b (after_split s j first ps)
  keeps_split j first ps at_j =
      let left : Group = idle (take first ps) in
      let right : Group = idle (drop first ps) in
      let groups : List Group = set s.groups j left ++ right ∷ [] in
      keeps_rearranged (moves_split j first (length s.groups)) groups (cut s.groups j first ps at_j)
      (λ m g held g_at is.
      elim (at_snoc (set s.groups j left) right g m g_at) [
        | inr last ↦ let none_held : None ≡ g.held = ap (λ (y : Group). y.held) last in absurd (cc)
        | inl rest ↦
            elim (at_set s.groups j m left g rest) [
              | inl here ↦ let none_held : None ≡ g.held = ap (λ (y : Group). y.held) here.1 in absurd (cc)
              | inr else_ ↦ else_.1
            ]
      ])
      (λ m g g_at is.
      let away_j : m ≢ j = idle_apart j m ps g at_j g_at is in
      at_longer (set s.groups j left) (right ∷ []) m g (set_else s.groups j m left away_j ∙ g_at))
