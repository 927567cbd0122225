use Rattle.std.proofs.Common.{◌≡◌, ◌∙◌, ℕ, ◌+◌, ◌++◌, ◌∷◌, [], Global, Vec, List, length, map, ap, sym, subst, rules}
use Rattle.std.proofs.lemmas.List.{length-map, length_push, map_push}
use Rattle.nvm_record.specs.Lists.{IsAt}
use Rattle.nvm_store.specs.HistoryEntry.{HistoryEntry}
use Rattle.nvm_c.specs.Inside.Gathering.{IsHistoryOf}
use Rattle.nvm_c.proofs.Places.{each_none, each_push}
use Rattle.nvm_c.proofs.histories.histories.Goals as goal

pub loop-unit-init : goal.loop-unit-init
loop-unit-init c = record {
  count = ap length c.in_ok-units.ensures.items;
  each = subst (λ (xs : List (Vec HistoryEntry Global)). (k : ℕ) (history : List HistoryEntry) → IsAt (map (λ h. h.items) xs) k history
      → IsHistoryOf c.args.geometry c.args.limit c.args.jobs.now.items (length c.args.done.now.items) k history)
      (sym c.in_ok-units.ensures.items) (each_none (IsHistoryOf c.args.geometry c.args.limit c.args.jobs.now.items (length c.args.done.now.items)));
}

pub loop-unit-preserved : goal.loop-unit-preserved
loop-unit-preserved c =
    let inv = c.loop-unit.invariant in
    let old : List (List HistoryEntry) = map (λ (h : Vec HistoryEntry Global). h.items) c.loop-unit.units.items in
    let here : length old ≡ c.loop-unit.unit = length-map c.loop-unit.units.items (λ h. h.items) ∙ inv.count in
    let workers : c.len.result ≡ length c.args.done.now.items = search rules in
    let new = subst (λ (n : ℕ). IsHistoryOf c.args.geometry c.args.limit c.args.jobs.now.items n c.loop-unit.unit c.in_ok-history.history.items) workers c.in_ok-history.ensures in
    let also = subst (λ (n : ℕ). IsHistoryOf c.args.geometry c.args.limit c.args.jobs.now.items (length c.args.done.now.items) n c.in_ok-history.history.items) (sym here) new in
    let longer : map (λ (h : Vec HistoryEntry Global). h.items) c.push.new.self.items ≡ old ++ c.in_ok-history.history.items ∷ [] =
    ap (map (λ (h : Vec HistoryEntry Global). h.items)) c.in_ok-push.ensures.items ∙ map_push (λ (h : Vec HistoryEntry Global). h.items) c.loop-unit.units.items c.in_ok-history.history in
    record {
      count = ap length c.in_ok-push.ensures.items ∙ length_push c.loop-unit.units.items c.in_ok-history.history ∙ ap (λ (n : ℕ). n + 1) inv.count;
      each = subst (λ (xs : List (List HistoryEntry)). (k : ℕ) (history : List HistoryEntry) → IsAt xs k history
          → IsHistoryOf c.args.geometry c.args.limit c.args.jobs.now.items (length c.args.done.now.items) k history) (sym longer)
          (each_push (IsHistoryOf c.args.geometry c.args.limit c.args.jobs.now.items (length c.args.done.now.items)) old c.in_ok-history.history.items inv.each also);
    }
