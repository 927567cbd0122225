use Rattle.std.proofs.Common.{◌≡◌, ◌<◌, length, rules, get_or, subst, sym, ap, ◌∙◌}
use Rattle.nvm_record.specs.Lists.{IsAt}
use Rattle.nvm_record.specs.Step.{HasRangesWithin, Operation}
use Rattle.nvm_store.specs.ActRef.{lent_operation_of}
use Rattle.nvm_store.specs.Contents.{Covers}
use Rattle.nvm_store.specs.HistoryEntry.{HistoryEntry}
use Rattle.nvm_store.specs.declared.place.Place.{Place}
use Rattle.nvm_store.specs.Place.{IsCovered}
use Rattle.nvm_store.specs.Point.{point}
use Rattle.nvm_store.proofs.AtLemmas.{at_read}
use Rattle.nvm_store.proofs.Replays.{point-more}
use Rattle.nvm_store.proofs.history.replay.Goals as goal

-- What is lent stands for the entry's operation, whose ranges lie where it says.
lent_is : (lent : Operation) {e f : HistoryEntry} → e ≡ f
    → (HasRangesWithin e.operation.first e.operation.blocks e.operation.deed → lent ≡ e.operation)
    → HasRangesWithin f.operation.first f.operation.blocks f.operation.deed → lent ≡ f.operation
lent_is lent {e} {f} same ensures ranges =
    let is : e.operation ≡ f.operation = ap (λ (x : HistoryEntry). x.operation) same in
    ensures (subst (λ (o : Operation). HasRangesWithin o.first o.blocks o.deed) (sym is) ranges) ∙ is

pub change-requires-clause-covered : goal.change-requires-clause-covered
change-requires-clause-covered c =
    let entries = c.args.history.now.items in
    let n = c.loop-entry.entry-index in
    let entry = c.entry-item.result in
    let here : n < length entries = search rules in
    let is : get_or entries n entry ≡ entry = sym (rw c.deref-entry-items.ensures.value at c.entry-item.is) in
    let at : IsAt entries n entry = rw is at (at_read entries n entry here) in
    let does : lent_operation_of c.as_ref.result ≡ entry.operation =
    lent_is (lent_operation_of c.as_ref.result) c.entry.view_is c.as_ref.ensures (c.requires.lawful n entry at).covered.ranges in
    let place = c.loop-entry.invariant.place in
    rw does (subst (λ (p : Place). IsCovered p entry.operation) (sym place) (c.requires.lawful n entry at).covered)

pub change-requires-clause-success : goal.change-requires-clause-success
change-requires-clause-success c =
    let entries = c.args.history.now.items in
    let n = c.loop-entry.entry-index in
    let entry = c.entry-item.result in
    let here : n < length entries = search rules in
    let is : get_or entries n entry ≡ entry = sym (rw c.deref-entry-items.ensures.value at c.entry-item.is) in
    let at : IsAt entries n entry = rw is at (at_read entries n entry here) in
    let does : lent_operation_of c.as_ref.result ≡ entry.operation =
    lent_is (lent_operation_of c.as_ref.result) c.entry.view_is c.as_ref.ensures (c.requires.lawful n entry at).covered.ranges in
    let follows = c.requires.lawful n entry at in
    let place = c.loop-entry.invariant.place in
    let covered : Covers c.loop-entry.unit entry.operation =
    subst (λ (p : Place). IsCovered p entry.operation) (sym place) follows.covered in
    rw does
    (c.success_on_held.ensures c.loop-entry.unit entry.operation (point c.args.size entries n) covered
    c.loop-entry.invariant.replayed follows.succeeds)

pub loop-entry-preserved : goal.loop-entry-preserved
loop-entry-preserved c =
    let entries = c.args.history.now.items in
    let n = c.loop-entry.entry-index in
    let entry = c.entry-item.result in
    let here : n < length entries = search rules in
    let is : get_or entries n entry ≡ entry = sym (rw c.deref-entry-items.ensures.value at c.entry-item.is) in
    let at : IsAt entries n entry = rw is at (at_read entries n entry here) in
    let does : lent_operation_of c.as_ref.result ≡ entry.operation =
    lent_is (lent_operation_of c.as_ref.result) c.entry.view_is c.as_ref.ensures (c.requires.lawful n entry at).covered.ranges in
    let stepped = c.in_ok-change.ensures.step (point c.args.size entries n) c.loop-entry.invariant.replayed in
    record {
      place = search rules;
      replayed =
          rw (point-more c.args.size entries n entry at)
          (rw (ap (λ (p : Place). p.size) c.loop-entry.invariant.place, does) at stepped);
    }
