use Rattle.std.proofs.Common.{◌≡◌, ◌<◌, List, ap, get_or, length, rules, sym, subst, true, ◌∙◌}
use Rattle.std.proofs.lemmas.List.{at_drop_more}
use Rattle.nvm_record.specs.Step.{medium_after}
use Rattle.nvm_store.specs.declared.place.Place.{Place}
use Rattle.nvm_store.specs.History.{replay_from}
use Rattle.nvm_store.specs.HistoryEntry.{HistoryEntry}
use Rattle.nvm_store.specs.Place.{IsCovered}
use Rattle.nvm_explain.specs.Reached.{all_succeed}
use Rattle.nvm_explain.proofs.Successes.{after_success}
use Rattle.nvm_explain.proofs.unit_at.blocks_after.Goals as goal

pub goes_on-requires : goal.goes_on-requires
goes_on-requires c =
    let entries = c.args.entries.now in
    let n = c.loop-entry.entry-index in
    let entry = c.entry-item.result in
    let here : n < length entries = search rules in
    let is : get_or entries n entry ≡ entry = sym c.entry-item.is in
    let covered = rw is at (c.requires.covered.each n entry here) in
    subst (λ (p : Place). IsCovered p entry.operation) (sym c.loop-entry.invariant.place) covered

pub loop-entry-preserved : goal.loop-entry-preserved
loop-entry-preserved c =
    let m = c.loop-entry.invariant.medium in
    let size = c.args.place.size in
    let entries = c.args.entries.now in
    let n = c.loop-entry.entry-index in
    let entry = c.entry-item.result in
    let stepped = c.in_ok-goes_on.ensures.step m (search rules) c.loop-entry.invariant.held in
    let says = c.in_ok-goes_on.ensures.goes m c.loop-entry.invariant.held in
    let goes : c.in_ok-goes_on.field-0 ≡ true = search rules in
    let here : n < length entries = search rules in
    let is : get_or entries n entry ≡ entry = sym c.entry-item.is in
    let more = at_drop_more (λ (es : List HistoryEntry). replay_from size m es) entries n entry here in
    let rest = at_drop_more (λ (es : List HistoryEntry). all_succeed size m es) entries n entry here in
    record {
      place = search rules;
      medium = medium_after size entry.operation m;
      held = rw (ap (λ (p : Place). p.size) c.loop-entry.invariant.place) at stepped;
      left = rw is at (sym more ∙ c.loop-entry.invariant.left);
      succeed = after_success _ _ _ (sym says ∙ goes) (rw is at (sym rest ∙ c.loop-entry.invariant.succeed));
    }
