use Rattle.std.proofs.Common.{◌≡◌, ℕ, sym, ap, subst, ◌∙◌}
use Rattle.std.proofs.lemmas.Result.{on_ok_weaker}
use Rattle.nvm_record.specs.Lists.{IsAt}
use Rattle.nvm_record.specs.Medium.{Medium}
use Rattle.nvm_record.specs.Status.{IsSuccess}
use Rattle.nvm_record.specs.Step.{Operation, statuses_of, medium_after}
use Rattle.nvm_store.specs.ActRef.{lent_operation_of}
use Rattle.nvm_store.specs.Contents.{Holds, place_of}
use Rattle.nvm_store.specs.HistoryEntry.{HistoryEntry}
use Rattle.nvm_store.specs.Place.{IsCovered}
use Rattle.nvm_store.specs.Point.{point}
use Rattle.nvm_audit.specs.Inside.Audited.{view_of_shown}
use Rattle.nvm_audit.proofs.Places.{stands_read}
use Rattle.nvm_audit.proofs.walking.advance.Goals as goal

at : (c : goal.After-as_ref) → IsAt c.args.u.now.history.now.items c.args.place c.index-entry.result.now
at c = stands_read c.args.u.now.history.now.items c.args.place c.index-entry.result.now c.requires.there c.index-entry.ensures

covered : (c : goal.After-as_ref) → IsCovered (place_of c.args.blocks.now) c.index-entry.result.now.operation
covered c = (c.requires.known.entries c.args.place c.index-entry.result.now (at c)).covered (place_of c.args.blocks.now) c.requires.lies

lent_is : (c : goal.After-as_ref) → lent_operation_of c.as_ref.result ≡ c.index-entry.result.now.operation
lent_is c =
    let same = ap (λ (e : HistoryEntry). e.operation) c.entry.view_is in
    c.as_ref.ensures (subst (λ (op : Operation). IsCovered (place_of c.args.blocks.now) op) (sym same) (covered c)).ranges ∙ same

pub change-requires-clause-covered : goal.change-requires-clause-covered
change-requires-clause-covered c = subst (λ (op : Operation). IsCovered (place_of c.args.blocks.now) op) (sym (lent_is c)) (covered c)

pub change-requires-clause-success : goal.change-requires-clause-success
change-requires-clause-success c =
    let u = view_of_shown c.args.u.now in
    let m = point u.namespace.block_size u.history c.args.place in
    let right = (c.requires.right c.index-entry.result.now (at c)).success in
    c.success_on_held.ensures c.args.blocks.now (lent_operation_of c.as_ref.result) m
    (subst (λ (op : Operation). IsCovered (place_of c.args.blocks.now) op) (sym (lent_is c)) (covered c)) c.requires.held
    (subst (λ (op : Operation). IsSuccess (statuses_of op m)) (sym (lent_is c)) right)

pub returns-clause-held : goal.returns-clause-held
returns-clause-held c =
    let u = view_of_shown c.args.u.now in
    let entry = c.index-entry.result.now in
    let m = point u.namespace.block_size u.history c.args.place in
    let lent = lent_operation_of c.as_ref.result in
    let stands = stands_read u.history c.args.place entry c.requires.there c.index-entry.ensures in
    let same = ap (λ (e : HistoryEntry). e.operation) c.entry.view_is in
    let covers = (c.requires.known.entries c.args.place entry stands).covered (place_of c.args.blocks.now) c.requires.lies in
    let is = c.as_ref.ensures (subst (λ (op : Operation). IsCovered (place_of c.args.blocks.now) op) (sym same) covers).ranges ∙ same in
    let next = c.next_point.ensures u.namespace.block_size u.history c.args.place entry stands in
    let after = ap (λ (size : ℕ). medium_after size lent m) c.requires.lies.size
    ∙ ap (λ (op : Operation). medium_after u.namespace.block_size op m) is
    ∙ sym next in
    on_ok_weaker c.change.result (λ step. subst (λ (x : Medium). Holds c.change.new.self x) after (step m c.requires.held)) c.change.ensures.step
