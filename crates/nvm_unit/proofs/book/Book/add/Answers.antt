use Rattle.std.proofs.Common.{◌≡◌, ◌++◌, ◌∷◌, [], ap}
use Rattle.nvm_record.specs.Step.{medium_after}
use Rattle.nvm_store.specs.ActRef.{lent_operation_of}
use Rattle.nvm_store.specs.History.{replay_of}
use Rattle.nvm_store.specs.HistoryEntry.{HistoryEntry}
use Rattle.nvm_store.specs.declared.place.Place.{Place}
use Rattle.nvm_unit.proofs.book.Book.add.Goals as goal

pub invariant_of-self-in_default : goal.invariant_of-self-in_default
invariant_of-self-in_default g c =
    let history = g.K.Kept.told c.self.inside.kept in
    let size = c.self.inside.blocks.size in
    let entry : HistoryEntry = record { pass = c.args.pass; job = c.args.job; operation = lent_operation_of c.args.act } in
    let items : g.K.Kept.told c.keep.new.self ≡ history ++ entry ∷ [] = c.in_ok-keep.ensures.kept in
    let stays : c.change.new.self.size ≡ size = ap (λ (p : Place). p.size) c.change.ensures.place in
    let more : replay_of size (history ++ entry ∷ []) ≡ medium_after size entry.operation (replay_of size history) =
    c.replay_of_one_more.ensures size history entry in
    let stepped = c.in_default.ensures.step (replay_of size history) c.self.invariant in
    rw (stays, items, more) stepped
