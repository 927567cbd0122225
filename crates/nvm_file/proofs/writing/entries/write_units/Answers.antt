use Rattle.std.proofs.Common.{[], map, ap, ◌∙◌}
use Rattle.nvm_text.proofs.Taking.{loop_front, loop_next, next_of_map}
use Rattle.nvm_file.specs.EntrySpelling.{history_bytes}
use Rattle.nvm_file.proofs.writing.entries.write_units.Goals as goal

pub returns-in_err-write_history-clause-front : goal.returns-in_err-write_history-clause-front
returns-in_err-write_history-clause-front g c =
    let units = c.args.units.now in
    let i = c.loop-history.history-index in
    let next = next_of_map history_bytes (λ history. history.items) units i _ (history_bytes c.deref.result.now) c.loop-history-test.true
    (ap history_bytes (c.deref.ensures.value ∙ ap (λ history. history.items) c.history-item.is)) in
    loop_front c.from_residual.result history_bytes (map (λ history. history.items) units) i _ _ _ [] (history_bytes c.deref.result.now) next
    c.loop-history.invariant c.in_err-write_history.ensures.front

pub loop-history-preserved : goal.loop-history-preserved
loop-history-preserved g c =
    let units = c.args.units.now in
    let i = c.loop-history.history-index in
    let next = next_of_map history_bytes (λ history. history.items) units i _ (history_bytes c.deref.result.now) c.loop-history-test.true
    (ap history_bytes (c.deref.ensures.value ∙ ap (λ history. history.items) c.history-item.is)) in
    loop_next history_bytes (map (λ history. history.items) units) i _ _ _ [] (history_bytes c.deref.result.now) next
    c.loop-history.invariant c.in_ok-write_history.ensures.whole
