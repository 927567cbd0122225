use Rattle.std.proofs.Common.{◌≡◌, ◌+◌, ◌++◌, length, take, arith}
use Rattle.std.specs.List.{flat_map}
use Rattle.std.proofs.lemmas.Grind.{common_steps}
use Rattle.byteorder.specs.Endian.{little_bytes}
use Rattle.nvm_text.proofs.Taking.{within, loop_front, loop_next}
use Rattle.nvm_file.specs.EntrySpelling.{entry_bytes}
use Rattle.nvm_file.proofs.writing.entries.write_history.Goals as goal

pub returns-in_err-hand_noting-clause-front : goal.returns-in_err-hand_noting-clause-front
returns-in_err-hand_noting-clause-front g c =
    let history = c.args.history.now in
    within c.from_residual.result _ _ _ (little_bytes 4 (length history)) (flat_map entry_bytes history) c.count_bytes.ensures
    c.in_err-hand_noting.ensures.front

pub returns-in_err-write_entry-clause-front : goal.returns-in_err-write_entry-clause-front
returns-in_err-write_entry-clause-front g c =
    let history = c.args.history.now in
    let i = c.loop-entry.entry-index in
    let item = entry_bytes c.entry-item.result in
    let next : flat_map entry_bytes (take (i + 1) history) ≡ flat_map entry_bytes (take i history) ++ item = grind (arith, common_steps) in
    loop_front c.from_residual-in_err-write_entry.result entry_bytes history i _ _ _ (little_bytes 4 (length history)) item next
    c.loop-entry.invariant c.in_err-write_entry.ensures.front

pub loop-entry-preserved : goal.loop-entry-preserved
loop-entry-preserved g c =
    let history = c.args.history.now in
    let i = c.loop-entry.entry-index in
    let item = entry_bytes c.entry-item.result in
    let next : flat_map entry_bytes (take (i + 1) history) ≡ flat_map entry_bytes (take i history) ++ item = grind (arith, common_steps) in
    loop_next entry_bytes history i _ _ _ (little_bytes 4 (length history)) item next c.loop-entry.invariant c.in_ok-write_entry.ensures.whole
