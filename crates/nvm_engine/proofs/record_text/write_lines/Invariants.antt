use Rattle.nvm_engine.specs.UnderLine.{lists_say}
use Rattle.nvm_engine.proofs.Writing.{HasWritten}
use Rattle.nvm_engine.proofs.record_text.write_lines.Given as goal

abbrev pub invariant-loop-number : goal.invariant-loop-number
invariant-loop-number g l =
    HasWritten l.form (lists_say l.fn.lists) l.run (g.W.Write.contents l.fn.writer) (g.W.Write.contents l.writer) l.number
    (lists_say l.lists)
