use Rattle.std.proofs.Common.{◌≡◌, ◌+◌, ◌∷◌, drop, ap, sym, ◌∙◌}
use Rattle.std.proofs.lemmas.List.{drop_more}
use Rattle.nvm_record.specs.HostFile.{file_of}
use Rattle.nvm_record.proofs.WrittenFiles.{written_more, spelled_more, all_spelled, all_written, read_again}
use Rattle.nvm_record.proofs.host_file.host_bytes.Goals as goal

pub loop-command-preserved : goal.loop-command-preserved
loop-command-preserved c =
    let d = c.command-item.result in
    let cs = c.args.commands.now in
    let i = c.loop-command.command-index in
    let here : drop i cs ≡ d ∷ drop (i + 1) cs = drop_more cs i d c.loop-command-test.true ∙ ap (λ x. x ∷ drop (i + 1) cs) (sym c.command-item.is) in
    record {
      whole = rw c.in_ok-push_spelling.ensures.bytes (written_more c.loop-command.bytes.items d cs i (file_of cs) here c.loop-command.invariant.whole);
      spelled = spelled_more d cs i here c.in_ok-push_spelling.ensures.spelling c.loop-command.invariant.spelled;
    }

pub returns-clause-bytes : goal.returns-clause-bytes
returns-clause-bytes c =
    all_written c.loop-command.bytes.items c.args.commands.now c.loop-command.command-index c.loop-command-test.false c.loop-command.invariant.whole

pub returns-clause-file : goal.returns-clause-file
returns-clause-file c = λ size whole few.
    let cs = c.args.commands.now in
    let i = c.loop-command.command-index in
    read_again size cs c.loop-command.bytes.items (all_written c.loop-command.bytes.items cs i c.loop-command-test.false c.loop-command.invariant.whole)
    (all_spelled cs i c.loop-command-test.false c.loop-command.invariant.spelled) whole few
