use Rattle.std.proofs.Common.{◌++◌, ◌∙◌, ap, append_assoc, codes, decimal, get_or, refl}
use Rattle.nvm_text.specs.Runs.{runs}
use Rattle.nvm_text.specs.Lines.{comma_before, hex2, runs_text}
use Rattle.nvm_text.proofs.EqualBytes.{AreEqual}
use Rattle.nvm_text.proofs.FirstRun.{after, fewer_after, first_and_after}
use Rattle.nvm_text.proofs.run.show_first_run.Goals as goal

pub returns-clause-fewer : goal.returns-clause-fewer
returns-clause-fewer g c =
    let k = c.run_length-count.ensures in
    fewer_after c.args.bytes.now c.run_length-count.result (record { some = k.some; within = k.within; equal = k.equal })

pub returns-clause-shown : goal.returns-clause-shown
returns-clause-shown g c = λ plain.
    let bytes = c.args.bytes.now in
    let k = c.run_length-count.ensures in
    let n = c.run_length-count.result in
    let equal : AreEqual bytes n = record { some = k.some; within = k.within; equal = k.equal } in
    let rest = after bytes n equal in
    let byte = codes "*" ++ hex2 (get_or bytes 0 0) in (
      decimal n ++ (byte ++ comma_before rest),
      first_and_after bytes n equal k.longest ∙ ap (λ l. l ++ runs_text (runs rest)) (append_assoc (decimal n) byte (comma_before rest)),
      rw (← c.comma_before-comma.ensures.text) (c.in_ok-write.ensures.writes plain refl),
    )
