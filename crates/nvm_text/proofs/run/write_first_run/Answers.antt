use Rattle.std.proofs.Common.{◌≡◌, ◌++◌, ◌∙◌, ap, get_or, subst, sym}
use Rattle.std.specs.Io.KnownBytes.{Appends}
use Rattle.nvm_text.specs.Handed.{TakesFront}
use Rattle.nvm_text.proofs.Taking.{on_err, first_of}
use Rattle.nvm_text.specs.Runs.{run_of, runs}
use Rattle.nvm_text.specs.Lines.{comma_before, run_text, runs_text}
use Rattle.nvm_text.proofs.EqualBytes.{AreEqual}
use Rattle.nvm_text.proofs.FirstRun.{after, fewer_after, first_and_after}
use Rattle.nvm_text.proofs.run.write_first_run.Goals as goal

pub returns-in_err-hand-clause-front : goal.returns-in_err-hand-clause-front
returns-in_err-hand-clause-front g c =
    let bytes = c.args.bytes.now in
    let k = c.run_length-count.ensures in
    let n = c.run_length-count.result in
    let equal : AreEqual bytes n = record { some = k.some; within = k.within; equal = k.equal } in
    let rest = after bytes n equal in
    let text = run_text (run_of n (get_or bytes 0 0)) ++ comma_before rest in
    let is : c.as_slice.result.now ≡ text =
    c.as_slice.ensures ∙ c.run_piece.ensures ∙ ap (λ l. run_text (run_of n (get_or bytes 0 0)) ++ l) c.comma_before.ensures.text in
    on_err c.from_residual.result (subst (TakesFront _ _) (sym (first_and_after bytes n equal k.longest))
    (first_of _ _ _ text (runs_text (runs rest)) is c.in_err-hand.ensures.front))

pub returns-clause-whole : goal.returns-clause-whole
returns-clause-whole g c =
    let bytes = c.args.bytes.now in
    let k = c.run_length-count.ensures in
    let n = c.run_length-count.result in
    let equal : AreEqual bytes n = record { some = k.some; within = k.within; equal = k.equal } in
    let rest = after bytes n equal in
    let text = run_text (run_of n (get_or bytes 0 0)) ++ comma_before rest in
    let is : c.as_slice.result.now ≡ text =
    c.as_slice.ensures ∙ c.run_piece.ensures ∙ ap (λ l. run_text (run_of n (get_or bytes 0 0)) ++ l) c.comma_before.ensures.text in
    (fewer_after bytes n equal, text, first_and_after bytes n equal k.longest, subst (Appends _ _) is c.in_ok-hand.ensures.whole)
