use Rattle.std.proofs.Common.{◌≡◌, ◌∙◌, length, sym, arith}
use Rattle.std.proofs.lemmas.List.{length-map}
use Rattle.nvm_c.specs.Opening.{engines_of}
use Rattle.nvm_c.proofs.Worked.{late_refused}
use Rattle.nvm_c.proofs.recording.file_of_ports.Goals as goal

pub file_of_work-requires-clause-some : goal.file_of_work-requires-clause-some
file_of_work-requires-clause-some c =
    let same : length c.in-Ok.work.done.items ≡ length c.args.ports.now =
    sym (length-map c.in-Ok.work.done.items (λ did. did.items)) ∙ c.in-Ok.ensures.work.done_count ∙ length-map c.args.ports.now (λ h. h.held.engine) in
    omega (arith, same, c.in-Ok.ensures.some)

pub file_of_work-requires-clause-few : goal.file_of_work-requires-clause-few
file_of_work-requires-clause-few c =
    let same : length c.in-Ok.work.done.items ≡ length c.args.ports.now =
    sym (length-map c.in-Ok.work.done.items (λ did. did.items)) ∙ c.in-Ok.ensures.work.done_count ∙ length-map c.args.ports.now (λ h. h.held.engine) in
    omega (arith, same, c.in-Ok.ensures.few)

pub returns-in-Ok-clause-file : goal.returns-in-Ok-clause-file
returns-in-Ok-clause-file c = c.file_of_work.ensures.file (engines_of c.args.ports.now) c.in-Ok.ensures.work

pub returns-in-Ok-clause-refused : goal.returns-in-Ok-clause-refused
returns-in-Ok-clause-refused c = late_refused c.file_of_work.result (engines_of c.args.ports.now) c.file_of_work.ensures.late
