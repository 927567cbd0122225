use Rattle.std.proofs.Common.{◌≡◌, ◌++◌, List, ℕ, ap, ◌∙◌, append_assoc}
use Rattle.nvm_record.specs.Entry.{entry_of}
use Rattle.nvm_record.proofs.spelling.push_spelling.Goals as goal

pub returns-clause-bytes : goal.returns-clause-bytes
returns-clause-bytes c =
    let old : List ℕ = c.args.out.now.items in
    let payload : List ℕ = c.args.command.now.payload in
    let first : c.extend_from_slice.new.self.items ≡ old ++ entry_of c.args.command.now =
    c.in_ok-extend_from_slice.ensures.items
    ∙ ap (λ (x : List ℕ). x ++ c.command_bytes-entry.result) c.in_ok-reserve.ensures.items
    ∙ ap (λ (x : List ℕ). old ++ x) c.command_bytes-entry.ensures.entry in
    c.in_ok-extend_from_slice-2.ensures.items
    ∙ ap (λ (x : List ℕ). x ++ c.as_slice-payload.result.now) first
    ∙ ap (λ (x : List ℕ). (old ++ entry_of c.args.command.now) ++ x) c.as_slice-payload.ensures
    ∙ append_assoc old (entry_of c.args.command.now) payload
