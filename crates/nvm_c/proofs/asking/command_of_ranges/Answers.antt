use Rattle.std.proofs.Common.{◌≡◌, ◌∙◌, ◌++◌, [], ap, sym, subst, refl, List, ℕ}
use Rattle.std.proofs.lemmas.List.{append-nil}
use Rattle.nvm_record.specs.Entry.{IsSpelling}
use Rattle.nvm_c.proofs.asking.command_of_ranges.Goals as goal

-- Nothing is left behind the command's spelling, so it is all of the bytes.
pub returns-then-is_empty-clause-spelled : goal.returns-then-is_empty-clause-spelled
returns-then-is_empty-clause-spelled c =
    let begins = c.in-Ok-read_command.ensures.command in
    let front = begins.0 in
    let none : c.in-Ok-read_command.rest ≡ [] = c.if-is_empty.ensures.0 refl in
    let whole : front ≡ c.args.entry.now ++ c.args.ranges.now =
    sym (append-nil front) ∙ ap (λ (rest : List ℕ). front ++ rest) (sym none) ∙ sym begins.1 ∙ c.in-Ok.ensures in
    subst (λ (bytes : List ℕ). IsSpelling c.args.size bytes c.in-Ok-read_command.command) whole begins.2
