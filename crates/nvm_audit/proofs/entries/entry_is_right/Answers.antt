use Rattle.std.proofs.Common.{Some, sym, ap, ◌∙◌}
use Rattle.nvm_record.specs.Step.{Operation}
use Rattle.nvm_store.specs.Contents.{place_of}
use Rattle.nvm_audit.proofs.Judged.{some_is}
use Rattle.nvm_audit.proofs.entries.entry_is_right.Goals as goal

pub part_is_right-requires-clause-covers : goal.part_is_right-requires-clause-covers
part_is_right-requires-clause-covers c = c.job_part_there.ensures.covered (place_of c.args.blocks.now) c.requires.lies

pub returns-then-is_claimed : goal.returns-then-is_claimed
returns-then-is_claimed c = λ m held.
    let part = c.job_part_there.ensures.part in
    let tells = c.part_is_right.ensures m held in (
      λ t. (part ∙ ap (λ (op : Operation). Some op) (tells.0 t).0, (tells.0 t).1),
      λ h. tells.1 (some_is (sym part ∙ h.0), h.1),
    )

pub part_is_right-requires-in-Some-clause-covers : goal.part_is_right-requires-in-Some-clause-covers
part_is_right-requires-in-Some-clause-covers c = c.in-Some.ensures.covered (place_of c.args.blocks.now) c.requires.lies

pub returns-in-Some : goal.returns-in-Some
returns-in-Some c = λ m held.
    let part = c.in-Some.ensures.part in
    let tells = c.part_is_right-in-Some.ensures m held in (
      λ t. (part ∙ ap (λ (op : Operation). Some op) (tells.0 t).0, (tells.0 t).1),
      λ h. tells.1 (some_is (sym part ∙ h.0), h.1),
    )
