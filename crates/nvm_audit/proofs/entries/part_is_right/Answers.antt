use Rattle.std.proofs.Common.{◌≡◌, ◌↔◌, IsTrue, sym, ap, subst}
use Rattle.nvm_record.specs.Status.{IsSuccess}
use Rattle.nvm_record.specs.Step.{Operation, statuses_of}
use Rattle.nvm_plan.specs.LentPart.{part_operation_of}
use Rattle.nvm_store.specs.Contents.{Covers}
use Rattle.nvm_audit.proofs.entries.part_is_right.Goals as goal

pub act_is_right-requires : goal.act_is_right-requires
act_is_right-requires c =
    subst (λ (op : Operation). Covers c.args.blocks.now op) (ap part_operation_of c.in-Act.is) c.requires.covers

pub returns-in-Act : goal.returns-in-Act
returns-in-Act c = λ m held.
    let entry = c.args.entry.now.operation in
    subst (λ (op : Operation). IsTrue c.act_is_right.result ↔ ((op ≡ entry) × IsSuccess (statuses_of entry m)))
    (sym (ap part_operation_of c.in-Act.is)) (c.act_is_right.ensures m held)
