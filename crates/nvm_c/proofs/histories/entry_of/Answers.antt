use Rattle.std.proofs.Common.{◌∙◌, ◌<◌, Some, length, ap, sym, subst, rules}
use Rattle.nvm_record.specs.Deeds.{IsAct}
use Rattle.nvm_record.specs.Step.{Operation}
use Rattle.nvm_plan.specs.LentPart.{part_operation_of}
use Rattle.nvm_plan.specs.declared.lent_part.LentPart.{LentPart}
use Rattle.nvm_c.proofs.Places.{at_index}
use Rattle.nvm_c.proofs.histories.entry_of.Goals as goal

pub returns : goal.returns
returns c =
    let jobs = c.args.jobs.now.items in
    let lt : c.args.change.job < length jobs = search rules in
    let whole = c.in_ok-made.ensures in
    record {
      job = c.index-job.result.now;
      its = at_index jobs c.args.change.job c.index-job.result.now lt c.index-job.ensures;
      part = c.in-Some.ensures.part ∙ ap (λ (p : LentPart). Some (part_operation_of p)) c.in-Act.is ∙ ap (λ (op : Operation). Some op) (sym whole);
      act = subst (λ (op : Operation). IsAct op.deed) (sym whole) (c.acts_and_looks.ensures.acts c.in-Act.act);
      pass = search rules;
    }
