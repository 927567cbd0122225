use Rattle.std.proofs.Common.{ap, subst}
use Rattle.nvm_record.specs.Step.{Operation}
use Rattle.nvm_plan.specs.LentPart.{part_operation_of}
use Rattle.nvm_store.specs.ActRef.{lent_operation_of}
use Rattle.nvm_store.specs.Look.{look_operation_of}
use Rattle.nvm_store.specs.Place.{IsCovered}
use Rattle.nvm_space.specs.Inside.Parts.{reply_told}
use Rattle.nvm_space.proofs.PartReplies.{change_within, changes_part, look_within, looks_at_part}
use Rattle.nvm_space.proofs.running.do_part.Goals as goal

pub change-requires-clause-covered : goal.change-requires-clause-covered
change-requires-clause-covered g c =
    subst (λ (op : Operation). IsCovered c.args.unit.now.bounds.place op) (ap part_operation_of c.in-Act.is) c.requires.covered

pub observe-requires-clause-covered : goal.observe-requires-clause-covered
observe-requires-clause-covered g c =
    subst (λ (op : Operation). IsCovered c.args.unit.now.bounds.place op) (ap part_operation_of c.in-Look.is) c.requires.covered

pub returns-in-Act-clause-within : goal.returns-in-Act-clause-within
returns-in-Act-clause-within g c =
    change_within 0 c.args.number (lent_operation_of c.in-Act.act).deed (lent_operation_of c.in-Act.act) c.change.result (reply_told 0 c.reply_of_change.result) c.args.unit.now.bounds
    c.args.pass.now.view c.change.new.pass.view (c.reply_of_change.ensures 0) c.requires.of.bounds c.change.ensures.made

pub returns-in-Look-clause-within : goal.returns-in-Look-clause-within
returns-in-Look-clause-within g c =
    look_within 0 (look_operation_of c.in-Look.look).deed (look_operation_of c.in-Look.look) c.observe.result (reply_told 0 c.reply_of_look.result) c.args.unit.now.bounds
    c.args.pass.now.view c.observe.new.pass.view (c.reply_of_look.ensures 0) c.requires.of.bounds c.observe.ensures.observed

pub returns-in-Act-clause-does : goal.returns-in-Act-clause-does
returns-in-Act-clause-does g c = λ unit.
    changes_part c.args.number unit (part_operation_of c.args.part) (lent_operation_of c.in-Act.act) c.change.result
    (reply_told unit c.reply_of_change.result) c.args.pass.now.view c.change.new.pass.view (ap part_operation_of c.in-Act.is)
    (c.acts_and_looks.ensures.acts c.in-Act.act) c.change.ensures.made (c.reply_of_change.ensures unit)

pub returns-in-Look-clause-does : goal.returns-in-Look-clause-does
returns-in-Look-clause-does g c = λ unit.
    looks_at_part c.args.number unit (part_operation_of c.args.part) (look_operation_of c.in-Look.look) c.observe.result
    (reply_told unit c.reply_of_look.result) c.args.pass.now.view c.observe.new.pass.view (ap part_operation_of c.in-Look.is)
    (c.acts_and_looks.ensures.looks c.in-Look.look) c.observe.ensures.observed (c.reply_of_look.ensures unit)
