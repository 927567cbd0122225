use Rattle.std.proofs.Common.{ap, subst}
use Rattle.nvm_record.specs.Step.{Operation}
use Rattle.nvm_plan.specs.LentPart.{part_operation_of}
use Rattle.nvm_store.specs.Answer.{IsRoomFor}
use Rattle.nvm_store.specs.ActRef.{lent_operation_of}
use Rattle.nvm_store.specs.Look.{look_operation_of}
use Rattle.nvm_store.specs.Place.{IsCovered}
use Rattle.nvm_space.specs.Inside.Parts.{reply_told}
use Rattle.nvm_space.proofs.PartReplies.{changes_into, looks_into}
use Rattle.nvm_space.proofs.lent.poll_part_into.Goals as goal

pub poll_change-requires-clause-covered : goal.poll_change-requires-clause-covered
poll_change-requires-clause-covered g c =
    subst (λ (op : Operation). IsCovered c.args.unit.now.bounds.place op) (ap part_operation_of c.in-Act.is) c.requires.covered

pub poll_observe_into-requires-clause-covered : goal.poll_observe_into-requires-clause-covered
poll_observe_into-requires-clause-covered g c =
    subst (λ (op : Operation). IsCovered c.args.unit.now.bounds.place op) (ap part_operation_of c.in-Look.is) c.requires.covered

pub poll_observe_into-requires-clause-room : goal.poll_observe_into-requires-clause-room
poll_observe_into-requires-clause-room g c =
    subst (λ (op : Operation). IsRoomFor op c.args.unit.now.bounds.place.size c.args.buffer.now) (ap part_operation_of c.in-Look.is) c.requires.room

pub returns-in_ok-changed-in-Act-clause-does : goal.returns-in_ok-changed-in-Act-clause-does
returns-in_ok-changed-in-Act-clause-does g c = λ place.
    changes_into c.args.number place (part_operation_of c.args.part) (lent_operation_of c.in-Act.act) c.in_ok-changed-in-Act.changed
    (reply_told place c.reply_of_change.result) c.args.buffer.now c.args.pass.now.view c.poll_change.new.pass.view (ap part_operation_of c.in-Act.is)
    (c.acts_and_looks.ensures.acts c.in-Act.act) c.in_ok-changed-in-Act.ensures.made (c.reply_of_change.ensures place)

pub returns-in_ok-observed-in-Look-clause-does : goal.returns-in_ok-observed-in-Look-clause-does
returns-in_ok-observed-in-Look-clause-does g c = λ place.
    looks_into c.args.number place (part_operation_of c.args.part) (look_operation_of c.in-Look.look) c.in_ok-observed-in-Look.observed
    c.args.buffer.now c.poll_observe_into.new.buffer c.args.pass.now.view c.poll_observe_into.new.pass.view (ap part_operation_of c.in-Look.is)
    (c.acts_and_looks.ensures.looks c.in-Look.look) c.in_ok-observed-in-Look.ensures.observed
