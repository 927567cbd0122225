use Rattle.std.proofs.Common.{ap}
use Rattle.nvm_plan.specs.LentPart.{part_operation_of}
use Rattle.nvm_store.specs.ActRef.{lent_operation_of}
use Rattle.nvm_store.specs.Look.{look_operation_of}
use Rattle.nvm_space.specs.Inside.Parts.{reply_told}
use Rattle.nvm_space.proofs.PartReplies.{change_within, changes_part, look_within, looks_at_part}
use Rattle.nvm_space.proofs.running.poll_part.Goals as goal

pub returns-in_ok-changed-in-Act-clause-does : goal.returns-in_ok-changed-in-Act-clause-does
returns-in_ok-changed-in-Act-clause-does g c =
    let act = lent_operation_of c.in-Act.act in
    let changed = c.in_ok-changed-in-Act.changed in
    let made = c.in_ok-changed-in-Act.ensures.made in (
      change_within 0 c.args.number act.deed act changed (reply_told 0 c.reply_of_change.result) c.args.unit.now.bounds
          c.args.pass.now.view c.poll_change.new.pass.view (c.reply_of_change.ensures 0) c.requires.of.bounds made,
      λ unit.
          changes_part c.args.number unit (part_operation_of c.args.part) act changed (reply_told unit c.reply_of_change.result)
          c.args.pass.now.view c.poll_change.new.pass.view (ap part_operation_of c.in-Act.is) (c.acts_and_looks.ensures.acts c.in-Act.act)
          made (c.reply_of_change.ensures unit),
    )

pub returns-in_ok-answer-in-Look-clause-does : goal.returns-in_ok-answer-in-Look-clause-does
returns-in_ok-answer-in-Look-clause-does g c =
    let look = look_operation_of c.in-Look.look in
    let answer = c.in_ok-answer-in-Look.answer in
    let seen = c.in_ok-answer-in-Look.ensures.observed in (
      look_within 0 look.deed look answer (reply_told 0 c.reply_of_look.result) c.args.unit.now.bounds
          c.args.pass.now.view c.poll_observe.new.pass.view (c.reply_of_look.ensures 0) c.requires.of.bounds seen,
      λ unit.
          looks_at_part c.args.number unit (part_operation_of c.args.part) look answer (reply_told unit c.reply_of_look.result)
          c.args.pass.now.view c.poll_observe.new.pass.view (ap part_operation_of c.in-Look.is) (c.acts_and_looks.ensures.looks c.in-Look.look)
          seen (c.reply_of_look.ensures unit),
    )
