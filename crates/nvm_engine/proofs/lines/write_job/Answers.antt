use Rattle.std.proofs.Common.{None, refl, ap}
use Rattle.nvm_text.proofs.Taking.{then_front, then_whole, within}
use Rattle.nvm_plan.specs.Completions.{completion}
use Rattle.nvm_engine.specs.Lines.{line_in}
use Rattle.nvm_engine.specs.UnderLine.{Lists, after_next, lists_say, next_of}
use Rattle.nvm_engine.proofs.lines.write_job.Goals as goal

pub returns-in_err-write_command-in-Pair-Two-clause-front : goal.returns-in_err-write_command-in-Pair-Two-clause-front
returns-in_err-write_command-in-Pair-Two-clause-front g c =
    let it = c.in-Pair-Two in
    let form = c.args.form in
    let host = c.args.job.now.host in
    let lists = lists_say c.args.lists.now in
    rw (it.is-0, it.is-1)
    (within c.from_residual.result _ _ _ (line_in form it.compare.op (completion host it.compare it.first None) (next_of lists host))
    (line_in form it.write.op (completion host it.write it.second None) (next_of (after_next lists host) host)) refl
    c.in_err-write_command-in-Pair-Two.ensures.front)

pub returns-in-Single-One-clause-front : goal.returns-in-Single-One-clause-front
returns-in-Single-One-clause-front g c = rw (c.in-Single-One.is-0, c.in-Single-One.is-1) c.write_command.ensures.front

pub returns-in_ok-write_command-in-Pair-Two-clause-whole : goal.returns-in_ok-write_command-in-Pair-Two-clause-whole
returns-in_ok-write_command-in-Pair-Two-clause-whole g c =
    let it = c.in-Pair-Two in
    let form = c.args.form in
    let host = c.args.job.now.host in
    let lists = lists_say c.args.lists.now in
    let second = λ (left : Lists). line_in form it.write.op (completion host it.write it.second None) (next_of left host) in
    rw (it.is-0, it.is-1)
    (then_whole c.write_command-in-Pair-Two-2.result _ _ _ _
    (line_in form it.compare.op (completion host it.compare it.first None) (next_of lists host)) _ (second (after_next lists host)) refl
    (ap second c.write_command-in-Pair-Two.ensures.left)
    c.in_ok-write_command-in-Pair-Two.ensures.whole c.write_command-in-Pair-Two-2.ensures.whole)

pub returns-in_ok-write_command-in-Pair-Two-clause-front : goal.returns-in_ok-write_command-in-Pair-Two-clause-front
returns-in_ok-write_command-in-Pair-Two-clause-front g c =
    let it = c.in-Pair-Two in
    let form = c.args.form in
    let host = c.args.job.now.host in
    let lists = lists_say c.args.lists.now in
    let second = λ (left : Lists). line_in form it.write.op (completion host it.write it.second None) (next_of left host) in
    rw (it.is-0, it.is-1)
    (then_front c.write_command-in-Pair-Two-2.result _ _ _ _
    (line_in form it.compare.op (completion host it.compare it.first None) (next_of lists host)) _ (second (after_next lists host)) refl
    (ap second c.write_command-in-Pair-Two.ensures.left)
    c.in_ok-write_command-in-Pair-Two.ensures.whole c.write_command-in-Pair-Two-2.ensures.front)
