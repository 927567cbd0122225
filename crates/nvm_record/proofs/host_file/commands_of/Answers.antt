use Rattle.std.proofs.Common.{◌≡◌, ◌<◌, [], length, drop, subst, ap, arith, length-drop}
use Rattle.std.proofs.lemmas.Result.{err_from_is_err_and}
use Rattle.nvm_record.specs.Entry.{BeginsWith}
use Rattle.nvm_record.proofs.HostFileLemmas.{reading_more, reading_fault, reading_too_many}
use Rattle.nvm_record.proofs.host_file.commands_of.Goals as goal

pub loop-from-preserved : goal.loop-from-preserved
loop-from-preserved c =
    let bytes = c.args.bytes.now in
    let few : length c.loop-from.commands.items < 65536 = omega (arith, c.loop-from.commands.ok) in
    let same : c.share_at-share.result.now ≡ bytes = c.share_at-share.ensures in
    let begins = subst (λ share. BeginsWith c.args.size (drop c.loop-from.from share) c.in_ok-command.command (drop c.in_ok-command.end share)) same c.in_ok-command.ensures.command in
    rw c.in_ok-push.ensures.items (
      reading_more c.args.size bytes c.loop-from.commands.items (drop c.loop-from.from bytes) c.in_ok-command.command (drop c.in_ok-command.end bytes) few c.loop-from.invariant.0
          begins c.in_ok-command.ensures.whole,
      omega (arith, ap length same, c.in_ok-command.ensures.end.1),
      c.add_share.ensures,
    )

pub returns-in_err-command-clause-fault : goal.returns-in_err-command-clause-fault
returns-in_err-command-clause-fault c =
    let p = err_from_is_err_and c.from_residual-in_err-command.result c.from_residual-in_err-command.ensures.1 in
    let few : length c.loop-from.commands.items < 65536 = omega (arith, c.loop-from.commands.ok) in
    let same : c.share_at-share.result.now ≡ c.args.bytes.now = c.share_at-share.ensures in
    rw (p.1, p.2) (reading_fault c.args.size c.args.bytes.now c.loop-from.commands.items (drop c.loop-from.from c.args.bytes.now) c.loop-from.from _ few c.loop-from.invariant.0
    (omega (arith, length-drop c.loop-from.from c.args.bytes.now, c.loop-from.invariant.1)) (rw same at c.in_err-command.ensures.fault))

pub returns-then-len-eq-MOST_COMMANDS-clause-fault : goal.returns-then-len-eq-MOST_COMMANDS-clause-fault
returns-then-len-eq-MOST_COMMANDS-clause-fault c =
    let many : length c.loop-from.commands.items ≡ 65536 = omega (arith, c.loop-from.commands.ok) in
    reading_too_many c.args.size c.args.bytes.now c.loop-from.commands.items (drop c.loop-from.from c.args.bytes.now) many
    (λ (none : drop c.loop-from.from c.args.bytes.now ≡ []). let e = ap length none in omega (arith, length-drop c.loop-from.from c.args.bytes.now, c.loop-from.invariant.1)) c.loop-from.invariant.0
