use Rattle.std.proofs.Common.{string_bytes}
use Rattle.nvm_list.proofs.ListListing.{read_again, all_listed, all_in_range}
use Rattle.nvm_list.proofs.listing.list.Goals as goal

pub returns-clause-again : goal.returns-clause-again
returns-clause-again c = λ size valid whole few.
    let cs = c.args.commands.now in
    let i = c.loop-before.before in
    let text = string_bytes c.loop-before.text in
    let kept = c.loop-before.invariant in
    read_again size cs text (all_listed text cs i c.loop-before-test.false kept.whole) c.runs_are_longest.ensures c.ranges_are_read_back.ensures.fit (all_in_range cs i c.loop-before-test.false kept.ranges) valid whole few
