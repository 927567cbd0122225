use Rattle.std.proofs.Common.{arith}
use Rattle.std.proofs.lemmas.Grind.{common_steps}
use Rattle.nvm_plan.proofs.FrontJob.{last_taken, pair_taken, single_taken}
use Rattle.nvm_plan.proofs.pairing.next_body.Goals as goal

pub returns-then-not-is_fused_pair-clause-some : goal.returns-then-not-is_fused_pair-clause-some
returns-then-not-is_fused_pair-clause-some c =
    single_taken c.args.commands.now.items c.pop_front.new.self.items c.in_ok-first.first c.in-Some.second.now
    c.in_ok-first.ensures.items c.in-Some.ensures.item.3.0 c.in-Some.ensures.lookup
    (λ p. let yes = c.is_fused_pair.ensures.1 p in cc (yes, c.if-not-is_fused_pair.true))

pub returns-clause-some : goal.returns-clause-some
returns-clause-some c =
    pair_taken c.args.commands.now.items c.pop_front.new.self.items c.pop_front-2.new.self.items
    c.in_ok-first.first c.in_ok-second.second c.in-Some.second.now
    c.in_ok-first.ensures.items c.in_ok-second.ensures.items c.in-Some.ensures.lookup (c.is_fused_pair.ensures.0 c.if-not-is_fused_pair.false)

pub returns-in_default-clause-some : goal.returns-in_default-clause-some
returns-in_default-clause-some c = last_taken c.args.commands.now.items c.pop_front.new.self.items c.in_ok-first.first c.in_ok-first.ensures.items (grind (arith, common_steps))
