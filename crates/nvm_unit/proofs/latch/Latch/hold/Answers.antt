use Rattle.std.proofs.Common.{◌∙◌}
use Rattle.nvm_unit.proofs.Waiting.{missed_waited, waited_more, waited_takes}
use Rattle.nvm_unit.proofs.latch.Latch.hold.Goals as goal

pub returns-in-Ok-clause-held : goal.returns-in-Ok-clause-held
returns-in-Ok-clause-held g c = waited_takes _ c.loop.token.seat.me _ c.loop.invariant.waited c.in-Ok.ensures.held

pub loop-preserved-then-word-eq1 : goal.loop-preserved-then-word-eq1
loop-preserved-then-word-eq1 g c =
    record {
      at = c.try_hold.ensures.at ∙ c.loop.invariant.at;
      waited = waited_more _ c.loop.token.seat.me _ c.loop.invariant.waited (missed_waited c.in-Err.word _ _ c.in-Err.ensures.missed);
    }

pub loop-preserved : goal.loop-preserved
loop-preserved g c =
    record {
      at = c.try_hold.ensures.at ∙ c.loop.invariant.at;
      waited = waited_more _ c.loop.token.seat.me _ c.loop.invariant.waited (missed_waited c.in-Err.word _ _ c.in-Err.ensures.missed);
    }
