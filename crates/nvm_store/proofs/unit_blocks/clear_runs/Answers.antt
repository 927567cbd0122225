use Rattle.std.proofs.Common.{◌≡◌, ℕ, ◌+◌, ◌-◌, ◌≤◌, [], length, refl, ap, sym, ◌∙◌, arith, rules}
use Rattle.std.proofs.lemmas.List.{length-replicate}
use Rattle.nvm_record.specs.Ranges.{cut_ranges, ranges_of}
use Rattle.nvm_store.specs.declared.place.Place.{Place}
use Rattle.nvm_store.specs.Inside.Rewrite.{IsRewritten, zero_block}
use Rattle.nvm_store.specs.Operation.{zeroes_operation}
use Rattle.nvm_store.proofs.Cuts.{IsLowest, swept, swept_more, swept_all}
use Rattle.nvm_store.proofs.Ranges.{sound_after, held-rewritten}
use Rattle.nvm_store.proofs.unit_blocks.clear_runs.Goals as goal

pub loop-run-preserved : goal.loop-run-preserved
loop-run-preserved c =
    let start = c.args.start in
    let old = c.args.blocks.now in
    let before = c.loop-run.blocks in
    let after = c.zero.new.self in
    let first = c.args.first in
    let from = c.loop-run.from in
    let left = c.loop-run.left in
    let rs = ranges_of c.args.ranges.now in
    let cuts = cut_ranges from left rs in
    let run = c.in-Some.run' in
    let at = run.first - start in
    let is : IsLowest from left cuts cuts run = record {
      among = rw c.in-Some.is at c.lowest_cut.ensures.some;
      had = rw c.in-Some.is at c.lowest_cut.ensures.had;
      lowest = rw c.in-Some.is at c.lowest_cut.ensures.lowest;
    } in
    let zeroed : IsRewritten at run.blocks (λ _. zero_block before.size) before.list after.list =
    c.in_ok-zero.ensures.ok in
    let len : length after.list ≡ length before.list = zeroed.len in
    let size : before.size ≡ old.size = ap (λ (p : Place). p.size) c.loop-run.invariant.place in
    let past : run.first + c.from.result ≡ run.first + run.blocks = omega (arith, c.from.ensures) in
    let high : start ≤ first = c.requires.range.above in
    let low : first ≤ from = c.loop-run.invariant.low in
    let above : from ≤ run.first = is.among.1 in
    let below : run.first + run.blocks ≤ from + left = is.among.2 in
    let here : start + at ≡ run.first = omega arith in
    record {
      own = λ own. c.zero.ensures.own ∙ c.loop-run.invariant.own own;
      sound =
          rw c.zero.ensures.size
          (sound_after c.zero.result start before.size at run.blocks (λ _. zero_block before.size) before.list after.list
          c.zero.ensures.ok c.zero.ensures.err c.loop-run.invariant.sound (λ i lt. length-replicate before.size 0));
      place = rw (c.zero.ensures.size, len) c.loop-run.invariant.place;
      low = omega arith;
      end = omega (arith, past, c.loop-run.invariant.end);
      held =
          λ m held i block there.
          let lba = start + i in
          let stepped =
          rw size at (held-rewritten c.steps_are_local.ensures.outside (swept old.size rs first from m) start before.size at
          (zeroes_operation run.first run.blocks) (λ _. zero_block before.size) before.list after.list (λ lba. refl)
          (c.loop-run.invariant.held m held) here zeroed (λ j lt. refl) i block there) in
          ap (λ (n : ℕ). swept old.size rs first n m lba) past
          ∙ sym (swept_more c.cut_ranges_lie_within.ensures.has old.size first from left rs run m lba low is)
          ∙ stepped;
    }

pub returns-clause-step : goal.returns-clause-step
returns-clause-step c m held i block there =
    let size = c.args.blocks.now.size in
    let rs = ranges_of c.args.ranges.now in
    let none : cut_ranges c.loop-run.from c.loop-run.left rs ≡ [] = search rules in
    let lba = c.args.start + i in
    sym (swept_all c.cut_ranges_lie_within.ensures.has size c.args.first c.args.count c.loop-run.from c.loop-run.left rs m lba c.loop-run.invariant.low c.loop-run.invariant.end none)
    ∙ c.loop-run.invariant.held m held i block there
