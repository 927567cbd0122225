use Rattle.std.proofs.Common.{◌≡◌, ◌+◌, ◌-◌, ◌≤◌, [], ap, sym, ◌∙◌, subst, arith, rules}
use Rattle.std.proofs.lemmas.Result.{on_ok_weaker}
use Rattle.nvm_record.specs.Ranges.{cut_ranges, ranges_of}
use Rattle.nvm_store.specs.Contents.{Holds}
use Rattle.nvm_store.specs.Inside.Memory.{InMemory, unit_from}
use Rattle.nvm_store.proofs.Cuts.{IsLowest, swept, swept_none, swept_more, swept_all}
use Rattle.nvm_store.proofs.unit_blocks.UnitBlocks.deallocate.Goals as goal

pub overflow_add-past : goal.overflow_add-past
overflow_add-past c =
    let within = rw (← c.self.view_is) at c.requires in
    let low = c.self.invariant.sound.low in
    let run = c.in-Some.run' in
    let end : run.first + run.blocks ≤ c.args.first + c.args.blocks = (rw c.in-Some.is at c.lowest_cut.ensures.some).2 in
    omega (arith, within.below, low, end, c.from.ensures)

pub returns-then-is_none-clause-step : goal.returns-then-is_none-clause-step
returns-then-is_none-clause-step c =
    let size = c.args.self.now.size in
    let first = c.args.first in
    let rs = ranges_of c.args.ranges.now in
    let cuts = cut_ranges first c.args.blocks rs in
    let run = c.in-Some.run' in
    let law = c.cut_ranges_lie_within.ensures.has in
    let is : IsLowest first c.args.blocks cuts cuts run = record {
      among = rw c.in-Some.is at c.lowest_cut.ensures.some;
      had = rw c.in-Some.is at c.lowest_cut.ensures.had;
      lowest = rw c.in-Some.is at c.lowest_cut.ensures.lowest;
    } in
    let above : first ≤ run.first = is.among.1 in
    let below : run.first + run.blocks ≤ first + c.args.blocks = is.among.2 in
    let past = run.first + run.blocks in
    let left = first + c.args.blocks - past in
    let none : cut_ranges past left rs ≡ [] = search rules in
    on_ok_weaker c.zero.result
    (λ step m held i block at.
    let lba = c.zero.new.self.first + i in
    let swept' = swept size rs first first m in
    sym (swept_all law size first c.args.blocks past left rs m lba (omega arith) (omega arith) none)
    ∙ sym (swept_more law size first first c.args.blocks rs run m lba (omega arith) is)
    ∙ step swept' (λ j b here. swept_none size rs first m (c.args.self.now.first + j) ∙ held j b here) i block at)
    c.zero.ensures.step

pub returns-then-is_own-clause-step : goal.returns-then-is_own-clause-step
returns-then-is_own-clause-step c =
    on_ok_weaker c.clear_runs.result
    (λ step m held i block there.
    let held' = rw (← c.self.view_is) at held in
    rw (← c.self.view_is, ← c.self.invariant.same) (step m held' i block there))
    c.clear_runs.ensures.step

pub returns-clause-step : goal.returns-clause-step
returns-clause-step c m held i block there =
    let held' = rw (← c.self.view_is) at held in
    let before = subst (λ (b : InMemory). Holds (unit_from c.self.inside.first b) m) (sym c.in_ok-after.ensures) held' in
    let size = ap (λ (b : InMemory). b.size) c.in_ok-after.ensures in
    rw (← c.self.view_is, ← c.self.invariant.same, ← size) (c.in_ok-clear_runs.ensures.step m before i block there)
