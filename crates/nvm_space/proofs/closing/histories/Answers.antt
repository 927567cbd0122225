use Rattle.std.proofs.Common.{◌≡◌, ◌+◌, ◌∙◌, ap, sym, subst, List, [], ◌∷◌, ◌++◌, length, length-append, arith}
use Rattle.nvm_unit.specs.Passes.{UnitName}
use Rattle.nvm_record.specs.Lists.{IsAt}
use Rattle.nvm_space.proofs.Columns.{AreLeft, ending_begun, passes_left, all_passes, unit_ends, fewer_left, ending_more, all_ended}
use Rattle.nvm_space.proofs.Lists.{at_last}
use Rattle.nvm_space.proofs.closing.histories.Goals as goal

pub loop-unit-init : goal.loop-unit-init
loop-unit-init g c = ending_begun g.K.Kept.told c.args.units.items c.args.ports.items c.in_ok-ended.ended.items c.requires c.in_ok-ended.ensures.items

pub gathered-requires : goal.gathered-requires
gathered-requires g c =
    let items : c.loop-unit.units.items ≡ c.pop.new.self.items ++ c.in-Some.unit ∷ [] = c.in-Some.ensures.items in
    let count : length c.loop-unit.units.items ≡ length c.pop.new.self.items + 1 = ap length items ∙ length-append c.pop.new.self.items (c.in-Some.unit ∷ []) in
    passes_left (length c.loop-unit.units.items) c.args.ports.items c.loop-unit.ports.items c.loop-unit.invariant.passes (omega arith)

pub close-requires : goal.close-requires
close-requires g c =
    let left = c.pop.new.self.items in
    let items : c.loop-unit.units.items ≡ left ++ c.in-Some.unit ∷ [] = c.in-Some.ensures.items in
    let count : length c.loop-unit.units.items ≡ length left + 1 = ap length items ∙ length-append left (c.in-Some.unit ∷ []) in
    let at = c.loop-unit.invariant.those (length left) c.in-Some.unit (subst (λ (us : List UnitName). IsAt us (length left) c.in-Some.unit) (sym items) (at_last left c.in-Some.unit)) in
    all_passes c.args.units.items c.args.ports.items c.loop-unit.ports.items c.gathered.new.ports.items left c.in-Some.unit c.in_ok-passes.passes.items c.requires at
    (subst (λ (n : _). AreLeft n c.args.ports.items c.loop-unit.ports.items) count c.loop-unit.invariant.passes) c.in_ok-passes.ensures

pub loop-unit-preserved : goal.loop-unit-preserved
loop-unit-preserved g c =
    let left = c.pop.new.self.items in
    let items : c.loop-unit.units.items ≡ left ++ c.in-Some.unit ∷ [] = c.in-Some.ensures.items in
    let count : length c.loop-unit.units.items ≡ length left + 1 = ap length items ∙ length-append left (c.in-Some.unit ∷ []) in
    let at = c.loop-unit.invariant.those (length left) c.in-Some.unit (subst (λ (us : List UnitName). IsAt us (length left) c.in-Some.unit) (sym items) (at_last left c.in-Some.unit)) in
    let theirs = subst (λ (n : _). AreLeft n c.args.ports.items c.loop-unit.ports.items) count c.loop-unit.invariant.passes in
    ending_more g.K.Kept.told c.args.units.items c.args.ports.items c.loop-unit.units.items left c.loop-unit.ports.items c.gathered.new.ports.items c.loop-unit.ended.items c.in-Some.unit c.close.result c.push.new.self.items
    c.loop-unit.invariant items
    (fewer_left c.args.units.items c.args.ports.items c.loop-unit.ports.items c.gathered.new.ports.items left c.in-Some.unit c.in_ok-passes.passes.items c.requires at theirs c.in_ok-passes.ensures)
    (unit_ends c.args.units.items c.args.ports.items c.loop-unit.ports.items c.gathered.new.ports.items left c.in-Some.unit c.in_ok-passes.passes.items c.requires at theirs c.in_ok-passes.ensures (g.K.Kept.told c.close.result) c.close.ensures.whole c.close.ensures.events)
    c.in_ok-push.ensures.items

pub returns-clause-each : goal.returns-clause-each
returns-clause-each g c =
    let none : length c.loop-unit.units.items ≡ 0 = omega (arith, c.loop-unit.units.ok.0, c.in_default.ensures.cases.0) in
    all_ended g.K.Kept.told c.args.units.items c.args.ports.items c.loop-unit.units.items c.loop-unit.ports.items c.loop-unit.ended.items c.reverse.new.self.items
    c.loop-unit.invariant none c.reverse.ensures.items
