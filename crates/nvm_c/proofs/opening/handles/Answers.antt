use Rattle.std.proofs.Common.{◌≡◌, ◌∙◌, ◌∷◌, List, Box, Global, ap, sym, subst, length, arith}
use Rattle.std.proofs.lemmas.List.{nil_from_length}
use Rattle.std.specs.List.{AllByRecursion}
use Rattle.nvm_c.specs.Engines.{IsSound}
use Rattle.nvm_c.specs.Opening.{limit_asked, namespace_asked}
use Rattle.nvm_c.specs.declared.engine.Engine.{Engine}
use Rattle.nvm_c.specs.declared.handle.Handle.{Handle}
use Rattle.nvm_c.proofs.Ports.{AreMade, next_made, all_made}
use Rattle.nvm_c.proofs.opening.handles.Goals as goal

pub loop-engine-preserved : goal.loop-engine-preserved
loop-engine-preserved c =
    let inv = c.loop-engine.invariant in
    let step : c.loop-engine.engine-iterator.rest.items ≡ c.in-Some.engine ∷ c.next.new.self.rest.items = c.in-Some.ensures.steps.0 in
    let pushed = c.push_reserved.ensures.items in
    let before = subst (AreMade (namespace_asked c.args.asked.now) (limit_asked c.args.asked.now) c.args.versions c.args.count c.loop-engine.held.items) step inv.made in
    let long = ap length step in
    record {
      made = subst (λ (hs : List Handle). AreMade (namespace_asked c.args.asked.now) (limit_asked c.args.asked.now) c.args.versions c.args.count hs c.next.new.self.rest.items) (sym pushed)
          (next_made (namespace_asked c.args.asked.now) (limit_asked c.args.asked.now) c.args.versions c.args.count c.loop-engine.held.items c.of.result c.in-Some.engine c.next.new.self.rest.items c.of.ensures before);
      rest = (subst (λ (bs : List (Box Engine Global)). AllByRecursion (λ b. IsSound b.value) bs) step inv.rest).1;
      room = omega (arith, inv.room, c.push_reserved.ensures.len, c.push_reserved.ensures.capacity, long);
    }

pub returns-clause-opened : goal.returns-clause-opened
returns-clause-opened c =
    let none = nil_from_length c.loop-engine.engine-iterator.rest.items (sym c.loop-engine.engine-iterator.rest.ok.0 ∙ c.in-None.ensures.steps.0) in
    (all_made (namespace_asked c.args.asked.now) (limit_asked c.args.asked.now) c.args.versions c.args.count c.loop-engine.held.items
    (subst (AreMade (namespace_asked c.args.asked.now) (limit_asked c.args.asked.now) c.args.versions c.args.count c.loop-engine.held.items) none c.loop-engine.invariant.made)).0

pub returns-clause-count : goal.returns-clause-count
returns-clause-count c =
    let none = nil_from_length c.loop-engine.engine-iterator.rest.items (sym c.loop-engine.engine-iterator.rest.ok.0 ∙ c.in-None.ensures.steps.0) in
    (all_made (namespace_asked c.args.asked.now) (limit_asked c.args.asked.now) c.args.versions c.args.count c.loop-engine.held.items
    (subst (AreMade (namespace_asked c.args.asked.now) (limit_asked c.args.asked.now) c.args.versions c.args.count c.loop-engine.held.items) none c.loop-engine.invariant.made)).1
