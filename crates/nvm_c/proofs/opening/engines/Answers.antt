use Rattle.std.proofs.Common.{◌≡◌, ◌∙◌, ◌≤◌, ◌++◌, List, Box, Global, ap, sym, subst, length, map, arith}
use Rattle.std.specs.Arc.{arc_value}
use Rattle.std.specs.List.{AllByRecursion}
use Rattle.nvm_space.specs.Ports.{PortState, new_ports}
use Rattle.nvm_space.specs.Spaces.{SpaceName}
use Rattle.nvm_c.specs.Engines.{IsSound, state_of}
use Rattle.nvm_c.specs.Opening.{new_engine}
use Rattle.nvm_c.specs.declared.engine.Engine.{Engine}
use Rattle.nvm_c.proofs.Ports.{IsPort64, all_ports}
use Rattle.nvm_c.proofs.opening.engines.Goals as goal

pub loop-port-init : goal.loop-port-init
loop-port-init c =
    let s = arc_value c.in_ok-space.space in
    let same : s ≡ c.in-Ok.space = c.in_ok-space.ensures.ok in
    let none = c.in_ok-engines.ensures.items in
    let rest = c.into_iter-port-iterator.result.rest.items in
    let all : rest ≡ c.in-Ok.ports.items = c.into_iter-port-iterator.ensures.into_iter_gives.0 in
    let new : rest ≡ new_ports s = all ∙ c.in-Ok.ensures.ports ∙ ap new_ports (sym same) in
    let few : c.in-Ok.space.ports ≤ 64 = omega (arith, c.in-Ok.ensures.count, c.requires.1) in
    let long : length rest ≡ length c.in-Ok.ports.items = ap length all in
    record {
      made = ap (λ (bs : List (Box Engine Global)). map (λ b. state_of b.value) bs ++ map (new_engine s) rest) none ∙ ap (map (new_engine s)) new;
      sound = subst (λ (bs : List (Box Engine Global)). AllByRecursion (λ b. IsSound b.value) bs) (sym none) tt;
      rest = subst (λ (t : SpaceName). AllByRecursion (IsPort64 t) rest) (sym same)
          (subst (λ (ps : List PortState). AllByRecursion (IsPort64 c.in-Ok.space) ps) (sym all) (all_ports c.in-Ok.space c.in-Ok.ports.items few c.in-Ok.ensures.all));
      room = omega (arith, c.in_ok-engines.ensures.len, c.in_ok-engines.ensures.exact, c.len.ensures, c.in-Ok.ports.ok.0, long);
    }
