-- A new space's ports, one by one, and the handles that are made of them.
use Rattle.std.proofs.Common.{◌≡◌, ◌∙◌, ℕ, zero, suc, ◌<◌, ◌≤◌, Bool, List, [], ◌∷◌, ◌++◌, length, map, Option, Some, Box, Global, refl, sym, ap, subst, arith}
use Rattle.std.specs.List.{AllByRecursion}
use Rattle.std.proofs.lemmas.List.{append-nil, length-map, map-append}
use Rattle.std.proofs.lemmas.List.FromFn.{length-map-range_with_len}
use mathlib.Core.Option.{some-ne-none}
use Rattle.nvm_record.specs.Lists.{IsAt}
use Rattle.nvm_geometry.specs.Namespace.{Namespace}
use Rattle.nvm_space.specs.Ports.{PortState, IsPortOf, AreAllPortsOf, new_port, new_ports}
use Rattle.nvm_space.specs.Spaces.{SpaceName}
use Rattle.nvm_c.specs.Engines.{state_of}
use Rattle.nvm_c.specs.Opening.{NewPorts, IsOpened, engines_of, new_engine}
use Rattle.nvm_c.specs.declared.engine.Engine.{Engine}
use Rattle.nvm_c.specs.declared.handle.Handle.{Handle}

-- The port is of the space, and one of 64.
pub record IsPort64 (s : SpaceName) (port : PortState) : Type 0 where
  pub of : IsPortOf s port
  pub few : port.number < 64

below : {A : Type 0} (xs : List A) (i : ℕ) (x : A) → IsAt xs i x → i < length xs
below [] i x e = absurd (some-ne-none x (sym e))
below (y ∷ ys) zero x e = omega arith
below (y ∷ ys) (suc i) x e = let h = below ys i x e in omega arith

-- what holds at each place holds of all
of_each : {A : Type 0} (P : A → Type 0) (xs : List A) → ((i : ℕ) (x : A) → IsAt xs i x → P x) → AllByRecursion P xs
of_each P [] each = tt
of_each P (x ∷ xs) each = (each 0 x refl, of_each P xs (λ i y at. each (suc i) y at))

pub all_ports : (s : SpaceName) (ports : List PortState) → s.ports ≤ 64 → AreAllPortsOf s ports → AllByRecursion (IsPort64 s) ports
all_ports s ports few all = of_each (IsPort64 s) ports (λ w port at.
    let its = all.each w port at in let here = below ports w port at in let count : length ports ≡ s.ports = all.count in
    let number : port.number ≡ w = its.1 in
    record { of = its.0; few = omega arith })

-- one more stands behind the rest
pub all_with : {A : Type 0} (P : A → Type 0) (xs : List A) (x : A) → AllByRecursion P xs → P x → AllByRecursion P (xs ++ x ∷ [])
all_with P [] x all one = (one, tt)
all_with P (y ∷ ys) x all one = (all.0, all_with P ys x all.1 one)

pub map_with : {A B : Type 0} (f : A → B) (xs : List A) (x : A) (rest : List B) → map f (xs ++ x ∷ []) ++ rest ≡ map f xs ++ f x ∷ rest
map_with f [] x rest = refl
map_with f (y ∷ ys) x rest = ap (λ zs. f y ∷ zs) (map_with f ys x rest)

-- These handles hold engines that make, with the boxed ones that are left, those of a new namespace.
pub record AreMade (ns : Namespace) (limit : Option ℕ) (versions : Bool) (count : ℕ) (held : List Handle) (rest : List (Box Engine Global)) : Type 0 where
  pub engines : List Engine
  pub hold : engines_of held ≡ map (λ e. Some e) engines
  pub new : NewPorts ns limit versions count (map state_of engines ++ map (λ b. state_of b.value) rest)

module _ (ns : Namespace) (limit : Option ℕ) (versions : Bool) (count : ℕ) where
  -- One more engine is held.
  pub next_made : (held : List Handle) (h : Handle) (b : Box Engine Global) (rest : List (Box Engine Global)) → h.held.engine ≡ Some b.value
      → AreMade ns limit versions count held (b ∷ rest) → AreMade ns limit versions count (held ++ h ∷ []) rest
  next_made held h b rest is made = record {
    engines = made.engines ++ b.value ∷ [];
    hold = map-append (λ h'. h'.held.engine) held (h ∷ []) ∙ ap (λ (xs : List (Option Engine)). xs ++ h.held.engine ∷ []) made.hold
        ∙ ap (λ (x : Option Engine). map (λ e. Some e) made.engines ++ x ∷ []) is ∙ sym (map-append (λ e. Some e) made.engines (b.value ∷ []));
    new = subst (NewPorts ns limit versions count) (sym (map_with state_of made.engines b.value (map (λ b'. state_of b'.value) rest))) made.new;
  }

  -- Where none is left, all are held.
  pub all_made : (held : List Handle) → AreMade ns limit versions count held [] → IsOpened ns limit versions (engines_of held) × (length held ≡ count)
  all_made held made =
      let news = made.new in
      let bare : map state_of made.engines ++ [] ≡ map state_of made.engines = append-nil (map state_of made.engines) in
      let new = subst (NewPorts ns limit versions count) bare news in
      let many : length (engines_of held) ≡ count =
      ap length made.hold ∙ length-map made.engines (λ e. Some e) ∙ sym (length-map made.engines state_of) ∙ ap length new.all
      ∙ length-map (new_ports new.space) (new_engine new.space) ∙ length-map-range_with_len (new_port new.space.units) 0 new.space.ports ∙ new.ports in (
        record { engines = made.engines; hold = made.hold; new = subst (λ (n : ℕ). NewPorts ns limit versions n (map state_of made.engines)) (sym many) new },
        sym (length-map held (λ h. h.held.engine)) ∙ many,
      )

  -- Before the first, none is held.
  pub none_made : (bs : List (Box Engine Global)) → NewPorts ns limit versions count (map (λ b. state_of b.value) bs) → AreMade ns limit versions count [] bs
  none_made bs new = record { engines = []; hold = refl; new = new }
