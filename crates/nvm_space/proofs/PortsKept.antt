-- One port of a space that becomes another of its number.
use Rattle.std.proofs.Common.{◌≡◌, ℕ, ◌<◌, List, length, set, get_or, sym, ◌∙◌, subst, inl, inr}
use Rattle.std.proofs.lemmas.List.{length-set}
use Rattle.nvm_record.specs.Lists.{IsAt}
use Rattle.nvm_space.specs.Ports.{PortState, IsPortOf, AreAllPortsOf}
use Rattle.nvm_space.specs.Spaces.{SpaceName}
use Rattle.nvm_space.proofs.Lists.{at_index, at_set}

module _ (s : SpaceName) (ports : List PortState) (w : ℕ) (port : PortState)
    (all : AreAllPortsOf s ports) (within : w < length ports) (is : port ≡ get_or ports w port) where
  pub port_there : IsAt ports w port
  port_there = at_index ports w port within is

  pub of_space : IsPortOf s port
  of_space = (all.each w port port_there).0

  pub still_all_ports : (after : PortState) → IsPortOf s after → after.number ≡ port.number → AreAllPortsOf s (set ports w after)
  still_all_ports after of number = record {
    count = length-set ports w after ∙ all.count;
    each = λ v other at.
        elim (at_set ports w v after other at) [
          | inl same ↦
              subst (λ (p : PortState). IsPortOf s p × (p.number ≡ v)) (sym same.1)
              (of, number ∙ ((all.each w port port_there).1 ∙ sym same.0))
          | inr apart ↦ all.each v other apart.1
        ];
  }
