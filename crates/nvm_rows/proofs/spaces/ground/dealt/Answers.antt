use Rattle.std.proofs.Common.{◌≡◌, ◌+◌, List, [], ◌∷◌, ◌++◌, length, length-append, sym, ap, ◌∙◌, subst, arith}
use Rattle.nvm_record.specs.Lists.{IsAt}
use Rattle.nvm_space.specs.Ports.{PortState, IsPortOf, AreAllPortsOf}
use Rattle.nvm_space.specs.Spaces.{SpaceName}
use Rattle.nvm_space.proofs.Lists.{at_last, at_longer}
use Rattle.nvm_rows.proofs.spaces.ground.dealt.Goals as goal

-- What is popped from both ports of a space, the last first.
module _ (space : SpaceName) (ports middle rest : List PortState) (first second : PortState) (count : space.ports ≡ 2) (all : AreAllPortsOf space ports)
    (last : ports ≡ middle ++ second ∷ []) (before : middle ≡ rest ++ first ∷ []) where
  in_middle : IsAt middle (length rest) first
  in_middle = subst (λ (xs : List PortState). IsAt xs (length rest) first) (sym before) (at_last rest first)

  there : IsAt ports (length rest) first
  there = subst (λ (xs : List PortState). IsAt xs (length rest) first) (sym last) (at_longer middle (second ∷ []) (length rest) first in_middle)

  next : IsAt ports (length middle) second
  next = subst (λ (xs : List PortState). IsAt xs (length middle) second) (sym last) (at_last middle second)

  middle_length : length middle ≡ length rest + 1
  middle_length = ap length before ∙ length-append rest (first ∷ [])

  ports_length : length ports ≡ length middle + 1
  ports_length = ap length last ∙ length-append middle (second ∷ [])

  of_space : IsPortOf space first × IsPortOf space second
  of_space = ((all.each _ _ there).0, (all.each _ _ next).0)

  numbers : (first.number ≡ 0) × (second.number ≡ 1)
  numbers =
      let one = (all.each _ _ there).1 in
      let other = (all.each _ _ next).1 in
      (omega (arith, one, middle_length, ports_length, count, all.count), omega (arith, other, middle_length, ports_length, count, all.count))

pub returns-clause-of : goal.returns-clause-of
returns-clause-of c =
    of_space c.args.space _ _ _ c.in-Some-pop.first c.in-Some.second c.requires.count c.requires.all c.in-Some.ensures.items c.in-Some-pop.ensures.items

pub returns-clause-numbers : goal.returns-clause-numbers
returns-clause-numbers c =
    numbers c.args.space _ _ _ c.in-Some-pop.first c.in-Some.second c.requires.count c.requires.all c.in-Some.ensures.items c.in-Some-pop.ensures.items
