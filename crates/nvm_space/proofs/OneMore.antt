-- Ports that get one pass more, or give one, in turn.
use Rattle.std.proofs.Common.{◌≡◌, ℕ, ◌+◌, ◌≤◌, List, [], ◌∷◌, ◌++◌, length, set, refl, sym, ap, ◌∙◌, subst, arith, inl, inr}
use Rattle.std.proofs.lemmas.List.{length-set}
use Rattle.nvm_record.specs.Lists.{IsAt}
use Rattle.nvm_unit.specs.Passes.{PassState}
use Rattle.nvm_space.specs.Inside.Dealing.{with_one_more, HaveOneMoreBelow, HaveOneMore}
use Rattle.nvm_space.specs.Ports.{PortState}
use Rattle.nvm_space.proofs.Lists.{at_one, at_below, at_set, at_more}

pub none_more : (passes : List PassState) (ports : List PortState) → HaveOneMoreBelow 0 passes ports ports
none_more passes ports = record {
  count = refl;
  each = λ w port pass with_it lt at there here. absurd (omega arith);
  others = λ w port with_it le at here. at_one ports w with_it port here at;
}

-- The next port gets its pass.
pub next_gets : (n : ℕ) (passes : List PassState) (fewer now : List PortState) (pass : PassState) (old new : PortState)
    → HaveOneMoreBelow n passes fewer now → IsAt passes n pass → IsAt now n old → new ≡ with_one_more old pass
    → HaveOneMoreBelow (n + 1) passes fewer (set now n new)
next_gets n passes fewer now pass old new below here at is = record {
  count = length-set now n new ∙ below.count;
  each = λ w port p with_it lt in_fewer in_passes in_now.
      elim (at_set now n w new with_it in_now) [
        | inl same ↦
            let same_port : old ≡ port = below.others n port old (omega arith) (subst (λ (i : ℕ). IsAt fewer i port) same.0 in_fewer) at in
            let same_pass : pass ≡ p = at_one passes n pass p here (subst (λ (i : ℕ). IsAt passes i p) same.0 in_passes) in
            same.1 ∙ is ∙ ap (λ (x : PortState). with_one_more x pass) same_port ∙ ap (λ (x : PassState). with_one_more port x) same_pass
        | inr other ↦ let apart = other.0 in below.each w port p with_it (omega arith) in_fewer in_passes other.1
      ];
  others = λ w port with_it le in_fewer in_now.
      elim (at_set now n w new with_it in_now) [
        | inl same ↦ absurd (let e = same.0 in omega arith)
        | inr other ↦ below.others w port with_it (omega arith) in_fewer other.1
      ];
}

-- The next port gives its pass.
pub next_gives : (n : ℕ) (passes : List PassState) (now more : List PortState) (pass : PassState) (old new : PortState)
    → HaveOneMoreBelow n passes now more → length passes ≡ n → IsAt now n old → old ≡ with_one_more new pass
    → HaveOneMoreBelow (n + 1) (passes ++ pass ∷ []) (set now n new) more
next_gives n passes now more pass old new below count at is = record {
  count = below.count ∙ sym (length-set now n new);
  each = λ w port p with_it lt in_now in_passes in_more.
      elim (at_set now n w new port in_now) [
        | inl same ↦
            let last : p ≡ pass = elim (at_more passes pass w p in_passes) [
              | inl before ↦ absurd (let b = at_below passes w p before in let e = same.0 in omega arith)
              | inr end ↦ end.1
            ] in
            below.others n old with_it (omega arith) at (subst (λ (i : ℕ). IsAt more i with_it) same.0 in_more)
            ∙ is ∙ ap (λ (x : PortState). with_one_more x pass) (sym same.1) ∙ ap (λ (x : PassState). with_one_more port x) (sym last)
        | inr other ↦
            let apart = other.0 in
            elim (at_more passes pass w p in_passes) [
              | inl before ↦ below.each w port p with_it (let b = at_below passes w p before in omega arith) other.1 before in_more
              | inr end ↦ absurd (let e = end.0 in apart (e ∙ count))
            ]
      ];
  others = λ w port with_it le in_now in_more.
      elim (at_set now n w new port in_now) [
        | inl same ↦ absurd (let e = same.0 in omega arith)
        | inr other ↦ below.others w port with_it (omega arith) other.1 in_more
      ];
}

-- In the end each has it.
pub all_more : (n : ℕ) (passes : List PassState) (fewer more : List PortState) → HaveOneMoreBelow n passes fewer more
    → length passes ≡ length fewer → length fewer ≤ n → HaveOneMore passes fewer more
all_more n passes fewer more below count all = record {
  passes_count = count;
  count = below.count;
  each = λ w port pass with_it in_fewer in_passes in_more.
      below.each w port pass with_it (let b = at_below fewer w port in_fewer in omega arith) in_fewer in_passes in_more;
}
