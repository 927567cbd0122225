use Rattle.std.proofs.Common.{ℕ, List, length, replicate, sym, subst, arith}
use Rattle.nvm_store.specs.Inside.Pages.{AreOwners}
use Rattle.nvm_store.proofs.Numbering.{first_owners}
use Rattle.nvm_store.proofs.blocks.page_numbers.PageNumbers.zeroed.Goals as goal

pub invariant_of-result : goal.invariant_of-result
invariant_of-result c =
    let numbers = c.in_ok-zeroed.field-0 in
    let few = c.in_ok-zeroed.ensures.few in
    rw (c.in_ok-from_elem.ensures.items_if_clones_equal (λ y e. e))
    (subst (λ (l : List ℕ). AreOwners (replicate 1 0) l) (sym c.in_ok-zeroed.ensures.zeroes)
    (first_owners (length numbers) (omega (arith, few, c.requires))))
