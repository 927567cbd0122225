use Rattle.std.proofs.Common.{◌≡◌, ℕ, ◌-◌, inr, ◌∙◌, subst, arith}
use Rattle.std.proofs.Math.ListN.{set}
use Rattle.nvm_store.specs.Inside.Gathered.{named}
use Rattle.nvm_store.specs.Inside.Pages.{IsRemoved}
use Rattle.nvm_store.proofs.Numbering.{is_removed, last_at, last_is, one_at, owners_left, owns, some_named}
use Rattle.nvm_store.proofs.Rewrites.{at_below}
use Rattle.nvm_store.proofs.blocks.page_numbers.PageNumbers.remove.Goals as goal

pub set-requires-clause-place : goal.set-requires-clause-place
set-requires-clause-place c =
    let numbers = c.self.inside.numbers in
    let owners = c.self.inside.owners.items in
    let number = c.at-number.result in
    let owner = c.index-owner.result.now in
    let some = (rw (← c.self.view_is) at c.requires.some) number c.at-number.ensures.is in
    let is = last_is owners numbers c.args.place number c.len-last.result owner c.self.invariant c.at-number.ensures.is some
    (c.len-last.ensures ∙ c.self.inside.owners.ok.0) c.index-owner.ensures in
    at_below numbers owner (named numbers) (last_at owners numbers c.args.place number owner is)

pub set-requires-clause-own : goal.set-requires-clause-own
set-requires-clause-own c =
    let numbers = c.self.inside.numbers in
    let owners = c.self.inside.owners.items in
    let number = c.at-number.result in
    let owner = c.index-owner.result.now in
    let some = (rw (← c.self.view_is) at c.requires.some) number c.at-number.ensures.is in
    let is = last_is owners numbers c.args.place number c.len-last.result owner c.self.invariant c.at-number.ensures.is some
    (c.len-last.ensures ∙ c.self.inside.owners.ok.0) c.index-owner.ensures in
    inr
    (λ n at.
    let same = one_at numbers owner n (named numbers) at (last_at owners numbers c.args.place number owner is) in
    let more = some_named owners numbers c.args.place number owner is in
    omega (arith, same, more))

pub index_mut-requires : goal.index_mut-requires
index_mut-requires c =
    let numbers = c.self.inside.numbers in
    let owners = c.self.inside.owners.items in
    let number = c.at-number.result in
    let owner = c.index-owner.result.now in
    let some = (rw (← c.self.view_is) at c.requires.some) number c.at-number.ensures.is in
    let is = last_is owners numbers c.args.place number c.len-last.result owner c.self.invariant c.at-number.ensures.is some
    (c.len-last.ensures ∙ c.self.inside.owners.ok.0) c.index-owner.ensures in
    let lt = at_below owners number c.args.place (owns owners numbers c.args.place number owner is) in
    rw c.self.inside.owners.ok.0 lt

pub invariant_of-self : goal.invariant_of-self
invariant_of-self c =
    let numbers = c.self.inside.numbers in
    let owners = c.self.inside.owners.items in
    let number = c.at-number.result in
    let owner = c.index-owner.result.now in
    let some = (rw (← c.self.view_is) at c.requires.some) number c.at-number.ensures.is in
    let is = last_is owners numbers c.args.place number c.len-last.result owner c.self.invariant c.at-number.ensures.is some
    (c.len-last.ensures ∙ c.self.inside.owners.ok.0) c.index-owner.ensures in
    let count = c.self.invariant.count in
    let len = c.len-last.ensures ∙ c.self.inside.owners.ok.0 in
    let last : c.len-last.result - 1 ≡ named numbers = omega (arith, count, len) in
    rw (c.truncate.ensures.items, last, c.set-2.ensures, c.set.ensures) (owners_left owners numbers c.args.place number owner is)

pub returns : goal.returns
returns c n at =
    let numbers = c.self.inside.numbers in
    let owners = c.self.inside.owners.items in
    let number = c.at-number.result in
    let owner = c.index-owner.result.now in
    let some = (rw (← c.self.view_is) at c.requires.some) number c.at-number.ensures.is in
    let is = last_is owners numbers c.args.place number c.len-last.result owner c.self.invariant c.at-number.ensures.is some
    (c.len-last.ensures ∙ c.self.inside.owners.ok.0) c.index-owner.ensures in
    let same = one_at numbers c.args.place number n c.at-number.ensures.is (rw (← c.self.view_is) at at) in
    let new = set (set numbers owner number) c.args.place 0 in
    rw (← c.self.view_is, c.set-2.ensures, c.set.ensures)
    (subst (λ (m : ℕ). IsRemoved c.args.place m numbers new) same (is_removed owners numbers c.args.place number owner is))
