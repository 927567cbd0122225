use Rattle.std.proofs.Common.{◌≡◌, ℕ, suc, ◌+◌, ◌≤◌, List, ◌++◌, length, replicate, inl, inr, refl, ap, ◌∙◌, subst, arith}
use Rattle.std.proofs.Math.ListN.{set}
use Rattle.std.proofs.lemmas.List.{length-set}
use Rattle.nvm_record.specs.Lists.{IsAt}
use Rattle.nvm_store.specs.Inside.Gathered.{gathered, named}
use Rattle.nvm_store.specs.Inside.Flat.{SizedBlocks}
use Rattle.nvm_store.specs.Inside.Pages.{ArePages}
use Rattle.nvm_store.specs.Inside.Rewrite.{zero_block}
use Rattle.nvm_store.proofs.Gathering.{at_set_back, grown, grown_same, named_le}
use Rattle.nvm_store.proofs.FlatBytes.{mul_le}
use Rattle.nvm_store.proofs.blocks.paged_blocks.make_page.Goals as goal

-- A page more, for a place that had none.
more_pages : (pages others : SizedBlocks) (numbers after : List ℕ) (place : ℕ) → ArePages pages numbers → IsAt numbers place 0
    → others.size ≡ pages.size → others.list ≡ pages.list ++ replicate 8 (zero_block pages.size) → after ≡ set numbers place (suc (named numbers))
    → ArePages others after × (gathered 8 others.list after ≡ gathered 8 pages.list numbers)
more_pages pages others numbers after place is at size list put = (
  record {
    gathered = rw (size, list, put) (grown 8 (zero_block pages.size) pages.list numbers place is.gathered at);
    few = let len = ap length put ∙ length-set numbers place (suc (named numbers)) in let few = is.few in omega (arith, len, few);
    small = rw size is.small;
  },
  rw (list, put) (grown_same 8 (zero_block pages.size) pages.list numbers place is.gathered at),
)

pub extend-requires : goal.extend-requires
extend-requires c =
    let numbers = c.args.numbers.now in
    let pages = c.args.pages.now in
    let few = c.requires.sound.few in
    let le = named_le numbers in
    let count = c.requires.sound.gathered.count in
    let small = c.requires.sound.small in
    let fits : length pages.list + 8 ≤ 34359738376 = omega (arith, few, le, count) in
    let far = mul_le (length pages.list + 8) 34359738376 pages.size fits in
    omega (arith, far, small)

pub returns-clause-sound : goal.returns-clause-sound
returns-clause-sound c =
    let numbers = c.args.numbers.now in
    let none : c.at.result ≡ 0 = omega (arith, c.if-at-gt0.false) in
    let at = subst (λ (n : ℕ). IsAt numbers c.args.place n) none c.at.ensures.is in
    (more_pages c.args.pages.now c.extend.new.self numbers c.add.new.self c.args.place c.requires.sound at
    c.extend.ensures.size c.in_ok-extend.ensures.ok c.in_default.ensures.ok).0

pub returns-clause-same : goal.returns-clause-same
returns-clause-same c =
    let numbers = c.args.numbers.now in
    let none : c.at.result ≡ 0 = omega (arith, c.if-at-gt0.false) in
    let at = subst (λ (n : ℕ). IsAt numbers c.args.place n) none c.at.ensures.is in
    (more_pages c.args.pages.now c.extend.new.self numbers c.add.new.self c.args.place c.requires.sound at
    c.extend.ensures.size c.in_ok-extend.ensures.ok c.in_default.ensures.ok).1

pub returns-clause-own : goal.returns-clause-own
returns-clause-own c n at =
    let numbers = c.args.numbers.now in
    elim (at_set_back numbers c.args.place c.args.place (suc (named numbers)) n (rw c.in_default.ensures.ok at at)) [
      | inl here ↦ let e = here.1 in omega (arith, e)
      | inr other ↦ absurd (other.0 refl)
    ]

pub returns-clause-others : goal.returns-clause-others
returns-clause-others c i n at zero_n =
    let numbers = c.args.numbers.now in
    elim (at_set_back numbers c.args.place i (suc (named numbers)) n (rw c.in_default.ensures.ok at at)) [
      | inl here ↦ let e = here.1 in absurd (omega (arith, e, zero_n))
      | inr other ↦ other.1
    ]

pub returns-clause-elsewhere : goal.returns-clause-elsewhere
returns-clause-elsewhere c i n at =
    let numbers = c.args.numbers.now in
    elim (at_set_back numbers c.args.place i (suc (named numbers)) n (rw c.in_default.ensures.ok at at)) [
      | inl here ↦ inl here.0
      | inr other ↦ inr other.1
    ]
