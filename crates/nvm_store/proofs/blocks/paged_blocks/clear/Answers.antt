use Rattle.std.proofs.Common.{◌≡◌, ℕ, ◌+◌, ◌*◌, ◌/◌, ◌≤◌, refl, sym, ◌∙◌, subst, arith}
use Rattle.nvm_store.specs.Inside.Gathered.{gathered}
use Rattle.nvm_store.specs.Inside.Rewrite.{IsRewritten, zero_block}
use Rattle.nvm_store.proofs.Rewrites.{rewritten_on}
use Rattle.nvm_store.proofs.blocks.paged_blocks.clear.Goals.{then-most-eq-PAGE, else-most-eq-PAGE}
use Rattle.nvm_store.proofs.blocks.paged_blocks.clear.Goals as goal

pub clear_page-requires-clause-place : goal.clear_page-requires-clause-place
clear_page-requires-clause-place c =
    let len = c.loop-done.invariant.len in
    omega (arith, len, c.requires.range, c.loop-done-test.true)

pub fill-requires-clause-range : goal.fill-requires-clause-range
fill-requires-clause-range c =
    let len = c.loop-done.invariant.len in
    omega (arith, len, c.requires.range, c.loop-done-test.true, c.min-most.ensures)

pub fill-requires-clause-size : goal.fill-requires-clause-size
fill-requires-clause-size c = c.size-size.ensures ∙ sym c.loop-done.invariant.size

pub loop-done-preserved : goal.loop-done-preserved
loop-done-preserved c =
    let l = c.loop-done in
    let at = c.args.at in
    let here = at + l.done in
    let most = c.min-most.result in
    let min = c.min-most.ensures in
    let few : l.done + most ≤ c.args.count = omega (arith, min, l.invariant.few) in
    let size = l.invariant.size in
    let thing = zero_block c.args.pages.now.size in
    let old = gathered 8 c.args.pages.now.list c.args.numbers.now in
    let mid = gathered 8 l.pages.list l.numbers in
    elim c.if-most-eq-PAGE.branch [
      | then-most-eq-PAGE w ↦
          let whole = w.if-most-eq-PAGE.true in
          let place : here / 8 * 8 ≡ here = omega (arith, whole, min) in
          let new = gathered 8 w.clear_page.new.pages.list w.clear_page.new.numbers in
          let put : IsRewritten here most (λ _. thing) mid new =
          rw (whole, ← size) (subst (λ (p : ℕ). IsRewritten p 8 (λ _. zero_block l.pages.size) mid new) place w.clear_page.ensures.list) in
          rw (w.pages-is, w.numbers-is)
          (record {
            sound = w.clear_page.ensures.sound;
            size = w.clear_page.ensures.size ∙ size;
            len = w.clear_page.ensures.len ∙ l.invariant.len;
            few = few;
            list = rewritten_on at l.done most here (λ _. thing) old mid new l.invariant.list refl put;
          })
      | else-most-eq-PAGE w ↦
          let new = gathered 8 w.fill.new.pages.list l.numbers in
          let put : IsRewritten here most (λ _. thing) mid new =
          subst (λ (s : ℕ). IsRewritten here most (λ _. zero_block s) mid new) c.size-size.ensures w.fill.ensures.list in
          rw (w.pages-is, w.numbers-is)
          (record {
            sound = w.fill.ensures.sound;
            size = w.fill.ensures.size ∙ size;
            len = l.invariant.len;
            few = few;
            list = rewritten_on at l.done most here (λ _. thing) old mid new l.invariant.list refl put;
          })
    ]

pub returns-clause-list : goal.returns-clause-list
returns-clause-list c =
    let l = c.loop-done in
    let done : l.done ≡ c.args.count = omega (arith, l.invariant.few, c.loop-done-test.false) in
    let old = gathered 8 c.args.pages.now.list c.args.numbers.now in
    let new = gathered 8 l.pages.list l.numbers in
    subst (λ (n : ℕ). IsRewritten c.args.at n (λ _. zero_block c.args.pages.now.size) old new) done l.invariant.list
