use Rattle.std.proofs.Common.{◌≡◌, ℕ, ◌+◌, ◌*◌, ◌/◌, ◌%◌, ◌≤◌, inl, inr, refl, ap, sym, ◌∙◌, subst, arith}
use Rattle.nvm_record.specs.declared.block.Block.{Block}
use Rattle.nvm_record.specs.Lists.{IsAt}
use Rattle.nvm_store.specs.Inside.Gathered.{gathered}
use Rattle.nvm_store.specs.Inside.Rewrite.{zero_block}
use Rattle.nvm_store.specs.Inside.Source.{source_block, AreZeroes, HasSize}
use Rattle.nvm_store.specs.declared.blocks.source.Source.{Source}
use Rattle.nvm_store.specs.declared.blocks.source.Source.TheVariants.{Data, Zeroes, Marks}
use Rattle.nvm_store.proofs.Gathering.{all_there, at_first, at_gathered}
use Rattle.nvm_store.proofs.GatheredStretches.{changed_page}
use Rattle.nvm_store.proofs.Rewrites.{rewritten_as_they_were, rewritten_on}
use Rattle.nvm_store.proofs.blocks.paged_blocks.fill.Goals.{then-page-gt0, else-page-gt0}
use Rattle.nvm_store.proofs.blocks.paged_blocks.fill.Goals as goal

-- the blocks of a source of zeroes
zeroes_of : (source : Source) (own i : ℕ) → AreZeroes source → HasSize source own → source_block source i ≡ zero_block own
zeroes_of (Data size payload) own i zeroes has = absurd zeroes
zeroes_of (Zeroes size) own i zeroes has = ap zero_block has
zeroes_of Marks own i zeroes has = absurd zeroes

pub loop-done-preserved : goal.loop-done-preserved
loop-done-preserved c =
    let numbers = c.args.numbers.now in
    let source = c.args.source.now in
    let l = c.loop-done in
    let here = c.args.at + l.done in
    let most = c.min-most.result in
    let page = c.at-page.result in
    let row = here / 8 in
    let j = here % 8 in
    let place : here ≡ row * 8 + j = omega arith in
    let min = c.min-most.ensures in
    let few : l.done + most ≤ c.args.count = omega (arith, min, l.invariant.few) in
    let within : j + most ≤ 8 = omega (arith, min) in
    let news = λ (i : ℕ). source_block source (l.done + i) in
    let old = gathered 8 c.args.pages.now.list numbers in
    let size = l.invariant.size in
    elim c.if-page-gt0.branch [
      | then-page-gt0 w ↦
          let done = changed_page l.pages w.fill.new.self numbers page here most news l.invariant.sound c.at-page.ensures.is w.if-page-gt0.true within
          w.fill.ensures.size w.fill.ensures.list in
          rw w.pages-is
          (record {
            sound = done.0;
            size = w.fill.ensures.size ∙ size;
            few = few;
            list = rewritten_on c.args.at l.done most here (source_block source) old (gathered 8 l.pages.list numbers) (gathered 8 w.fill.new.self.list numbers)
                l.invariant.list refl done.1;
          })
      | else-page-gt0 w ↦
          let none : page ≡ 0 = omega (arith, w.if-page-gt0.false) in
          let zeroes : AreZeroes source = elim c.requires.own [
            | inl all_zero ↦ all_zero
            | inr own ↦
                let lt = own row page (omega (arith, place)) (omega (arith, place, few, min, c.loop-done-test.true)) c.at-page.ensures.is in
                absurd (omega (arith, none, lt))
          ] in
          let number = subst (λ (n : ℕ). IsAt numbers row n) none c.at-page.ensures.is in
          let all = all_there 8 (zero_block l.pages.size) l.pages.list numbers l.invariant.sound.gathered in
          let same = rewritten_as_they_were here most news (gathered 8 l.pages.list numbers)
          (λ i k lt.
          let there : row * 8 + (j + i) ≡ here + i = omega (arith, place) in
          let zero = zeroes_of source l.pages.size (l.done + k) zeroes (rw (sym size) at c.requires.size) in
          let first = at_first 8 (zero_block l.pages.size) l.pages.list numbers (j + i) l.invariant.sound.gathered (omega (arith, within, lt)) in
          subst (λ (b : Block). IsAt (gathered 8 l.pages.list numbers) (here + i) b) (sym zero)
          (subst (λ (p : ℕ). IsAt (gathered 8 l.pages.list numbers) p (zero_block l.pages.size)) there
          (at_gathered 8 l.pages.list numbers row 0 (j + i) (zero_block l.pages.size) all number (omega (arith, within, lt)) first))) in
          rw w.pages-is
          (record {
            sound = l.invariant.sound;
            size = size;
            few = few;
            list = rewritten_on c.args.at l.done most here (source_block source) old (gathered 8 l.pages.list numbers) (gathered 8 l.pages.list numbers) l.invariant.list refl same;
          })
    ]
