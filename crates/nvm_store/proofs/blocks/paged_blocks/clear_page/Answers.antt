use Rattle.std.proofs.Common.{◌≡◌, ℕ, suc, ◌+◌, ◌-◌, ◌*◌, ◌/◌, List, ◌++◌, length, take, drop, ap, sym, ◌∙◌, subst, arith}
use Rattle.nvm_record.specs.declared.block.Block.{Block}
use Rattle.nvm_record.specs.Lists.{IsAt}
use Rattle.nvm_store.specs.Inside.Gathered.{gathered, named}
use Rattle.nvm_store.specs.Inside.Flat.{SizedBlocks}
use Rattle.nvm_store.specs.Inside.Pages.{ArePages}
use Rattle.nvm_store.specs.Inside.Rewrite.{zero_block}
use Rattle.nvm_store.proofs.Gathering.{all_there, at_first, at_gathered}
use Rattle.nvm_store.proofs.RemovedRows.{IsMoved, cut_rows, moved_rows, removed, removed_is}
use Rattle.nvm_store.proofs.Rewrites.{rewritten_as_they_were}
use Rattle.nvm_store.proofs.blocks.paged_blocks.clear_page.Goals.{then-page-last, else-page-last}
use Rattle.nvm_store.proofs.blocks.paged_blocks.clear_page.Goals as goal

-- the highest number
last_page : (pages : SizedBlocks) (numbers : List ℕ) (n : ℕ) → ArePages pages numbers → n ≡ length pages.list → n / 8 - 1 ≡ named numbers
last_page pages numbers n is len = let count = is.gathered.count in omega (arith, count, len)

pub returns-then-page-eq0-clause-list : goal.returns-then-page-eq0-clause-list
returns-then-page-eq0-clause-list c =
    let pages = c.args.pages.now in
    let numbers = c.args.numbers.now in
    let place = c.args.place in
    let thing = zero_block pages.size in
    let number = subst (λ (n : ℕ). IsAt numbers place n) c.if-page-eq0.true c.at-page.ensures.is in
    let there = all_there 8 thing pages.list numbers c.requires.sound.gathered in
    rewritten_as_they_were (place * 8) 8 (λ _. thing) (gathered 8 pages.list numbers)
    (λ i j lt. at_gathered 8 pages.list numbers place 0 i thing there number lt (at_first 8 thing pages.list numbers i c.requires.sound.gathered lt))

-- the pages that are left
pages_left : (c : goal.After-remove) → IsMoved 8 c.at-page.result (named c.args.numbers.now) c.args.pages.now.list c.truncate.new.self.list
    × (c.truncate.new.self.size ≡ c.args.pages.now.size)
pages_left c =
    let pages = c.args.pages.now in
    let numbers = c.args.numbers.now in
    let page = c.at-page.result in
    let last = c.len.result / 8 - 1 in
    let is_last : last ≡ named numbers = last_page pages numbers c.len.result c.requires.sound c.len.ensures in
    let count : length pages.list ≡ suc last * 8 = c.requires.sound.gathered.count ∙ ap (λ (m : ℕ). suc m * 8) (sym is_last) in
    let new = c.truncate.new.self in (
      subst (λ (m : ℕ). IsMoved 8 page m pages.list new.list) is_last
          (elim c.if-page-last.branch [
            | then-page-last w ↦
                let lt = w.if-page-last.true in
                let put = ap (λ (p : SizedBlocks). p.list) w.pages-is ∙ w.copy_within.ensures.list in
                let cut : new.list ≡ take (last * 8) (take (page * 8) pages.list ++ (take 8 (drop (last * 8) pages.list) ++ drop (page * 8 + 8) pages.list)) =
                c.truncate.ensures.list ∙ ap (λ (l : List Block). take (last * 8) l) put in
                rw cut (moved_rows 8 page last pages.list lt count)
            | else-page-last w ↦
                let le = w.if-page-last.false in
                let cut : new.list ≡ take (last * 8) pages.list =
                c.truncate.ensures.list ∙ ap (λ (l : List Block). take (last * 8) l) (ap (λ (p : SizedBlocks). p.list) w.pages-is) in
                rw cut (cut_rows 8 page last pages.list le count)
          ]),
      c.truncate.ensures.size
          ∙ elim c.if-page-last.branch [
            | then-page-last w ↦ ap (λ (p : SizedBlocks). p.size) w.pages-is ∙ w.copy_within.ensures.size
            | else-page-last w ↦ ap (λ (p : SizedBlocks). p.size) w.pages-is
          ],
    )

pub returns-clause-sound : goal.returns-clause-sound
returns-clause-sound c =
    let left = pages_left c in
    let numbers = c.args.numbers.now in
    let page = c.at-page.result in
    let gone = c.remove.ensures page c.at-page.ensures.is in
    let few = c.requires.sound.few in
    let len = gone.len in
    record {
      gathered =
          rw left.1
          (removed 8 (zero_block c.args.pages.now.size) c.args.pages.now.list c.truncate.new.self.list numbers c.remove.new.self c.args.place page
          c.requires.sound.gathered c.at-page.ensures.is (omega (arith, c.if-page-eq0.false)) gone left.0);
      few = omega (arith, few, len);
      small = rw left.1 c.requires.sound.small;
    }

pub returns-clause-list : goal.returns-clause-list
returns-clause-list c =
    let left = pages_left c in
    let numbers = c.args.numbers.now in
    let page = c.at-page.result in
    removed_is 8 (zero_block c.args.pages.now.size) c.args.pages.now.list c.truncate.new.self.list numbers c.remove.new.self c.args.place page
    c.requires.sound.gathered c.at-page.ensures.is (omega (arith, c.if-page-eq0.false)) (c.remove.ensures page c.at-page.ensures.is) left.0
