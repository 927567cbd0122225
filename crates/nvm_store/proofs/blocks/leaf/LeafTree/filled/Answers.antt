use Rattle.std.proofs.Common.{◌≡◌, ◌+◌, ◌-◌, ◌<◌, ◌≤◌, ℕ, [], ◌∷◌, length, ap, ◌∙◌, arith, inl, inr}
use Rattle.std.proofs.lemmas.List.{length-append}
use Rattle.nvm_store.specs.Inside.Source.{source_block}
use Rattle.nvm_store.proofs.Rewrites.{begun_more, get_or_at_place, rewritten_whole}
use Rattle.nvm_store.proofs.blocks.leaf.LeafTree.filled.Goals as goal
use Rattle.nvm_store.proofs.blocks.leaf.LeafTree.filled.Goals.{then-place-at+then-place-at-2+in_ok-next, else-place-at+in_ok-next-2, else-place-at-via-then-place-at+else-place-at-2, else-place-at-via-else-place-at}

pub loop-place-preserved : goal.loop-place-preserved
loop-place-preserved c =
    let place = c.loop-place.place in
    let at = c.args.at in
    let count = c.min-count.result in
    let front = c.loop-place.copies.items in
    let next = c.if-place-at.next in
    let same = c.deref-block-items.ensures.value ∙ c.self.view_is in
    let items = c.in_ok-push.ensures.items in
    record {
      len = ap length items ∙ length-append front (next ∷ []) ∙ ap (λ (k : ℕ). k + 1) c.loop-place.invariant.len;
      begun = rw items
          (begun_more at count place (λ (i : ℕ). source_block c.args.source.now (c.args.from + i)) c.args.self.now front next
          c.loop-place.invariant.len
          (λ i lt here.
          let e : at + i ≡ place = here in
          let less : i < count = lt in
          elim c.if-place-at.branch [
            | then-place-at+then-place-at-2+in_ok-next w ↦
                let is : place - at ≡ i = omega arith in
                w.next-is ∙ w.in_ok-next.ensures ∙ ap (λ (k : ℕ). source_block c.args.source.now (c.args.from + k)) is
            | else-place-at+in_ok-next-2 w ↦
                absurd (elim w.else-place-at.branch [
                  | else-place-at-via-then-place-at+else-place-at-2 w' ↦ let not : count ≤ place - at = w'.if-place-at-2.false in omega arith
                  | else-place-at-via-else-place-at w' ↦ let not : place < at = w'.if-place-at.false in omega arith
                ])
          ])
          (λ block out is.
          elim c.if-place-at.branch [
            | then-place-at+then-place-at-2+in_ok-next w ↦
                let low : at ≤ place = w.if-place-at.true in
                let high : place - at < count = w.if-place-at-2.true in
                absurd (elim out [ inl below ↦ omega arith | inr above ↦ omega arith ])
            | else-place-at+in_ok-next-2 w ↦
                let item = rw same at c.block-item.is in
                w.next-is ∙ w.in_ok-next-2.ensures ∙ item ∙ get_or_at_place c.args.self.now place block c.block-item.result is
          ])
          c.loop-place.invariant.begun);
    }

pub returns : goal.returns
returns c =
    let same = c.deref-block-items.ensures.value ∙ c.self.view_is in
    let len : c.len.result ≡ length c.args.self.now = c.len.ensures ∙ c.self.inside.kept.ok.0 ∙ ap length c.self.view_is in
    let end : c.loop-place.place ≡ length c.deref-block-items.result.now = omega (arith, c.loop-place-test.false, c.loop-place.auto.place-end) in
    record {
      enough = inl c.if-count-least.false;
      few = omega (arith, c.min-count.ensures, c.requires.some);
      is = rewritten_whole c.args.at c.min-count.result (λ (i : ℕ). source_block c.args.source.now (c.args.from + i)) c.args.self.now
          c.loop-place.copies.items (c.loop-place.invariant.len ∙ end ∙ ap length same) (omega (arith, len, c.min-count.ensures, c.requires.range))
          c.loop-place.invariant.begun;
    }
