use Rattle.std.proofs.Common.{◌≡◌, ◌+◌, ◌∷◌, [], length, inl, refl, arith}
use Rattle.std.proofs.lemmas.List.{length-append}
use Rattle.std.proofs.lemmas.Result.{err_from_is_err_and}
use Rattle.nvm_file.specs.Inside.Items.{Reads}
use Rattle.nvm_file.proofs.ItemLoops.{one_more}
use Rattle.nvm_file.proofs.items.items_of.Goals as goal

pub loop-place-init : goal.loop-place-init
unfolding Reads
loop-place-init g c = rw c.in_ok-items.ensures.items (refl, refl)

pub returns-in_err-item : goal.returns-in_err-item
returns-in_err-item g c =
    let p = err_from_is_err_and c.from_residual-in_err-item.result c.from_residual-in_err-item.ensures.1 in
    let l = c.loop-place in
    rw (p.1, p.2) (inl (record {
      items = l.items.items;
      left = l.rest;
      before = l.invariant.0;
      few = omega (arith, l.invariant.1, c.loop-place-test.true);
      fails = rw l.invariant.1 c.in_err-item.ensures;
    }))

pub loop-place-preserved : goal.loop-place-preserved
loop-place-preserved g c =
    let l = c.loop-place in
    let here : 0 + length l.items.items ≡ l.place = omega (arith, l.invariant.1) in
    rw c.in_ok-add.ensures.items (
      one_more _ 0 c.args.from l.items.items l.rest c.in_ok-item.item c.in_ok-item.after l.invariant.0 (rw here c.in_ok-item.ensures),
      omega (arith, length-append l.items.items (c.in_ok-item.item ∷ []), l.invariant.1),
    )
