use Rattle.std.proofs.Common.{◌≡◌, arith}
use Rattle.std.specs.List.{position_or_len}
use Rattle.std.proofs.lemmas.List.{take_rest}
use Rattle.nvm_list.specs.Words.{is_blank}
use Rattle.nvm_list.proofs.Cutting.{cut_inside, cut_at_end, end_is}
use Rattle.nvm_listing.proofs.list_line.cut_at_blank.Goals as goal
use Rattle.nvm_listing.proofs.list_line.cut_at_blank.Goals.{then-loop-place-test+else-not-is_blank, else-loop-place-test}

pub returns-then-place-bytes-clause-pieces : goal.returns-then-place-bytes-clause-pieces
returns-then-place-bytes-clause-pieces c =
    let bytes = c.args.bytes.now in
    let place = c.loop-place.place in
    let here : place ≡ position_or_len is_blank bytes = elim c.loop-place-test.branch [
      | then-loop-place-test+else-not-is_blank w ↦ end_is is_blank bytes place (record {
        within = c.loop-place.invariant.within;
        others = c.loop-place.invariant.others;
        here = λ lt. grind (arith, w.is_blank.ensures, w.if-not-is_blank);
      })
      | else-loop-place-test w ↦ absurd (omega (arith, c.if-place-bytes.true, w.loop-place-test.false))
    ] in
    rw take_rest (cut_inside is_blank bytes place here c.if-place-bytes.true)

pub returns-else-place-bytes-clause-pieces : goal.returns-else-place-bytes-clause-pieces
returns-else-place-bytes-clause-pieces c =
    let bytes = c.args.bytes.now in
    let place = c.loop-place.place in
    cut_at_end is_blank bytes place
    (end_is is_blank bytes place (record {
      within = c.loop-place.invariant.within;
      others = c.loop-place.invariant.others;
      here = λ lt. absurd (omega (arith, lt, c.if-place-bytes.false));
    })) c.if-place-bytes.false
