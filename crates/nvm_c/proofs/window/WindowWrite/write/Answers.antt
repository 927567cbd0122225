use Rattle.std.proofs.Common.{◌∙◌, ◌++◌, ap, arith}
use Rattle.std.proofs.lemmas.List.{length-append}
use Rattle.nvm_c.proofs.Pieces.{piece_more}
use Rattle.nvm_c.proofs.window.WindowWrite.write.Goals as goal

pub invariant_of-self-2 : goal.invariant_of-self-2
invariant_of-self-2 c =
    let w = c.args.self.now in
    record {
      kept = c.in_ok-extend_from_slice.ensures.items ∙ ap (λ p. p ++ c.within-seen.result.now) w.kept ∙ grind (arith, piece_more w.from w.most w.handed.bytes c.args.bytes.now, c.within-seen.ensures, c.saturating_sub-over.ensures, c.len.ensures, c.by-handed.ensures, w.kept, w.counted);
      counted = let e = length-append w.handed.bytes c.args.bytes.now in grind (arith, e, w.counted, c.in-Some.ensures, c.in-Some.is, c.by-handed.ensures);
    }
