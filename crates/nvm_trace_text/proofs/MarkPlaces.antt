-- The place of a mark, one byte after the other.
use Rattle.std.proofs.Common.{◌≡◌, ℕ, ◌+◌, ◌<◌, false, List, ◌∷◌, length, drop, get_or, sym, ap, ◌∙◌, arith}
use Rattle.std.proofs.lemmas.Bool.{cond-false}
use Rattle.std.proofs.lemmas.List.{drop_more}
use Rattle.nvm_trace_text.specs.Marks.{is_mark, mark_place}

pub one_further : (mark : ℕ) (bytes : List ℕ) (place : ℕ) → place < length bytes → is_mark mark (drop place bytes) ≡ false
    → place + mark_place mark (drop place bytes) ≡ mark_place mark bytes → place + 1 + mark_place mark (drop (place + 1) bytes) ≡ mark_place mark bytes
one_further mark bytes place lt none so_far =
    let e : drop place bytes ≡ get_or bytes place 0 ∷ drop (place + 1) bytes = drop_more bytes place 0 lt in
    let here : mark_place mark (drop place bytes) ≡ 1 + mark_place mark (drop (place + 1) bytes) =
    ap (mark_place mark) e ∙ cond-false (is_mark mark (get_or bytes place 0 ∷ drop (place + 1) bytes)) 0 (1 + mark_place mark (drop (place + 1) bytes)) (ap (is_mark mark) (sym e) ∙ none) in
    omega (arith, here, so_far)
