-- What a list has at a place after another was set.
use Rattle.std.proofs.Common.{◌≡◌, ◌≢◌, ℕ, ◌<◌, List, Some, length, slice_get, ap, sym, ◌∙◌, arith}
use Rattle.std.proofs.Math.ListN.{set}
use Rattle.std.proofs.lemmas.List.{length-set}
use Rattle.std.proofs.lemmas.List.{get_or-set_other, get_or-set_same}
use Rattle.std.proofs.lemmas.Option.{slice_get_within, slice_get-get_or, get_or_from_slice_get}

pub set_other : {A : Type 0} (xs : List A) (i x : ℕ) (v c : A) → x ≢ i → slice_get (set xs i v) x ≡ Some c → slice_get xs x ≡ Some c
set_other xs i x v c ne h =
    let inside : x < length (set xs i v) = slice_get_within (set xs i v) x c h in
    let here : x < length xs = omega (arith, inside, length-set xs i v) in
    slice_get-get_or xs x c here ∙ ap Some (sym (get_or-set_other xs i x v c ne) ∙ get_or_from_slice_get (set xs i v) x c c h)

pub set_same : {A : Type 0} (xs : List A) (i : ℕ) (v c : A) → slice_get (set xs i v) i ≡ Some c → v ≡ c
set_same xs i v c h =
    let inside : i < length (set xs i v) = slice_get_within (set xs i v) i c h in
    let here : i < length xs = omega (arith, inside, length-set xs i v) in
    sym (get_or-set_same xs i v c here) ∙ get_or_from_slice_get (set xs i v) i c c h
