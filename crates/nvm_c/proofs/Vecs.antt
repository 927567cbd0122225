-- Vecs whose elements are written over by themselves.
use Rattle.std.proofs.Common.{◌≡◌, ◌∙◌, List, length, ap, sym}
use mathlib.Core.HLevel.{is_prop→PathP}
use native.Mathlib.Nat.{ℕ_set}
use Rattle.std_alloc.specs.Vec.{with_items}
use Rattle.std_alloc.specs.declared.vec.Vec.{Vec}
use Rattle.std.proofs.lemmas.List.{with_items_is}

pub with_own_items : {X Z : Type 0} (v : Vec X Z) (ws : List X) → ws ≡ v.items → with_items v ws ≡ v
with_own_items v ws same =
    let items : (with_items v ws).items ≡ v.items = with_items_is v ws (ap length same ∙ sym v.ok.0) ∙ same in
    λ i. record {
      ptr = v.ptr;
      len = v.len;
      cap = v.cap;
      alloc = v.alloc;
      items = items i;
      ok = (is_prop→PathP (λ j. v.len ≡ length (items j)) (λ j x y. ℕ_set _ _ x y) (with_items v ws).ok.0 v.ok.0 i, v.ok.1);
      small = v.small;
    }
