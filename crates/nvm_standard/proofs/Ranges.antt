-- One more range of a Deallocate, one more command.
use Rattle.std.proofs.Common.{◌≡◌, ℕ, suc, ◌+◌, ◌-◌, ◌<◌, List, ◌++◌, map, ap, subst, ◌∙◌, append_assoc, arith}
use Rattle.std.specs.List.{flat_map, range_with_len}
use Rattle.nvm_record.specs.Ranges.{range_at}
use Rattle.nvm_record.specs.declared.lba_range.LbaRange.{LbaRange}
use Rattle.nvm_standard.specs.PointView.{PointView}

-- the ranges that are left, of which there is one
abbrev pub those_left : (LbaRange → List PointView) → List ℕ → ℕ → ℕ → List PointView
those_left f payload place many = flat_map f (map (range_at payload) (range_with_len place many))

pub ranges_more : (f : LbaRange → List PointView) (payload : List ℕ) (place count : ℕ) (points more all : List PointView)
    → place < count → more ≡ points ++ f (range_at payload place) → points ++ those_left f payload place (count - place) ≡ all
    → more ++ those_left f payload (place + 1) (count - (place + 1)) ≡ all
ranges_more f payload place count points more all less new before =
    let one : count - place ≡ suc (count - (place + 1)) = omega arith in
    let rest : List PointView = those_left f payload (place + 1) (count - (place + 1)) in
    ap (λ (ps : List PointView). ps ++ rest) new
    ∙ append_assoc points (f (range_at payload place)) rest
    ∙ subst (λ (n : ℕ). points ++ those_left f payload place n ≡ all) one before
