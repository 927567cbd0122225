-- One more unit of a Read that is held to be whole.
use Rattle.std.proofs.Common.{◌≡◌, ℕ, ◌-◌, false, List, [], ◌∷◌, ◌++◌, map, ap, sym, ◌∙◌, append_assoc}
use Rattle.nvm_geometry.specs.declared.piece.Piece.{Piece}
use Rattle.nvm_standard.specs.PointView.{PointView, FoundView}
use Rattle.nvm_standard.specs.Rows.{for_each, find_in_unit, found_part}
use Rattle.nvm_standard.specs.Runs.{run}
use Rattle.nvm_standard.specs.declared.doer.Doer.{Doer}

pub unit_point : (size : ℕ) (d : Doer) (first at : ℕ) (found part : FoundView) (p : Piece) (base : PointView)
    → base ≡ for_each d (run at p.blocks) → part ≡ found_part size (at - first) p.blocks found → p.first ≡ at
    → record base { found = part; each = false } ≡ find_in_unit size d first found p
unit_point size d first at found part p base each its same =
    ap (λ (b : PointView). record b { found = part; each = false }) each
    ∙ ap (λ (v : FoundView). record (for_each d (run at p.blocks)) { found = v; each = false }) its
    ∙ ap (λ (n : ℕ). record (for_each d (run n p.blocks)) { found = found_part size (n - first) p.blocks found; each = false }) (sym same)

pub units_more : (f : Piece → PointView) (points more : List PointView) (p : Piece) (new : List Piece) (q : PointView) (all : List PointView)
    → more ≡ points ++ q ∷ [] → q ≡ f p → points ++ map f (p ∷ new) ≡ all → more ++ map f new ≡ all
units_more f points more p new q all pushed same before =
    ap (λ (ps : List PointView). ps ++ map f new) pushed
    ∙ append_assoc points (q ∷ []) (map f new)
    ∙ ap (λ (r : PointView). points ++ r ∷ map f new) same
    ∙ before
